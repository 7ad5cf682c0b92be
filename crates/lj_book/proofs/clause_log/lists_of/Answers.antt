use Rattle.std.proofs.Common.{ap, sym, ◌∙◌, subst, ◌+◌, arith}
use Rattle.std.specs.FinMap as fin
use Rattle.lj_book.specs.inner.Occurrences.{Lists, AreOccurrences}
use Rattle.lj_book.proofs.OccurrenceLaws.{clauses_below, none_yet, next_listed, next_passed, all_listed}
use Rattle.lj_book.proofs.clause_log.lists_of.Goals as goal
use Rattle.lj_book.proofs.clause_log.lists_of.Goals.{in-Some+else-not-add_clause, in_default-get}

pub loop-number-init : goal.loop-number-init
loop-number-init c = none_yet c.args.clauses.now c.in-Ok.lists c.in-Ok.ensures

pub loop-number-preserved : goal.loop-number-preserved
loop-number-preserved c =
    let p = c.args.clauses.now in
    let n = c.loop-number.number in
    elim c.match-get.branch [
      | in-Some+else-not-add_clause w ↦
          subst (λ (m : Lists). AreOccurrences m (clauses_below p (n + 1)) (n + 1)) (sym w.lists-is)
          (next_listed p c.loop-number.lists w.add_clause.new.self n w.in-Some.clause c.loop-number.invariant
          (ap (fin.get p) (sym c.from.ensures) ∙ sym c.get.ensures ∙ w.in-Some.is) (w.add_clause.ensures w.if-not-add_clause.false))
      | in_default-get w ↦
          subst (λ (m : Lists). AreOccurrences m (clauses_below p (n + 1)) (n + 1)) (sym w.lists-is)
          (next_passed p c.loop-number.lists n c.loop-number.invariant
          (ap (fin.get p) (sym c.from.ensures) ∙ sym c.get.ensures ∙ w.in_default-get.is))
    ]

pub returns : goal.returns
returns c = all_listed c.args.clauses.now c.loop-number.lists c.loop-number.number c.args.end c.loop-number.invariant (omega arith) c.requires
