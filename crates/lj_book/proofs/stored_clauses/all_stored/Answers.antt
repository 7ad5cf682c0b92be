use Rattle.std.proofs.Common.{ap, sym, ◌∙◌, arith}
use Rattle.std.specs.Prelude.{option_copied}
use Rattle.std.specs.FinMap as fin
use Rattle.lj_clause.specs.ClauseMap.{ClauseMap}
use Rattle.lj_book.proofs.Copies.{copied-none, copied-more, copied-missing, copied-all}
use Rattle.lj_book.proofs.stored_clauses.all_stored.Goals as goal
use Rattle.lj_book.proofs.stored_clauses.all_stored.Goals.{in-Some+in_ok-insert, in_default}

pub loop-number-init : goal.loop-number-init
loop-number-init c = copied-none c.args.formula.now c.new-clauses.result c.new-clauses.ensures

pub loop-number-preserved : goal.loop-number-preserved
loop-number-preserved c =
    let f = c.args.formula.now in
    let k = c.loop-number.number in
    λ q. elim c.match-clause.branch [
      | in-Some+in_ok-insert w ↦
          copied-more f c.loop-number.clauses c.match-clause.clauses k w.in-Some.clause.now c.loop-number.invariant
          (sym c.clause.ensures ∙ ap option_copied w.in-Some.is)
          (w.clauses-is ∙ w.in_ok-insert.ensures) q
      | in_default w ↦
          ap (λ (m : ClauseMap). fin.get m q) w.clauses-is
          ∙ copied-missing f c.loop-number.clauses k c.loop-number.invariant (sym c.clause.ensures ∙ ap option_copied w.in_default.is) q
    ]

pub returns : goal.returns
returns c = copied-all c.args.formula.now c.loop-number.clauses c.loop-number.number (omega (arith, c.len-number-end.ensures.len)) c.loop-number.invariant
