use Rattle.std.proofs.Common.{ap, sym, ◌∙◌, ◌++◌, ◌+◌, ◌<◌, ◌≤◌, arith}
use Rattle.std.specs.Prelude.{[], ◌∷◌}
use Rattle.std.proofs.lemmas.List.{append-nil, append_assoc}
use Rattle.lj_clause.specs.LiteralSet.{LiteralSet, holds}
use Rattle.lj_book.proofs.Bounds.{numbers_from, from-first, from-empty, from-taken, from-passed, from-end, from_skipped, before-given}
use Rattle.lj_book.proofs.lent_clauses.LentClauses.numbers_holding.Goals as goal
use Rattle.lj_book.proofs.lent_clauses.LentClauses.numbers_holding.Goals.{else-loop-number-test, then-loop-number-test+else-number-last, in-Some+then-holds+in_ok-push, in-Some+else-holds, in_default}

pub loop-number-init : goal.loop-number-init
loop-number-init c =
    let p = c.args.self.now in
    let end = c.args.last + 1 in
    let test = λ (d : LiteralSet). holds d c.args.lit in
    ap (λ ns. ns ++ numbers_from test p end c.args.from) c.new-numbers.ensures.items
    ∙ from_skipped test p end c.args.from c.args.from (omega arith) (λ n d at is. c.requires.since n d at is)
    ∙ from-first test p end (before-given c.args.last p c.requires.given)

pub loop-number-preserved : goal.loop-number-preserved
loop-number-preserved c =
    let p = c.args.self.now in
    let end = c.args.last + 1 in
    let k = c.loop-number.number in
    let found = c.loop-number.numbers.items in
    let there : k < end = omega (arith, c.loop-number-test.true) in
    let test = λ (d : LiteralSet). holds d c.args.lit in
    let later = numbers_from test p end (k + 1) in
    elim c.match-get.branch [
      | in-Some+then-holds+in_ok-push w ↦
          ap (λ ns. ns ++ later) (ap (λ v. v.items) w.numbers-is ∙ w.in_ok-push.ensures.items)
          ∙ append_assoc found (k ∷ []) later
          ∙ ap (λ ns. found ++ ns) (sym (from-taken test p end k w.in-Some.clause there (sym c.get.ensures ∙ w.in-Some.is) (sym w.holds.ensures ∙ w.if-holds.true)))
          ∙ c.loop-number.invariant
      | in-Some+else-holds w ↦
          ap (λ ns. ns ++ later) (ap (λ v. v.items) w.numbers-is)
          ∙ ap (λ ns. found ++ ns) (from-passed test p end k w.in-Some.clause there (sym c.get.ensures ∙ w.in-Some.is) (sym w.holds.ensures ∙ w.if-holds.false))
          ∙ c.loop-number.invariant
      | in_default w ↦
          ap (λ ns. ns ++ later) (ap (λ v. v.items) w.numbers-is)
          ∙ ap (λ ns. found ++ ns) (from-empty test p end k there (sym c.get.ensures ∙ w.in_default.is))
          ∙ c.loop-number.invariant
    ]

pub returns : goal.returns
returns c =
    let p = c.args.self.now in
    let end = c.args.last + 1 in
    let k = c.loop-number.number in
    let found = c.loop-number.numbers.items in
    let test = λ (d : LiteralSet). holds d c.args.lit in
    elim c.loop-number-test.branch [
      | else-loop-number-test w ↦
          ap (λ v. v.items) w.numbers-is
          ∙ sym (append-nil found)
          ∙ ap (λ ns. found ++ ns) (sym (from-end test p end k (omega (arith, w.loop-number-test.false))))
          ∙ c.loop-number.invariant
      | then-loop-number-test+else-number-last w ↦
          let there : k < end = omega (arith, w.loop-number-test.true) in
          let past : end ≤ k + 1 = omega arith in
          elim w.match-get.branch [
            | in-Some+then-holds+in_ok-push w' ↦
                ap (λ v. v.items) (w.numbers-is ∙ w'.numbers-is) ∙ w'.in_ok-push.ensures.items
                ∙ ap (λ ns. found ++ ns) (ap (λ ns. k ∷ ns) (sym (from-end test p end (k + 1) past)) ∙ sym (from-taken test p end k w'.in-Some.clause there (sym w.get.ensures ∙ w'.in-Some.is) (sym w'.holds.ensures ∙ w'.if-holds.true)))
                ∙ c.loop-number.invariant
            | in-Some+else-holds w' ↦
                ap (λ v. v.items) (w.numbers-is ∙ w'.numbers-is)
                ∙ sym (append-nil found)
                ∙ ap (λ ns. found ++ ns) (sym (from-end test p end (k + 1) past) ∙ from-passed test p end k w'.in-Some.clause there (sym w.get.ensures ∙ w'.in-Some.is) (sym w'.holds.ensures ∙ w'.if-holds.false))
                ∙ c.loop-number.invariant
            | in_default w' ↦
                ap (λ v. v.items) (w.numbers-is ∙ w'.numbers-is)
                ∙ sym (append-nil found)
                ∙ ap (λ ns. found ++ ns) (sym (from-end test p end (k + 1) past) ∙ from-empty test p end k there (sym w.get.ensures ∙ w'.in_default.is))
                ∙ c.loop-number.invariant
          ]
    ]
