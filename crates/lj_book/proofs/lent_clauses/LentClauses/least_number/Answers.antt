use Rattle.std.proofs.Common.{ap, sym, ◌∙◌, ◌≡◌, ◌+◌, ◌<◌, ◌≤◌, arith}
use Rattle.std.specs.Prelude.{slice_get}
use Rattle.lj_book.specs.Lookup.{is_same}
use Rattle.lj_book.proofs.Bounds.{numbers_from, from-first, from-empty, from-taken, from-passed, from-end, before-given}
use Rattle.lj_book.proofs.Parts.{same_test}
use Rattle.lj_book.proofs.lent_clauses.LentClauses.least_number.Goals as goal
use Rattle.lj_book.proofs.lent_clauses.LentClauses.least_number.Goals.{in-Some+else-same, in_default}

pub loop-number-init : goal.loop-number-init
loop-number-init c =
    let end = c.args.last + 1 in
    from-first (is_same c.args.wanted.now) c.args.self.now end
    (before-given c.args.last c.args.self.now c.requires)

pub returns-then-same : goal.returns-then-same
returns-then-same c =
    let d = c.args.wanted.now in
    let there : c.loop-number.number < c.args.last + 1 = omega (arith, c.loop-number-test.true) in
    let passes = sym (same_test c.same.result d c.in-Some.clause c.same.ensures) ∙ c.if-same.true in
    ap (λ ns. slice_get ns 0)
    (sym (from-taken (is_same d) c.args.self.now (c.args.last + 1) c.loop-number.number c.in-Some.clause there (sym c.get.ensures ∙ c.in-Some.is) passes)
    ∙ c.loop-number.invariant)

pub loop-number-preserved : goal.loop-number-preserved
loop-number-preserved c =
    let d = c.args.wanted.now in
    let p = c.args.self.now in
    let end = c.args.last + 1 in
    let k = c.loop-number.number in
    let there : k < end = omega (arith, c.loop-number-test.true) in
    elim c.match-get.branch [
      | in-Some+else-same w ↦
          from-passed (is_same d) p end k w.in-Some.clause there (sym c.get.ensures ∙ w.in-Some.is)
          (sym (same_test w.same.result d w.in-Some.clause w.same.ensures) ∙ w.if-same.false)
          ∙ c.loop-number.invariant
      | in_default w ↦
          from-empty (is_same d) p end k there (sym c.get.ensures ∙ w.in_default.is)
          ∙ c.loop-number.invariant
    ]

pub returns-after-get : goal.returns-after-get
returns-after-get c =
    let d = c.args.wanted.now in
    let p = c.args.self.now in
    let k = c.loop-number.number in
    let end = c.args.last + 1 in
    let there : k < end = omega (arith, c.loop-number-test.true) in
    let past : end ≤ k + 1 = omega arith in
    let later : numbers_from (is_same d) p end (k + 1) ≡ numbers_from (is_same d) p end k = elim c.match-get.branch [
      | in-Some+else-same w ↦
          from-passed (is_same d) p end k w.in-Some.clause there (sym c.get.ensures ∙ w.in-Some.is)
          (sym (same_test w.same.result d w.in-Some.clause w.same.ensures) ∙ w.if-same.false)
      | in_default w ↦
          from-empty (is_same d) p end k there (sym c.get.ensures ∙ w.in_default.is)
    ] in
    ap (λ ns. slice_get ns 0) (sym (from-end (is_same d) p end (k + 1) past) ∙ later ∙ c.loop-number.invariant)
