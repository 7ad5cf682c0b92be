use Rattle.std.proofs.Common.{◌≡◌, ℕ, ap, ◌∙◌, sym, ◌∷◌, [], ◌-◌, ◌≤◌, ◌<◌, List, map, drop, get_or, length, arith}
use Rattle.std.specs.Borrow.{Bor}
use Rattle.std.proofs.lemmas.List.{map-append}
use Rattle.lj_text.specs.declared.line.Addition.{Addition}
use Rattle.lj_trim.specs.inner.Front.{lent_addition}
use Rattle.lj_trim.proofs.MarkLemmas.{passed_taken, passed_open, passed_along, passed_still}
use Rattle.lj_trim.proofs.FrontLemmas.{drop-item, drop-map}
use Rattle.lj_trim.proofs.needed.pass.Goals as goal

next_addition : (items : List (Bor Addition)) (n : ℕ) (x : Bor Addition) → 0 < n → n ≤ length items → x ≡ get_or items (n - 1) x
    → lent_addition x ∷ drop n (map lent_addition items) ≡ drop (n - 1) (map lent_addition items)
next_addition items n x some le e =
    sym (drop-map lent_addition (n - 1) items ∙ ap (map lent_addition) (drop-item items n x some le e) ∙ ap (λ t. lent_addition x ∷ t) (sym (drop-map lent_addition n items)))

pub loop-left-preserved-in-Continue-1 : goal.loop-left-preserved-in-Continue-1
loop-left-preserved-in-Continue-1 c =
    let items = c.args.begun.now.items in
    let next = next_addition items c.loop-left.left c.index-addition.result.now c.loop-left-test.true c.loop-left.invariant.inside c.index-addition.ensures in
    record {
      within = omega (arith, c.loop-left.invariant.within);
      inside = omega (arith, c.loop-left.invariant.inside);
      passed = passed_along _ _ _ _ _ next (passed_taken _ _ _ _ _ _ c.loop-left.invariant.passed (sym c.has.ensures ∙ c.if-has.true) c.in_ok-mark_hints.ensures);
    }

pub loop-left-preserved : goal.loop-left-preserved
loop-left-preserved c =
    let items = c.args.begun.now.items in
    let next = next_addition items c.loop-left.left c.index-addition.result.now c.loop-left-test.true c.loop-left.invariant.inside c.index-addition.ensures in
    let longer = sym (ap (map lent_addition) c.in_ok-push.ensures.items ∙ map-append lent_addition c.loop-left.still.items (c.index-addition.result.now ∷ [])) in
    record {
      within = omega (arith, c.loop-left.invariant.within);
      inside = omega (arith, c.loop-left.invariant.inside);
      passed = passed_still _ _ _ _ _ longer (passed_along _ _ _ _ _ next (passed_open _ _ _ _ _ c.loop-left.invariant.passed (sym c.has.ensures ∙ c.if-has.false)));
    }

pub returns : goal.returns
returns c =
    let none : c.loop-left.left ≡ 0 = omega (arith, c.loop-left-test.false) in
    passed_along _ _ _ _ _ (ap (λ n. drop n (map lent_addition c.args.begun.now.items)) none) c.loop-left.invariant.passed
