use Rattle.std.proofs.Common.{List, ℕ, [], ◌∷◌, ◌++◌, ◌+◌, cond, drop, ◌∙◌, ap, sym, subst, refl, arith}
use Rattle.std.specs.Int.Count.{count_trailing_zeros}
use Rattle.lj_text.specs.inner.ShortNumbers.{AreNumbersAhead}
use Rattle.lj_text.proofs.LaneLemmas.{end-at}
use Rattle.lj_text.proofs.ShortLemmas.{numbers-more, numbers-none, short-ahead}
use Rattle.lj_text.proofs.numbers.numbers_within.Goals as goal

pub loop-others-init : goal.loop-others-init
loop-others-init c = (numbers-none c.args.numbers.now.items c.args.window.now, omega arith, c.others_in-others.ensures)

pub number_of_digits-requires-clause-within : goal.number_of_digits-requires-clause-within
number_of_digits-requires-clause-within c =
    let l = c.loop-others in
    let at = end-at c.args.window.now l.start l.others _ c.told-window l.invariant.2 c.loop-others-test.true refl in
    (omega (arith, l.invariant.1, c.told-window), omega (arith, at.within, c.told-window))

pub number_of_digits-requires-clause-digits : goal.number_of_digits-requires-clause-digits
number_of_digits-requires-clause-digits c =
    let l = c.loop-others in
    (end-at c.args.window.now l.start l.others _ c.told-window l.invariant.2 c.loop-others-test.true refl).digits

pub loop-others-preserved : goal.loop-others-preserved
loop-others-preserved c =
    let l = c.loop-others in
    let s = c.in-Some in
    let window : List ℕ = c.args.window.now in
    let end : ℕ = count_trailing_zeros 64 l.others in
    let at = end-at window l.start l.others end c.told-window l.invariant.2 c.loop-others-test.true refl in
    let more : List ℕ = l.numbers.items ++ s.number ∷ [] in
    let after : List ℕ = drop (end + 1) window in
    let P : List ℕ → Type 0 = λ items. AreNumbersAhead c.args.numbers.now.items window items after in (
      subst P (sym (c.push_u32.ensures.items ∙ ap (λ ok. cond ok more l.numbers.items) c.if-is_err.ensures.negation))
          (numbers-more c.args.numbers.now.items window l.numbers.items (drop l.start window) s.number after c.if-number-eq0.false (omega (arith, s.ensures.number.small))
          (short-ahead (drop l.start window) s.number after s.ensures.number) l.invariant.0),
      omega (arith, at.within),
      at.next,
    )
