use Rattle.std.proofs.Common.{List, ℕ, [], ◌∷◌, ◌++◌, cond, ◌∙◌, ap, sym, subst, arith}
use Rattle.lj_text.specs.inner.ShortNumbers.{AreNumbersAhead}
use Rattle.lj_text.proofs.ShortLemmas.{numbers-more}
use Rattle.lj_text.proofs.numbers.last_numbers.Goals as goal

pub loop-number-preserved : goal.loop-number-preserved
loop-number-preserved c =
    let l = c.loop-number in
    let e = c.in-Some.ensures in
    let more : List ℕ = l.numbers.items ++ c.in-Some.number ∷ [] in
    let P : List ℕ → Type 0 = λ items. AreNumbersAhead c.args.numbers.now.items c.args.bytes.now items c.in-Some.after.now in (
      subst P (sym (c.push.ensures.items ∙ ap (λ ok. cond ok more l.numbers.items) c.if-is_err.ensures.negation))
          (numbers-more c.args.numbers.now.items c.args.bytes.now l.numbers.items l.rest.now c.in-Some.number c.in-Some.after.now c.if-number-eq0.false (omega (arith, e.small)) e.number l.invariant.0),
      omega (arith, e.shorter, l.invariant.1),
    )
