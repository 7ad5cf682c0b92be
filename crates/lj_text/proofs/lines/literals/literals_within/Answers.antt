use Rattle.std.proofs.Common.{List, ℕ, Bool, [], ◌∷◌, ◌++◌, ◌+◌, ◌<◌, ◌≡◌, ◌==◌, cond, drop, get_or, ◌∙◌, ap, sym, subst, arith}
use Rattle.std.specs.Prelude.{ℤ}
use Rattle.std.specs.Int.Count.{count_trailing_zeros}
use Rattle.std.proofs.lemmas.Nat.{trailing_le}
use Rattle.std.proofs.lemmas.List.{drop-drop, get_or-drop, length-drop}
use Rattle.lj_clause.specs.Literal.{literal_on}
use Rattle.lj_text.specs.inner.ShortNumbers.{AreLiteralsAhead, IsTokenAhead}
use Rattle.lj_text.proofs.ShortLemmas.{integer-ahead, literals-more}
use Rattle.lj_text.proofs.lines.literals.literals_within.Goals as goal

pub loop-spaces-preserved : goal.loop-spaces-preserved
loop-spaces-preserved c =
    let l = c.loop-spaces in
    let s = c.in-Some in
    let window : List ℕ = c.args.window.now in
    let old : List ℤ = l.literals.items in
    let sign : Bool = (get_or window l.start 0 == 45) in
    let rest : List ℕ = drop l.start window in
    let after : List ℕ = drop (count_trailing_zeros 64 l.spaces + 1) window in
    let first : get_or window l.start 0 ≡ get_or rest 0 0 = ap (λ i. get_or window i 0) (omega arith) ∙ sym (get_or-drop l.start window 0 0) in
    let digits = ap (λ k. drop (l.start + k) window) c.from.ensures ∙ sym (drop-drop _ l.start window) in
    let ahead : 0 < s.variable → IsTokenAhead rest (literal_on s.variable sign) after =
    λ more. integer-ahead rest (drop (l.start + c.from.result) window) sign s.variable after (omega (arith, length-drop l.start window, l.invariant.1)) (ap (λ b. b == 45) first) digits more s.ensures.number in
    let P : List ℤ → Type 0 = λ items. AreLiteralsAhead c.args.max c.args.literals.now.items window items after in (
      subst P (sym (c.push.ensures.items ∙ ap (λ ok. cond ok (old ++ c.of.result ∷ []) old) c.if-is_err.ensures.negation ∙ ap (λ lit. old ++ lit ∷ []) c.of.ensures))
          (literals-more c.args.max c.args.literals.now.items window old rest s.variable sign after c.if-variable-eq0.false c.if-variable-max.false ahead l.invariant.0),
      omega (arith, trailing_le 64 l.spaces),
    )
