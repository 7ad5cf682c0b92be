use Rattle.std.proofs.Common.{List, [], ◌∷◌, ◌++◌, cond, ◌∙◌, ap, sym, subst, arith}
use Rattle.std.specs.Prelude.{ℤ}
use Rattle.lj_text.specs.inner.ShortNumbers.{AreLiteralsAhead}
use Rattle.lj_text.proofs.ShortLemmas.{literals-more}
use Rattle.lj_text.proofs.lines.literals.last_literals.Goals as goal

pub loop-variable-preserved : goal.loop-variable-preserved
loop-variable-preserved c =
    let l = c.loop-variable in
    let s = c.in-Some in
    let old : List ℤ = l.literals.items in
    let P : List ℤ → Type 0 = λ items. AreLiteralsAhead c.args.max c.args.literals.now.items c.args.bytes.now items s.after.now in (
      subst P (sym (c.push.ensures.items ∙ ap (λ ok. cond ok (old ++ c.of.result ∷ []) old) c.if-is_err.ensures.negation ∙ ap (λ lit. old ++ lit ∷ []) c.of.ensures))
          (literals-more c.args.max c.args.literals.now.items c.args.bytes.now old l.rest.now s.variable s.negative s.after.now c.if-variable-eq0.false c.if-variable-max.false s.ensures.number l.invariant.0),
      omega (arith, s.ensures.shorter, l.invariant.1),
    )
