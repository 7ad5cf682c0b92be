use Rattle.std.proofs.Common.{◌≡◌, ap, sym, ◌∙◌, ◌+◌, ◌∷◌, ℕ, ℤ, map, List, drop, subst}
use Rattle.std.specs.Prelude.{Bool, true, false, not, cond, filter}
use Rattle.std.specs.Fmt.{signed_decimal}
use Rattle.std.specs.Ordering.{eq_by_cmp}
use Rattle.lj_clause.specs.Literal.{lit_cmp}
use Rattle.lj_text.specs.inner.Writing.{spaced_tokens}
use Rattle.lj_text.specs.TokenWriting.{TokenState, token_state}
use Rattle.lj_book.specs.inner.StepLines.{Remains}
use Rattle.lj_book.proofs.StepLineLemmas.{remains_less, remains_as, next_item}
use Rattle.lj_book.proofs.history.lines.write_others.Goals as goal
use Rattle.lj_book.proofs.history.lines.write_others.Goals.{then-ne, else-ne}

-- the literals without the pivot, by the first of them
without_first : (pivot l : ℤ) (ls : List ℤ) (b : Bool) → not (eq_by_cmp lit_cmp l pivot) ≡ b → spaced_tokens (map signed_decimal (filter (λ x. not (eq_by_cmp lit_cmp x pivot)) (l ∷ ls)))
    ≡ spaced_tokens (map signed_decimal (cond b (l ∷ filter (λ x. not (eq_by_cmp lit_cmp x pivot)) ls) (filter (λ x. not (eq_by_cmp lit_cmp x pivot)) ls)))
without_first pivot l ls b e = ap (λ t. spaced_tokens (map signed_decimal (cond t (l ∷ filter (λ x. not (eq_by_cmp lit_cmp x pivot)) ls) (filter (λ x. not (eq_by_cmp lit_cmp x pivot)) ls)))) e

pub loop-literal-preserved : goal.loop-literal-preserved
loop-literal-preserved g c =
    let pivot : ℤ = c.args.pivot in
    let written : List ℤ → List ℕ = λ ls. spaced_tokens (map signed_decimal (filter (λ x. not (eq_by_cmp lit_cmp x pivot)) ls)) in
    let here = ap written (next_item c.args.literals.now c.loop-literal.literal-index c.literal-item.result c.loop-literal-test.true c.literal-item.is) in
    let x : ℤ = c.literal-item.result in
    let rest : List ℤ = drop (c.loop-literal.literal-index + 1) c.args.literals.now in
    let start : TokenState = token_state (g.W.Sink.taken c.args.sink.now) (g.W.Sink.failures c.args.sink.now) c.args.writer.now in
    let P : TokenState → Type 0 = λ now. Remains start (written c.args.literals.now) now (written rest) in
    elim c.if-ne.branch [
      | then-ne w ↦ record {
        remains = subst P (λ i. token_state (g.W.Sink.taken (sym w.sink-is i)) (g.W.Sink.failures (sym w.sink-is i)) (sym w.writer-is i))
            (remains_less _ _ _ _ _ _ _ c.loop-literal.invariant.remains (here ∙ without_first pivot x rest true (sym c.ne.ensures ∙ w.if-ne.true)) w.token.ensures.given);
      }
      | else-ne w ↦ record {
        remains = subst P (λ i. token_state (g.W.Sink.taken (sym w.sink-is i)) (g.W.Sink.failures (sym w.sink-is i)) (sym w.writer-is i))
            (remains_as _ _ _ _ _ c.loop-literal.invariant.remains (here ∙ without_first pivot x rest false (sym c.ne.ensures ∙ w.if-ne.false)));
      }
    ]
