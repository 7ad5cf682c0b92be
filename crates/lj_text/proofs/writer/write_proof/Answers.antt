use Rattle.std.proofs.Common.{◌≡◌, ℕ, List, [], ◌++◌, ◌<◌, map, length, get_or, ap, subst, sym, ◌∙◌, append-nil}
use Rattle.std.proofs.lemmas.List.{length-map, get_or-map}
use Rattle.lj_text.specs.declared.step.Step.{Step}
use Rattle.lj_text.specs.StepText.{step_text, greatest_with}
use Rattle.lj_text.specs.Writing.{IsCutShort}
use Rattle.lj_text.specs.inner.Writing.{Wrote, Broke}
use Rattle.lj_text.proofs.WritingLemmas.{broke_then, broke_more, wrote_then, on_err}
use Rattle.lj_text.proofs.WrittenTokens.{text-more, greatest-more, text_parts}
use Rattle.lj_text.proofs.writer.write_proof.Goals as goal

cut_short_of : (t0 t1 x : List ℕ) → Broke t0 [] t1 x → IsCutShort t1 (t0 ++ x)
cut_short_of t0 t1 x b = let P : List ℕ → Type 0 = λ t. IsCutShort t1 (t ++ x) in subst P (append-nil t0) b.cut_short

-- the step that an item of a list lends
lent_at : {X : Type 0} (f : X → Step) (xs : List X) (i : ℕ) (y : X) (x : Step) → i < length xs → y ≡ get_or xs i y → x ≡ f y → x ≡ get_or (map f xs) i x
lent_at f xs i y x lt e here = here ∙ ap f e ∙ sym (get_or-map f xs i y x lt)

within : {X : Type 0} (f : X → Step) (xs : List X) (i : ℕ) → i < length xs → i < length (map f xs)
within f xs i lt = subst (λ (n : ℕ). i < n) (sym (length-map xs f)) lt

pub returns-in_err-write_step-clause-cut_short : goal.returns-in_err-write_step-clause-cut_short
returns-in_err-write_step-clause-cut_short g c =
    let i = c.loop-lender.lender-index in
    let f = g.S.AsStep.step in
    let steps = map f c.args.steps.now in
    let x = c.as_step-step.result.now in
    let lt = within f c.args.steps.now i c.loop-lender-test.true in
    let is = lent_at f c.args.steps.now i c.lender-item.result x c.loop-lender-test.true c.lender-item.is c.as_step-step.ensures in
    let P : ℕ → Type 0 = λ n. Broke (g.W.Sink.taken c.loop-lender.sink) c.loop-lender.buffer (g.W.Sink.taken c.write_step.new.sink) (step_text n x) in
    let broke = subst P c.loop-lender.invariant.greatest_is c.in_err-write_step.ensures.broke in
    on_err c.from_residual.result _ (cut_short_of (g.W.Sink.taken c.args.sink.now) _ _ (subst (Broke _ _ _) (text_parts c.args.clauses steps i x lt is)
    (broke_then _ _ _ _ _ _ _ c.loop-lender.invariant.wrote (broke_more _ _ _ _ _ broke))))

pub loop-lender-preserved : goal.loop-lender-preserved
loop-lender-preserved g c =
    let i = c.loop-lender.lender-index in
    let f = g.S.AsStep.step in
    let steps = map f c.args.steps.now in
    let x = c.as_step-step.result.now in
    let lt = within f c.args.steps.now i c.loop-lender-test.true in
    let is = lent_at f c.args.steps.now i c.lender-item.result x c.loop-lender-test.true c.lender-item.is c.as_step-step.ensures in
    let P : ℕ → Type 0 = λ n. Wrote (g.W.Sink.taken c.loop-lender.sink) c.loop-lender.buffer (g.W.Sink.taken c.write_step.new.sink) c.write_step.new.buffer (step_text n x) in
    let wrote = subst P c.loop-lender.invariant.greatest_is c.in_ok-write_step.ensures.wrote in
    record {
      wrote = subst (Wrote _ _ _ _) (sym (text-more c.args.clauses steps i x lt is))
          (wrote_then _ _ _ _ _ _ _ _ c.loop-lender.invariant.wrote wrote);
      greatest_is = c.greatest_after-greatest.ensures ∙ ap (λ n. greatest_with n x) c.loop-lender.invariant.greatest_is
          ∙ sym (greatest-more c.args.clauses steps i x lt is);
      unfailed = c.in_ok-write_step.ensures.unfailed;
    }
