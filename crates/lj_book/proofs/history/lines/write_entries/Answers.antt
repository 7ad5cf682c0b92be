use Rattle.std.proofs.Common.{◌≡◌, ℕ, ℤ, List, [], ◌++◌, ◌+◌, ◌%◌, drop, get_or, sym, ap, ◌∙◌}
use Rattle.std.specs.Prelude.{filter_map, true, false}
use Rattle.std.proofs.Math.ListN.{drop_of_length-le}
use Rattle.lj_text.specs.declared.step.Step.{Step}
use Rattle.lj_text.specs.Needed.{up_to_empty}
use Rattle.lj_text.specs.StepText.{text_after}
use Rattle.lj_book.specs.inner.Records.{step_in}
use Rattle.lj_book.specs.inner.StepLines.{entry_text, entry_greatest, ends_proof}
use Rattle.lj_book.proofs.RecordLaws.{step_at, steps_at}
use Rattle.lj_book.proofs.StepLineLemmas.{given_as, remains_less, remains_none, remains_as, line_more, line_last, entry_next, step_there}
use Rattle.lj_book.proofs.history.lines.write_entries.Goals as goal

pub returns-then-ends_proof : goal.returns-then-ends_proof
returns-then-ends_proof g c =
    let ls : List ℤ = c.args.lits.now in
    let ws : List ℕ = c.args.encoding.now in
    let ss : List ℕ = c.args.starts.now in
    let i : ℕ = c.loop-start.start-index in
    let n : ℕ = c.loop-start.greatest in
    let left : List Step = filter_map (step_at ls ws) (drop (i + 1) ss) in
    let there : step_in ls (c.number-head.result.0 % 8) c.number-head.result.1.now ≡ step_at ls ws (get_or ss i 0) =
    step_there ls ws _ _ _ _ c.encoding_from.ensures c.number-head.ensures.number c.number-head.ensures.rest in
    let ends : ends_proof (step_at ls ws (get_or ss i 0)) ≡ true = ap ends_proof (sym there) ∙ sym c.ends_proof.ensures ∙ c.if-ends_proof.true in
    record {
      given = given_as _ _ _ _ (remains_none _ _ _
          (remains_less _ _ _ _ _ _ _ c.loop-start.invariant.remains
          (entry_next ls ws ss i n c.loop-start-test.true ∙ line_last n _ left ends ∙ ap (λ o. entry_text n o ++ []) (sym there))
          c.write_step-greatest.ensures.given))
          (ap (λ steps. text_after c.args.clauses (up_to_empty steps)) (sym (steps_at ls ws ss)));
    }

pub loop-start-preserved : goal.loop-start-preserved
loop-start-preserved g c =
    let ls : List ℤ = c.args.lits.now in
    let ws : List ℕ = c.args.encoding.now in
    let ss : List ℕ = c.args.starts.now in
    let i : ℕ = c.loop-start.start-index in
    let n : ℕ = c.loop-start.greatest in
    let left : List Step = filter_map (step_at ls ws) (drop (i + 1) ss) in
    let there : step_in ls (c.number-head.result.0 % 8) c.number-head.result.1.now ≡ step_at ls ws (get_or ss i 0) =
    step_there ls ws _ _ _ _ c.encoding_from.ensures c.number-head.ensures.number c.number-head.ensures.rest in
    let goes_on : ends_proof (step_at ls ws (get_or ss i 0)) ≡ false = ap ends_proof (sym there) ∙ sym c.ends_proof.ensures ∙ c.if-ends_proof.false in
    record {
      remains = remains_as _ _ _ _ _
          (remains_less _ _ _ _ _ _ _ c.loop-start.invariant.remains
          (entry_next ls ws ss i n c.loop-start-test.true ∙ line_more n _ left goes_on ∙ ap (λ o. entry_text n o ++ text_after (entry_greatest n o) (up_to_empty left)) (sym there))
          c.write_step-greatest.ensures.given)
          (ap (λ m. text_after m (up_to_empty left)) (sym c.write_step-greatest.ensures.greatest));
    }

pub returns : goal.returns
returns g c =
    let ls : List ℤ = c.args.lits.now in
    let ws : List ℕ = c.args.encoding.now in
    let ss : List ℕ = c.args.starts.now in
    let none : drop c.loop-start.start-index ss ≡ [] = drop_of_length-le ss c.loop-start-test.false in
    record {
      given = given_as _ _ _ _ (remains_none _ _ _
          (remains_as _ _ _ _ _ c.loop-start.invariant.remains
          (ap (λ xs. text_after c.loop-start.greatest (up_to_empty (filter_map (step_at ls ws) xs))) none)))
          (ap (λ steps. text_after c.args.clauses (up_to_empty steps)) (sym (steps_at ls ws ss)));
    }
