use Rattle.std.proofs.Common.{ap, ◌∙◌, sym, ◌++◌, ◌∷◌, [], append-nil, map, take}
use Rattle.std.proofs.lemmas.List.{map-append}
use Rattle.lj_text.specs.Needed.{additions}
use Rattle.lj_trim.specs.inner.Front.{lent_addition}
use Rattle.lj_trim.proofs.FrontLemmas.{additions-more}
use Rattle.lj_trim.proofs.needed.additions_of.Goals as goal
use Rattle.lj_trim.proofs.needed.additions_of.Goals.{in-Add+in_ok-push, in_default}

pub loop-step-preserved : goal.loop-step-preserved
loop-step-preserved c =
    let before = additions (take c.loop-step.step-index c.args.steps.now) in
    let more = additions-more c.args.steps.now c.loop-step.step-index c.step-item.result c.loop-step-test.true c.step-item.is in
    elim c.match-step.branch [
      | in-Add+in_ok-push w ↦
          ap (λ v. map lent_addition v.items) w.found-is
          ∙ ap (map lent_addition) w.in_ok-push.ensures.items
          ∙ map-append lent_addition c.loop-step.found.items _
          ∙ ap (λ t. t ++ w.in-Add.addition ∷ []) c.loop-step.invariant
          ∙ ap (λ s. before ++ additions (s ∷ [])) (sym w.in-Add.is)
          ∙ sym more
      | in_default w ↦
          ap (λ v. map lent_addition v.items) w.found-is
          ∙ c.loop-step.invariant
          ∙ sym (append-nil before)
          ∙ ap (λ s. before ++ additions (s ∷ [])) (sym w.in_default.is)
          ∙ sym more
    ]
