use Rattle.std.proofs.Common.{ap, ◌∙◌, sym, ◌++◌, map, take, append-nil}
use Rattle.std.specs.Prelude.{filter_map, option_map, option_to_list}
use Rattle.std.proofs.lemmas.List.{map-append}
use Rattle.lj_trim.specs.Trimmed.{step_of}
use Rattle.lj_trim.specs.inner.Trimmed.{keeps, trimmed_by}
use Rattle.lj_trim.proofs.TrimmedLemmas.{steps_more}
use Rattle.lj_trim.proofs.trimming.trimmed_steps.Goals as goal
use Rattle.lj_trim.proofs.trimming.trimmed_steps.Goals.{in-Some+in_ok-push, in_default}

pub loop-step-preserved : goal.loop-step-preserved
loop-step-preserved c =
    let h = trimmed_by (keeps c.args.clauses c.args.marks.now) in
    let more = steps_more h c.args.steps.now c.loop-step.step-index c.step-item.result c.in_ok-left.field-0 c.loop-step-test.true c.step-item.is c.in_ok-left.ensures in
    elim c.match-branch-2.branch [
      | in-Some+in_ok-push w ↦
          ap (λ v. map step_of v.items) w.kept-is
          ∙ ap (map step_of) w.in_ok-push.ensures.items
          ∙ map-append step_of c.loop-step.kept.items _
          ∙ (λ i. c.loop-step.invariant i ++ option_to_list (option_map step_of (sym w.in-Some.is i)))
          ∙ sym more
      | in_default w ↦
          ap (λ v. map step_of v.items) w.kept-is
          ∙ c.loop-step.invariant
          ∙ sym (append-nil (filter_map h (take c.loop-step.step-index c.args.steps.now)))
          ∙ ap (λ o. filter_map h (take c.loop-step.step-index c.args.steps.now) ++ option_to_list (option_map step_of o)) (sym w.in_default.is)
          ∙ sym more
    ]
