use Rattle.std.proofs.Common.{ap, ◌∙◌, ◌++◌, append-nil}
use Rattle.lj_text.specs.StepText.{group_tokens}
use Rattle.lj_text.specs.inner.Writing.{spaced_tokens}
use Rattle.lj_text.proofs.WritingLemmas.{on_err}
use Rattle.lj_text.proofs.WrittenTokens.{broke_behind, groups_text, groups_text-append}
use Rattle.lj_text.proofs.writer.step_tokens.write_groups.Goals as goal

pub returns-in_err-write_group-clause-broke : goal.returns-in_err-write_group-clause-broke
returns-in_err-write_group-clause-broke g c =
    on_err c.from_residual.result _ (broke_behind groups_text groups_text-append c.args.groups.now c.loop-group.yielded c.in-Some.group c.next.new.self _
    (c.loop-group.invariant.left ∙ ap (λ t. c.loop-group.yielded ++ t) c.in-Some.ensures.steps)
    (ap spaced_tokens (append-nil (group_tokens c.in-Some.group)))
    _ _ _ _ _ c.loop-group.invariant.wrote c.in_err-write_group.ensures.broke)
