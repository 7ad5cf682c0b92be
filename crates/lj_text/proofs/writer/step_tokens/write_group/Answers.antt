use Rattle.std.proofs.Common.{subst}
use Rattle.lj_clause.specs.Rat.{HintGroup}
use Rattle.lj_text.specs.StepText.{group_tokens}
use Rattle.lj_text.specs.inner.Writing.{Broke, spaced_tokens}
use Rattle.lj_text.proofs.WritingLemmas.{broke_more, on_err}
use Rattle.lj_text.proofs.WrittenTokens.{numbers_text}
use Rattle.lj_text.proofs.writer.step_tokens.write_group.Goals as goal

pub returns-in_err-write_candidate-clause-broke : goal.returns-in_err-write_candidate-clause-broke
returns-in_err-write_candidate-clause-broke g c =
    let P : HintGroup → Type 0 = λ v. Broke (g.W.Sink.taken c.args.sink.now) c.args.buffer.now (g.W.Sink.taken c.write_candidate.new.sink) (spaced_tokens (group_tokens v)) in
    on_err c.from_residual.result _ (subst P c.group.view_is (broke_more _ _ _ _ (numbers_text c.group.inside.hints) c.in_err-write_candidate.ensures.broke))
