use Rattle.std.proofs.Common.{◌∙◌, sym}
use Rattle.std.proofs.lemmas.Bool.{not-true}
use Rattle.lj_text.proofs.WritingLemmas.{on_err}
use Rattle.lj_text.proofs.WrittenTokens.{broke_behind, item_between, others_text, others_text-append, others_text-other}
use Rattle.lj_text.proofs.writer.step_tokens.write_others.Goals as goal

pub returns-in_err-write_literal-clause-broke : goal.returns-in_err-write_literal-clause-broke
returns-in_err-write_literal-clause-broke g c =
    on_err c.from_residual.result _ (broke_behind (others_text c.args.pivot) (others_text-append c.args.pivot) c.args.literals.now _ c.literal-item.result _ _
    (item_between c.args.literals.now c.loop-literal.literal-index c.literal-item.result c.loop-literal-test.true c.literal-item.is)
    (others_text-other c.args.pivot c.literal-item.result (not-true _ (sym c.ne.ensures ∙ c.if-ne.true)))
    _ _ _ _ _ c.loop-literal.invariant.wrote c.in_err-write_literal.ensures.broke)
