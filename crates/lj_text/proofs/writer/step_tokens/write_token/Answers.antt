use Rattle.lj_text.proofs.WritingLemmas.{broke_more, on_err}
use Rattle.lj_text.proofs.writer.step_tokens.write_token.Goals as goal

pub returns-in_err-append-clause-broke : goal.returns-in_err-append-clause-broke
returns-in_err-append-clause-broke g c = on_err c.from_residual.result _ (broke_more _ _ _ _ _ c.in_err-append.ensures.broke)
