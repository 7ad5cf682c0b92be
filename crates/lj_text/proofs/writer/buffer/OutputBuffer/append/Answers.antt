use Rattle.lj_text.proofs.WritingLemmas.{broke_more, on_err}
use Rattle.lj_text.proofs.writer.buffer.OutputBuffer.append.Goals as goal

pub returns-in_err-reserve_one-clause-broke : goal.returns-in_err-reserve_one-clause-broke
returns-in_err-reserve_one-clause-broke g c = on_err c.from_residual.result _ (broke_more _ _ _ _ c.args.bytes.now c.in_err-reserve_one.ensures.broke)
