use Rattle.std.proofs.Common.{arith}
use Rattle.lj_text.proofs.LaneLemmas.{others-are}
use Rattle.lj_text.proofs.bytes.windows.others_among.Goals as goal

pub returns : goal.returns
returns c = others-are c.args.bytes 64 c.fits-bytes.0 (omega arith) c.fits-bytes.1
