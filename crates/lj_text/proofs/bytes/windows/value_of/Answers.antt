use Rattle.std.proofs.Common.{refl}
use Rattle.lj_text.proofs.WindowLemmas.{value-is}
use Rattle.lj_text.proofs.bytes.windows.value_of.Goals as goal

pub returns : goal.returns
returns c = λ counts eight all is. value-is counts eight all c.args.digits _ _ is refl refl
