use Rattle.std.proofs.Common.{arith}
use Rattle.std.proofs.lemmas.Bool.Decides.{nat_tests}
use Rattle.lj_text.proofs.WindowLemmas.{all-digits}
use Rattle.lj_text.proofs.bytes.windows.are_digits.Goals as goal

pub returns : goal.returns
returns c = λ yes. all-digits c.args.token_number c.ranges.token_number.fits (grind (arith, nat_tests, yes))
