use Rattle.lj_text.proofs.DigitLemmas.{read-step}
use Rattle.std.proofs.Common.{arith, rules}
use Rattle.lj_text.proofs.bytes.digits.digits_value.Goals as goal

pub loop-rest-preserved : goal.loop-rest-preserved
loop-rest-preserved c =
    read-step c.args.digits.now c.loop-rest.rest.now c.loop-rest.value c.appended-value.result (omega arith) (search rules) (search rules) c.loop-rest.invariant
