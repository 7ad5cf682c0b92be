use Rattle.std.proofs.Common.{arith}
use Rattle.lj_text.proofs.WordLemmas.{token_number-negative}
use Rattle.lj_text.proofs.bytes.number_tokens.negative.Goals as goal

pub returns-else-value-eq0-clause-token_number : goal.returns-else-value-eq0-clause-token_number
returns-else-value-eq0-clause-token_number c =
    token_number-negative c.args.digit c.args.bytes.now c.in_ok-value.value c.in_ok-value.after.now c.requires c.in_ok-value.ensures.number (omega arith)
