use Rattle.std.proofs.Common.{arith}
use Rattle.lj_text.proofs.WordLemmas.{token_number-zero, token_number-positive}
use Rattle.lj_text.proofs.bytes.number_tokens.unsigned.Goals as goal

pub returns-then-value-eq0-clause-token_number : goal.returns-then-value-eq0-clause-token_number
returns-then-value-eq0-clause-token_number c =
    token_number-zero c.args.digit c.args.bytes.now c.in_ok-value.value c.in_ok-value.after.now c.requires c.in_ok-value.ensures.number c.if-value-eq0.true

pub returns-else-value-eq0-clause-token_number : goal.returns-else-value-eq0-clause-token_number
returns-else-value-eq0-clause-token_number c =
    token_number-positive c.args.digit c.args.bytes.now c.in_ok-value.value c.in_ok-value.after.now c.requires c.in_ok-value.ensures.number (omega arith)
