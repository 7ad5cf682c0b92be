use Rattle.std.proofs.Common.{◌+◌, arith}
use Rattle.lj_text.proofs.ShortLemmas.{short-ahead, short-on}
use Rattle.lj_text.proofs.bytes.short_numbers.short_number.Goals as goal

pub returns-in_default-clause-number : goal.returns-in_default-clause-number
returns-in_default-clause-number c = short-ahead c.args.bytes.now c.in_ok-value.value c.in_ok-value.after.now c.in_ok-value.ensures.number

pub returns-clause-number : goal.returns-clause-number
returns-clause-number c =
    let after = c.split_at.result.1.now in
    short-ahead c.args.bytes.now c.in_ok-value-2.value after
    (short-on c.args.bytes.now c.in-Some.window.now after (c.first_space-end.result + 1) c.in_ok-value-2.value c.in-Some.ensures.cases (omega (arith, c.first_space-end.ensures)) c.in_ok-value-2.ensures.number c.split_at.ensures.back)
