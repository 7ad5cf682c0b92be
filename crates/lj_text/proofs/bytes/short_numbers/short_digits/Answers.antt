use Rattle.std.proofs.Common.{◌+◌, ◌*◌, ap, arith, rules}
use Rattle.lj_text.proofs.ShortLemmas.{short-small, short-step, short-end}
use Rattle.lj_text.proofs.bytes.short_numbers.short_digits.Goals as goal

pub returns-then-digit-gt9-clause-number :
    goal.returns-then-digit-gt9-clause-number
returns-then-digit-gt9-clause-number c =
    let cut = c.in_ok-front.ensures.cases in
    rw (c.split_at.ensures.back)
    (short-end c.args.bytes.now c.in_ok-front.front.now c.loop-i.i c.loop-i.value (search rules) cut.1 c.if-i-eq0.false (omega (arith, cut.3, c.loop-i-test.true)) c.if-byte-ne32.false c.loop-i.invariant)

pub overflow_mul-value : goal.overflow_mul-value
overflow_mul-value c =
    let cut = c.in_ok-front.ensures.cases in
    omega (arith, short-small c.in_ok-front.front.now c.loop-i.i c.loop-i.value (omega (arith, cut.3, c.loop-i-test.true)) c.loop-i.invariant)

pub overflow_add-value : goal.overflow_add-value
overflow_add-value c =
    let cut = c.in_ok-front.ensures.cases in
    omega (arith, short-small c.in_ok-front.front.now c.loop-i.i c.loop-i.value (omega (arith, cut.3, c.loop-i-test.true)) c.loop-i.invariant)

pub loop-i-preserved : goal.loop-i-preserved
loop-i-preserved c =
    short-step c.in_ok-front.front.now c.loop-i.i c.loop-i.value _ c.loop-i-test.true (search rules) (ap (λ d. 10 * c.loop-i.value + d) (c.digit_of-digit.ensures.value (omega arith))) (omega (arith, c.digit_of-digit.ensures.value (omega arith))) c.loop-i.invariant
