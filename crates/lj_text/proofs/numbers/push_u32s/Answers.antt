use Rattle.std.proofs.Common.{arith}
use Rattle.lj_text.proofs.ShortLemmas.{numbers-both, numbers-on, numbers-read}
use Rattle.lj_text.proofs.numbers.push_u32s.Goals as goal

pub returns-then-not-goes_on-clause-ahead : goal.returns-then-not-goes_on-clause-ahead
returns-then-not-goes_on-clause-ahead c =
    let n = c.numbers_within-count in
    numbers-on c.args.numbers.now.items c.args.bytes.now c.loop-window.numbers.items c.loop-window.rest.now c.in-Some.window.now n.new.numbers.items c.split_at.result.1.now n.result.0 c.loop-window.invariant.0 c.in-Some.ensures.cases n.ensures.ahead n.ensures.within c.split_at.ensures.back

pub returns-then-not-goes_on-clause-read : goal.returns-then-not-goes_on-clause-read
returns-then-not-goes_on-clause-read c =
    let n = c.numbers_within-count in
    numbers-read c.args.numbers.now.items c.args.bytes.now n.new.numbers.items c.split_at.result.1.now
    (numbers-on c.args.numbers.now.items c.args.bytes.now c.loop-window.numbers.items c.loop-window.rest.now c.in-Some.window.now n.new.numbers.items c.split_at.result.1.now n.result.0 c.loop-window.invariant.0 c.in-Some.ensures.cases n.ensures.ahead n.ensures.within c.split_at.ensures.back)

pub loop-window-preserved : goal.loop-window-preserved
loop-window-preserved c =
    let n = c.numbers_within-count in (
      numbers-on c.args.numbers.now.items c.args.bytes.now c.loop-window.numbers.items c.loop-window.rest.now c.in-Some.window.now n.new.numbers.items c.split_at.result.1.now n.result.0 c.loop-window.invariant.0 c.in-Some.ensures.cases n.ensures.ahead n.ensures.within c.split_at.ensures.back,
      omega (arith, c.split_at.ensures.back_len, c.loop-window.invariant.1),
    )

pub returns-clause-ahead : goal.returns-clause-ahead
returns-clause-ahead c =
    numbers-both c.args.numbers.now.items c.args.bytes.now c.loop-window.numbers.items c.loop-window.rest.now c.last_numbers.new.numbers.items c.last_numbers.result.now c.loop-window.invariant.0 c.last_numbers.ensures.ahead
