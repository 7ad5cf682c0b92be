use Rattle.std.proofs.Common.{arith}
use Rattle.lj_text.proofs.ShortLemmas.{literals-both, literals-on, literals-read}
use Rattle.lj_text.proofs.lines.literals.short_literals.Goals as goal

pub returns-then-not-goes_on-clause-ahead : goal.returns-then-not-goes_on-clause-ahead
returns-then-not-goes_on-clause-ahead c =
    let n = c.literals_within-count in
    literals-on c.args.max c.args.literals.now.items c.args.bytes.now c.loop-window.literals.items c.loop-window.rest.now c.in-Some.window.now n.new.literals.items c.split_at.result.1.now n.result.0 c.loop-window.invariant.0 c.in-Some.ensures.cases n.ensures.ahead n.ensures.within c.split_at.ensures.back

pub returns-then-not-goes_on-clause-read : goal.returns-then-not-goes_on-clause-read
returns-then-not-goes_on-clause-read c =
    let n = c.literals_within-count in
    literals-read c.args.max c.args.literals.now.items c.args.bytes.now n.new.literals.items c.split_at.result.1.now
    (literals-on c.args.max c.args.literals.now.items c.args.bytes.now c.loop-window.literals.items c.loop-window.rest.now c.in-Some.window.now n.new.literals.items c.split_at.result.1.now n.result.0 c.loop-window.invariant.0 c.in-Some.ensures.cases n.ensures.ahead n.ensures.within c.split_at.ensures.back)

pub loop-window-preserved : goal.loop-window-preserved
loop-window-preserved c =
    let n = c.literals_within-count in (
      literals-on c.args.max c.args.literals.now.items c.args.bytes.now c.loop-window.literals.items c.loop-window.rest.now c.in-Some.window.now n.new.literals.items c.split_at.result.1.now n.result.0 c.loop-window.invariant.0 c.in-Some.ensures.cases n.ensures.ahead n.ensures.within c.split_at.ensures.back,
      omega (arith, c.split_at.ensures.back_len, c.loop-window.invariant.1),
    )

pub returns-clause-ahead : goal.returns-clause-ahead
returns-clause-ahead c =
    literals-both c.args.max c.args.literals.now.items c.args.bytes.now c.loop-window.literals.items c.loop-window.rest.now c.last_literals.new.literals.items c.last_literals.result.now c.loop-window.invariant.0 c.last_literals.ensures.ahead
