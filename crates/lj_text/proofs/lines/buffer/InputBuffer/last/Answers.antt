use Rattle.std.proofs.Common.{◌≤◌, length, arith}
use Rattle.lj_text.proofs.RunLemmas.{last-within, last-rest}
use Rattle.lj_text.proofs.lines.buffer.InputBuffer.last.Goals as goal

pub overflow_sub-len : goal.overflow_sub-len
overflow_sub-len c =
    let i = c.self.inside in
    omega (arith, c.len.ensures, i.rest.ok.0, last-within i.start i.runs.items i.rest.items c.args.self.now i.count c.args.count c.self.invariant c.self.view_is c.requires.within c.requires.none)

pub returns : goal.returns
returns c =
    let i = c.self.inside in
    let within : c.args.count ≤ length i.rest.items = last-within i.start i.runs.items i.rest.items c.args.self.now i.count c.args.count c.self.invariant c.self.view_is c.requires.within c.requires.none in
    rw (c.split_at.ensures.back, c.deref.ensures.value)
    (last-rest i.start i.runs.items i.rest.items c.args.self.now i.count c.args.count c.len.result c.self.invariant c.self.view_is (omega (arith, c.len.ensures, i.rest.ok.0)) c.requires.within within)
