use Rattle.std.proofs.Common.{length, arith}
use Rattle.lj_text.proofs.RunLemmas.{count-fits}
use Rattle.lj_text.proofs.lines.buffer.InputBuffer.push.Goals as goal

pub overflow_add-self : goal.overflow_add-self
overflow_add-self c =
    let i = c.self.inside in
    let fits = count-fits i.runs.items i.rest.items (length c.args.piece.now) c.self.invariant.whole (omega (arith, i.runs.ok.0, i.runs.small.0, i.runs.small.1)) (omega (arith, i.rest.ok.0, i.rest.ok.1, i.rest.small)) (omega arith) in
    omega (arith, fits, c.self.invariant.count_is)
