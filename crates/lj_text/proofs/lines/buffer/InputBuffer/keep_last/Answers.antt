use Rattle.std.proofs.Common.{◌<◌, arith}
use Rattle.lj_text.proofs.RunLemmas.{kept, kept-view}
use Rattle.lj_text.proofs.lines.buffer.InputBuffer.keep_last.Goals as goal

pub overflow_cast-self : goal.overflow_cast-self
overflow_cast-self c =
    let i = c.self.inside in
    let some : 0 < c.args.count = omega (arith, c.if-count-eq0.false) in
    let few = (kept i.start i.runs.items c.let_go-position.new.runs.items i.rest.items c.args.self.now i.count c.args.count c.let_go-position.result c.self.invariant c.self.view_is some c.requires.within (c.requires.begins some)
    c.let_go-position.ensures.gone c.let_go-position.ensures.within).few in
    omega (arith, few)

pub invariant_of-self-2 : goal.invariant_of-self-2
invariant_of-self-2 c =
    let i = c.self.inside in
    let some : 0 < c.args.count = omega (arith, c.if-count-eq0.false) in
    kept i.start i.runs.items c.let_go-position.new.runs.items i.rest.items c.args.self.now i.count c.args.count c.let_go-position.result c.self.invariant c.self.view_is some c.requires.within (c.requires.begins some)
    c.let_go-position.ensures.gone c.let_go-position.ensures.within

pub returns : goal.returns
returns c =
    let i = c.self.inside in
    kept-view i.start i.runs.items c.let_go-position.new.runs.items i.rest.items c.args.self.now i.count c.args.count c.let_go-position.result c.self.invariant c.self.view_is c.requires.within c.let_go-position.ensures.gone
