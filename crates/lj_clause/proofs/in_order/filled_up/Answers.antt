use Rattle.std.proofs.Common.{◌++◌, cond, ◌∙◌, ap}
use Rattle.std.specs.Prelude.{replicate}
use Rattle.lj_clause.proofs.InOrder.{copied-front}
use Rattle.lj_clause.proofs.in_order.filled_up.Goals as goal

pub returns-clause-filled : goal.returns-clause-filled
returns-clause-filled g c =
    let lits = c.args.lits.now.items in
    let extended = c.extend_from_slice.ensures.items ∙ ap (λ ok. cond ok (lits ++ replicate g.row.N c.filler.result) lits) c.if-is_err.ensures.negation ∙ ap (λ l. lits ++ replicate g.row.N l) c.filler.ensures in
    copied-front lits c.deref.result.now g.row.N c.first_chunk.result c.copied-scratch.result c.requires (c.deref.ensures.value ∙ extended) c.copied-scratch.ensures c.first_chunk.ensures.cases
