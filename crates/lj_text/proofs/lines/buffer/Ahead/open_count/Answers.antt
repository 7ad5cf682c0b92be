use Rattle.std.proofs.Common.{List, ℕ, ◌++◌, length, drop, ap, ◌∙◌}
use Rattle.std.specs.List.{concat}
use Rattle.lj_text.proofs.RunLemmas.{front-all}
use Rattle.lj_text.proofs.lines.buffer.Ahead.open_count.Goals as goal

pub returns : goal.returns
returns c =
    let i = c.self.inside in
    let behind : List ℕ = concat (drop i.next i.runs.now.items) ++ i.rest.now in
    front-all i.front.now behind c.self.invariant.parted (rw c.self.view_is c.requires) ∙ ap length c.self.view_is
