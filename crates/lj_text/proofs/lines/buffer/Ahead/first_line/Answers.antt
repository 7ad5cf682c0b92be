use Rattle.std.proofs.Common.{List, ℕ, ◌++◌, drop}
use Rattle.std.specs.List.{concat}
use Rattle.lj_text.proofs.TokenNumberLemmas.{within-front, none-front}
use Rattle.lj_text.proofs.lines.buffer.Ahead.first_line.Goals as goal

pub first_line-requires-clause-within : goal.first_line-requires-clause-within
first_line-requires-clause-within c =
    let i = c.self.inside in
    let behind : List ℕ = concat (drop i.next i.runs.now.items) ++ i.rest.now in
    within-front i.front.now behind c.args.searched c.self.invariant.parted (rw c.self.view_is c.requires.within) (rw c.self.view_is c.requires.none_before)

pub first_line-requires-clause-none_before : goal.first_line-requires-clause-none_before
first_line-requires-clause-none_before c =
    let i = c.self.inside in
    let behind : List ℕ = concat (drop i.next i.runs.now.items) ++ i.rest.now in
    none-front i.front.now behind c.args.searched
    (within-front i.front.now behind c.args.searched c.self.invariant.parted (rw c.self.view_is c.requires.within) (rw c.self.view_is c.requires.none_before))
    (rw c.self.view_is c.requires.none_before)
