use Rattle.std.proofs.Common.{ap, ◌∙◌, ◌+◌, ℕ, false}
use Rattle.std.specs.Prelude.{replicate}
use Rattle.lj_share.proofs.OwnLaws.{new_clauses}
use Rattle.lj_share.proofs.own_clauses.OwnClauses.new.Goals as goal

pub returns : goal.returns
returns c = new_clauses c.args.formula.now _
    (c.in_ok-from_elem.ensures.items_if_clones_equal (λ y e. e) ∙ ap (λ (n : ℕ). replicate (n + 1) false) c.len.ensures.len)
    c.new-2.ensures
