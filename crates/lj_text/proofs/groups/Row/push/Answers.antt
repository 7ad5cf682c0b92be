use Rattle.std.proofs.Common.{ap, sym, subst, ◌∙◌, List, [], ◌∷◌, ◌++◌, ◌+◌, ◌*◌, ◌≤◌, length, arith}
use Rattle.lj_clause.specs.Rat.{HintGroup}
use Rattle.lj_text.specs.inner.Groups.{groups_in_row, IsRow}
use Rattle.lj_text.proofs.GroupRows.{row-length, push_row}
use Rattle.lj_text.proofs.groups.Row.push.Goals as goal

pub overflow_add-self : goal.overflow_add-self
overflow_add-self c =
    let gs = groups_in_row c.self.inside.count c.self.inside.numbers in
    let row : 2 * length gs ≤ length c.self.inside.numbers = subst (λ ns. 2 * length gs ≤ length ns) c.self.invariant.0 (row-length gs) in
    omega (arith, row, c.self.invariant.1, c.len-len.ensures)

pub invariant_of-self : goal.invariant_of-self
invariant_of-self c =
    let g : HintGroup = record { candidate = c.args.candidate; hints = c.args.hints } in
    subst (IsRow (c.self.inside.count + 1)) (sym c.in-Ok.ensures.ok) (push_row c.self.inside.count c.self.inside.numbers g c.self.invariant).1

pub returns-in-Ok-clause-ok : goal.returns-in-Ok-clause-ok
returns-in-Ok-clause-ok c =
    let g : HintGroup = record { candidate = c.args.candidate; hints = c.args.hints } in
    ap (groups_in_row (c.self.inside.count + 1)) c.in-Ok.ensures.ok
    ∙ (push_row c.self.inside.count c.self.inside.numbers g c.self.invariant).0
    ∙ ap (λ (gs : List HintGroup). gs ++ g ∷ []) c.self.view_is
