use Rattle.std.proofs.Common.{ap, sym, ◌∙◌, arith, ◌<◌, ◌≤◌, length}
use Rattle.lj_book.proofs.Slots.{remove_absent}
use Rattle.lj_book.proofs.HeldSlots.{get_held, get_held_past, held_emptied}
use Rattle.lj_book.proofs.slot_map.take.Goals as goal

pub returns-then-at-len-clause-before : goal.returns-then-at-len-clause-before
returns-then-at-len-clause-before g c =
    let xs = c.args.slots.now.items in
    let past : length xs ≤ c.args.at = omega (arith, c.if-at-len.true, c.len.ensures, c.args.slots.now.ok.0) in
    sym (get_held_past g.S.Slot.held xs c.args.at past)

pub returns-then-at-len-clause-removed : goal.returns-then-at-len-clause-removed
returns-then-at-len-clause-removed g c =
    let xs = c.args.slots.now.items in
    let past : length xs ≤ c.args.at = omega (arith, c.if-at-len.true, c.len.ensures, c.args.slots.now.ok.0) in
    sym (remove_absent _ c.args.at (get_held_past g.S.Slot.held xs c.args.at past))

pub returns-clause-before : goal.returns-clause-before
returns-clause-before g c =
    let xs = c.args.slots.now.items in
    let there : c.args.at < length xs = omega (arith, c.if-at-len.false, c.len.ensures, c.args.slots.now.ok.0) in
    c.value-value.ensures ∙ ap g.S.Slot.held c.index.ensures
    ∙ sym (get_held g.S.Slot.held xs c.args.at _ there)

pub returns-clause-removed : goal.returns-clause-removed
returns-clause-removed g c =
    let xs = c.args.slots.now.items in
    let there : c.args.at < length xs = omega (arith, c.if-at-len.false, c.len.ensures, c.args.slots.now.ok.0) in
    held_emptied g.S.Slot.held xs c.args.at c.empty.result there c.empty.ensures
