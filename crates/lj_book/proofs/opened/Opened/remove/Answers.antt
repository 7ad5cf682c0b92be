use Rattle.std.proofs.Common.{ap, sym, ◌∙◌}
use Rattle.std.specs.FinMap as fin
use Rattle.lj_book.specs.inner.Slots.{slot_map}
use Rattle.lj_book.proofs.Slots.{remove_absent}
use Rattle.lj_book.proofs.OpenedLaws.{get_beyond, give_up}
use Rattle.lj_book.proofs.opened.Opened.remove.Goals as goal

pub returns-then-at-self : goal.returns-then-at-self
returns-then-at-self c =
    sym (remove_absent c.args.self.now c.args.number (ap (λ m. fin.get m c.args.number) (sym c.self.view_is)
    ∙ get_beyond c.self.inside.given_up.items c.self.inside.end c.args.number c.if-at-self.true))

pub returns : goal.returns
returns c =
    give_up c.cover.new.given_up.items c.self.inside.end c.args.number c.if-at-self.false c.cover.ensures.there
    ∙ ap (λ xs. fin.remove (slot_map xs) c.args.number) (c.cover.ensures.same 0 c.self.inside.end)
    ∙ ap (λ m. fin.remove m c.args.number) c.self.view_is
