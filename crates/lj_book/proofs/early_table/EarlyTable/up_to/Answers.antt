use Rattle.std.proofs.Common.{ap, sym, ◌∙◌, subst}
use Rattle.std.specs.Ordering.{nat_cmp}
use Rattle.std.specs.FinMap as fin
use Rattle.lj_book.specs.inner.Slots.{joined_map, AreDisjoint}
use Rattle.lj_book.proofs.Slots.{joined_none}
use Rattle.lj_book.proofs.early_table.EarlyTable.up_to.Goals as goal

pub invariant_of-result : goal.invariant_of-result
invariant_of-result c = subst (AreDisjoint c.in_ok-opened.opened) (sym c.new.ensures) (λ q _. fin.get-empty nat_cmp q)

pub returns : goal.returns
returns c = ap (joined_map c.in_ok-opened.opened) c.new.ensures ∙ joined_none c.in_ok-opened.opened ∙ c.in_ok-opened.ensures
