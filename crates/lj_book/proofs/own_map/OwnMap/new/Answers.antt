use Rattle.std.proofs.Common.{ap, sym, ◌∙◌, subst}
use Rattle.std.specs.FinMap as fin
use Rattle.lj_book.specs.inner.Slots.{joined_map, AreDisjoint}
use Rattle.lj_book.proofs.Slots.{joined_empty, apart-empty}
use Rattle.lj_book.proofs.own_map.OwnMap.new.Goals as goal

pub invariant_of-result : goal.invariant_of-result
invariant_of-result g c = subst (λ m. AreDisjoint c.new.result m) (sym c.new-2.ensures) (subst (λ m. AreDisjoint m fin.empty) (sym c.new.ensures) apart-empty)

pub returns : goal.returns
returns g c = ap (λ m. joined_map m c.new-2.result) c.new.ensures ∙ ap (joined_map fin.empty) c.new-2.ensures ∙ joined_empty
