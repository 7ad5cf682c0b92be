use Rattle.std.proofs.Common.{◌≡◌, ap, sym, subst, ◌∙◌, ℕ, suc, ◌-◌, ◌∷◌, arith}
use Rattle.std.specs.Prelude.{List}
use Rattle.lj_text.specs.inner.Groups.{IsRow}
use Rattle.lj_text.proofs.GroupRows.{next_row}
use Rattle.lj_text.proofs.groups.GroupsIterIterator.next.Goals as goal

pub invariant_of-self-2 : goal.invariant_of-self-2
invariant_of-self-2 c =
    let k : ℕ = c.self.inside.count - 1 in
    let counted : c.self.inside.count ≡ suc k = omega (arith, c.if-self-eq0.false) in
    let row : c.self.inside.rest ≡ c.in_ok-candidate.candidate ∷ c.in_ok-count.count ∷ c.next-2.new.self = c.in_ok-candidate.ensures.steps ∙ ap (λ (ns : List ℕ). c.in_ok-candidate.candidate ∷ ns) c.in_ok-count.ensures.steps in
    let is : IsRow (suc k) (c.in_ok-candidate.candidate ∷ c.in_ok-count.count ∷ c.next-2.new.self) = subst (IsRow (suc k)) row (subst (λ m. IsRow m c.self.inside.rest) counted c.self.invariant) in
    subst (IsRow k) (sym c.take_front-hints.ensures.behind) (next_row k _ _ _ is).1
