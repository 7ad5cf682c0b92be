-- Variables that were given out are taken back.
use Rattle.std.proofs.Common.{◌≡◌, refl, ◌∙◌, ℕ, ◌+◌, ◌≤◌, cond, true, false, arith}
use Rattle.std.specs.Prelude.{List, [], ◌∷◌, map}
use Rattle.lj_clause.specs.Literal.{variable_of}
use Rattle.lj_clause.specs.LiteralSet.{LiteralSet, literals}
use Rattle.lj_clause.specs.Renaming.{has_name}
use Rattle.lj_book.specs.Variables.{Variables, IsVariables, renaming_of, with_variable, with_names, given}
use Rattle.lj_book.specs.inner.VariableTables.{variables_before}
use Rattle.lj_book.proofs.VariableLaws.{nameless}
use Rattle.lj_book.proofs.TakenBack.{variables_before-next, variables_before-with_variable}

back_with_names : (top n : ℕ) (v : Variables) (seat : ℕ) (xs : List ℕ) → n ≤ v.next → (variables_before n (with_names top v seat xs) ≡ variables_before n v) × (n ≤ (with_names top v seat xs).next)
back_with_names top n v seat [] le = (refl, le)
back_with_names top n v seat (x ∷ xs) le =
    elim (has_name top (renaming_of v seat) x) as (λ b. has_name top (renaming_of v seat) x ≡ b → (variables_before n (with_names top (cond b v (with_variable v seat x)) seat xs) ≡ variables_before n v) × (n ≤ (with_names top (cond b v (with_variable v seat x)) seat xs).next)) [
      | true ↦ λ e. back_with_names top n v seat xs le
      | false ↦ λ e.
          let more : n ≤ v.next + 1 = omega arith in
          let rest = back_with_names top n (with_variable v seat x) seat xs more in
          (rest.0 ∙ variables_before-with_variable n v seat x (nameless top (renaming_of v seat) x e).1 le, rest.1)
    ] refl

-- what a clause gave, and no less is left than before
pub given_taken_back : (top : ℕ) (v : Variables) (seat : ℕ) (c : LiteralSet) → IsVariables top v → variables_before v.next (given top v seat c) ≡ v
given_taken_back top v seat c rules = (back_with_names top v.next v seat (map variable_of (literals c)) (omega arith)).0 ∙ variables_before-next top v rules

pub given_goes_on : (top : ℕ) (v : Variables) (seat : ℕ) (c : LiteralSet) → v.next ≤ (given top v seat c).next
given_goes_on top v seat c = (back_with_names top v.next v seat (map variable_of (literals c)) (omega arith)).1
