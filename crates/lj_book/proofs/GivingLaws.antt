-- The steps of giving variables to the literals of a clause.
use Rattle.std.proofs.Common.{◌≡◌, ap, sym, ◌∙◌, subst, ℕ, ◌+◌, ◌<◌, ◌≤◌, cond, false, drop, get_or}
use Rattle.std.specs.Prelude.{ℤ, List, ◌∷◌, map, length}
use Rattle.std.proofs.lemmas.List.{drop_more}
use Rattle.lj_clause.specs.Literal.{variable_of}
use Rattle.lj_clause.specs.Renaming.{has_name}
use Rattle.lj_book.specs.Variables.{Variables, renaming_of, with_variable, with_names}
use Rattle.lj_book.proofs.VariableLaws.{next-with_names}

-- the literals from one on
pub from_one : (ls : List ℤ) (i : ℕ) (l : ℤ) → i < length ls → l ≡ get_or ls i l → map variable_of (drop i ls) ≡ variable_of l ∷ map variable_of (drop (i + 1) ls)
from_one ls i l h is = ap (map variable_of) (drop_more ls i l h ∙ ap (λ k. k ∷ drop (i + 1) ls) (sym is))

-- a variable without a name is given one
pub first_given : (top : ℕ) (v : Variables) (seat x : ℕ) (xs : List ℕ) → has_name top (renaming_of v seat) x ≡ false → with_names top v seat (x ∷ xs) ≡ with_names top (with_variable v seat x) seat xs
first_given top v seat x xs e = ap (λ b. with_names top (cond b v (with_variable v seat x)) seat xs) e

pub next_more : (top : ℕ) (v : Variables) (seat x : ℕ) (xs : List ℕ) → has_name top (renaming_of v seat) x ≡ false → v.next + 1 ≤ (with_names top v seat (x ∷ xs)).next
next_more top v seat x xs e = subst (λ (w : Variables). v.next + 1 ≤ w.next) (sym (first_given top v seat x xs e)) (next-with_names top (with_variable v seat x) seat xs)
