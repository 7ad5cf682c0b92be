-- Hints that are given by their numbers, and live clauses.
use Rattle.std.proofs.Common.{◌≡◌, ap, refl}
use Rattle.std.specs.Prelude.{ℕ, zero, suc, List, [], ◌∷◌, take, None, slice_get}
use Rattle.lj_clause.specs.ClauseMap.{ClauseMap}
use Rattle.lj_clause.specs.Propagation.{hints_in}
use Rattle.lj_hint.specs.inner.Hints.{hint_numbers, clause_at}

pub clause_at-none : (p : ClauseMap) (ns : List ℕ) (i : ℕ) → slice_get ns i ≡ None → None ≡ clause_at (hints_in p ns) i
clause_at-none p [] i none = refl
clause_at-none p (n ∷ ns) zero none = absurd (let no : ⊥ = cc in no)
clause_at-none p (n ∷ ns) (suc i) none = clause_at-none p ns i none

-- the numbers of the first hints are the first numbers
pub hint_numbers-first : (p : ClauseMap) (ns : List ℕ) (k : ℕ) → take k ns ≡ hint_numbers (take k (hints_in p ns))
hint_numbers-first p [] zero = refl
hint_numbers-first p [] (suc k) = refl
hint_numbers-first p (n ∷ ns) zero = refl
hint_numbers-first p (n ∷ ns) (suc k) = ap (λ (ms : List ℕ). n ∷ ms) (hint_numbers-first p ns k)
