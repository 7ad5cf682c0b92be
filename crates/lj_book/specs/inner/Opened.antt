-- The numbers that are bound to themselves from the opening on, until they are given up.
use Rattle.std.specs.Prelude.{ℕ, zero, suc, Bool, List, [], ◌∷◌, Option, Some, None, if◌then◌else◌}

-- the slots of so many numbers from n on, each bound to itself unless the list says that it was given up
abbrev pub opened_slots : ℕ → List Bool → ℕ → List (Option ℕ)
opened_slots n given_up zero = []
opened_slots n [] (suc count) = Some n ∷ opened_slots (suc n) [] count
opened_slots n (gone ∷ given_up) (suc count) =
    (if gone then None else Some n) ∷ opened_slots (suc n) given_up count
