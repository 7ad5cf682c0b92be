-- The groups that cover candidates, among those that were given.
use Rattle.std.specs.Prelude.{◌≡◌, ℕ, List, map, take, Option, Some, None, unwrap_or, Result, Ok, MatchResult}
use Rattle.lj_clause.specs.Rat.{HintGroup, NamedGroup}
use Rattle.lj_hint.specs.declared.rat_refusal.RatRefusal.{RatRefusal}
use Rattle.lj_hint.specs.RatTest.{IsRatRefusal}
use Rattle.lj_hint.specs.inner.Hints.{hint_numbers}

-- groups without the clauses that their hints name
abbrev pub plain_group : NamedGroup → HintGroup
plain_group g = record { candidate = g.candidate; hints = hint_numbers g.hints }

abbrev pub plain_groups : List NamedGroup → List HintGroup
plain_groups groups = map plain_group groups

-- the groups that cover so many candidates: the first of those that were given, unless they stand apart
abbrev pub covered_before : List NamedGroup → ℕ → Option (List HintGroup) → List HintGroup
covered_before given count None = take count (plain_groups given)
covered_before given count (Some groups) = groups

-- an answer is the reply, where none stands for the groups that were given; NoMemory may stand in place of any
abbrev pub IsCovering : List HintGroup → Result (Option (List HintGroup)) RatRefusal
    → Result (List HintGroup) RatRefusal → Type 0
IsCovering given answer reply = MatchResult answer (λ groups. reply ≡ Ok (unwrap_or groups given))
    (λ e. IsRatRefusal e reply)
