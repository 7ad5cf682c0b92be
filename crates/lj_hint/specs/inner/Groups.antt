-- Groups by their index, and the test of one candidate.
use Rattle.std.specs.Prelude.{◌≡◌, ◌<◌, ℕ, zero, suc, Bool, List, [], length, take, get_or, Option, None, Some, option_map, option_and_then, unwrap_or, slice_get, slice_index_or, if◌then◌else◌, Result, Ok, Err, MatchResult}
use Rattle.lj_clause.specs.Propagation as propagations
use Rattle.lj_clause.specs.Propagation.{Hint}
use Rattle.lj_clause.specs.Rat.{HintGroup, NamedGroup, group_of}
use Rattle.lj_hint.specs.inner.Hints.{hint_numbers}
use Rattle.lj_hint.specs.declared.rat_refusal.RatRefusal.{RatRefusal}
use Rattle.lj_hint.specs.declared.rat_refusal.RatRefusal.TheVariants.{EmptyOpen, MissingGroup, GroupStuck, GroupOpen, NoMemory}

-- no group
abbrev pub no_group : NamedGroup
no_group = record { candidate = 0; hints = [] }

-- the group at an index
abbrev pub group_in : List NamedGroup → ℕ → NamedGroup
group_in groups index = slice_index_or groups index no_group

-- the hints of the group at a place, if there is one
abbrev pub group_at : List NamedGroup → Option ℕ → Option (List Hint)
group_at groups position = option_map (λ g. g.hints) (option_and_then (λ at. slice_get groups at)
    position)

-- the index before this one
abbrev pub before : ℕ → Option ℕ
before zero = None
before (suc index) = Some index

-- For each of these candidates stands one more than the index of its first group, and 0 where it has none.
pub record AreGroupPositions (groups : List NamedGroup) (candidates positions : List ℕ) : Type 0
  where
    pub count : length positions ≡ length candidates
    pub placed : (index : ℕ) → index < length candidates
        → group_at groups (before (get_or positions index 0))
        ≡ group_of (get_or candidates index 0) groups

-- the hints, none where there is no group
abbrev pub lent_hints : Option (List Hint) → List Hint
lent_hints group = unwrap_or group []

-- the group of a candidate with the first hints, so many
abbrev pub read_group : ℕ → List Hint → ℕ → HintGroup
read_group n hints read = record { candidate = n; hints = hint_numbers (take read hints) }

-- what a candidate's propagation tells, by whether it has a group: the group of the hints that were read, or the refusal
abbrev pub candidate_told : ℕ → Bool → propagations.Propagation → Result HintGroup RatRefusal
candidate_told n has_group (propagations.Closed used) = Ok (record { candidate = n; hints = used })
candidate_told n has_group (propagations.Open a) = if has_group then Err (GroupOpen n)
    else Err (MissingGroup n)
candidate_told n has_group (propagations.Stuck position) = if has_group then Err
    (GroupStuck n position)
    else Err (MissingGroup n)

-- a refusal is the reply, and NoMemory may stand in place of any
abbrev pub IsCandidateRefusal : RatRefusal → Result HintGroup RatRefusal → Type 0
IsCandidateRefusal (NoMemory e) reply = Unit {0}
IsCandidateRefusal EmptyOpen reply = reply ≡ Err EmptyOpen
IsCandidateRefusal (MissingGroup n) reply = reply ≡ Err (MissingGroup n)
IsCandidateRefusal (GroupStuck n position) reply = reply ≡ Err (GroupStuck n position)
IsCandidateRefusal (GroupOpen n) reply = reply ≡ Err (GroupOpen n)

-- an answer of how many hints were read is the reply of such a group, and NoMemory may stand in place of it
abbrev pub IsCandidateReply : (ℕ → HintGroup) → Result ℕ RatRefusal → Result HintGroup RatRefusal → Type 0
IsCandidateReply group answer reply = MatchResult answer (λ read. reply ≡ Ok (group read))
    (λ e. IsCandidateRefusal e reply)
