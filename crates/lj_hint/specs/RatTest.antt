-- The test of the candidates of a lemma's pivot, and of a whole line.
use Rattle.std.specs.Prelude.{◌≡◌, ℤ, List, map, Option, Some, None, Result, Ok, Err, MatchResult}
use Rattle.lj_clause.specs.LiteralSet.{LiteralSet}
use Rattle.lj_clause.specs.ClauseMap.{ClauseMap}
use Rattle.lj_clause.specs.Rat as rats
use Rattle.lj_clause.specs.Rat.{HintGroup, NamedGroup, candidates, rat_over}
use Rattle.lj_hint.specs.declared.pair.Pair.{Pair}
use Rattle.lj_hint.specs.declared.rat_refusal.RatRefusal.{RatRefusal}
use Rattle.lj_hint.specs.declared.rat_refusal.RatRefusal.TheVariants.{EmptyOpen, MissingGroup, GroupStuck, GroupOpen, NoMemory}
use Rattle.lj_hint.specs.Hints.{named_hints}

-- the groups of a case: each hint names its own clause
abbrev pub named_groups : List (Pair × List Pair) → List NamedGroup
named_groups groups = map (λ g. record { candidate = g.0.joint; hints = named_hints g.1 }) groups

-- the groups that cover the candidates, or the refusal of the first candidate that isn't covered
abbrev pub rat_told : rats.RatAnswer → Result (List HintGroup) RatRefusal
rat_told (rats.Covered groups) = Ok groups
rat_told (rats.MissingGroup n) = Err (MissingGroup n)
rat_told (rats.GroupStuck n position) = Err (GroupStuck n position)
rat_told (rats.GroupOpen n) = Err (GroupOpen n)

-- The reply to a lemma with this pivot, whose propagation ended open with a: the candidates are those among the live clauses.
-- Without a pivot there are none to try.
abbrev pub rat_reply : ClauseMap → LiteralSet → Option ℤ → List NamedGroup
    → Result (List HintGroup) RatRefusal
rat_reply live a None groups = Err EmptyOpen
rat_reply live a (Some q) groups = rat_told (rat_over a q groups (candidates live q))

-- An answer is the reply. NoMemory may stand in place of any.
abbrev pub IsRatRefusal : RatRefusal → Result (List HintGroup) RatRefusal → Type 0
IsRatRefusal (NoMemory e) reply = Unit {0}
IsRatRefusal EmptyOpen reply = reply ≡ Err EmptyOpen
IsRatRefusal (MissingGroup n) reply = reply ≡ Err (MissingGroup n)
IsRatRefusal (GroupStuck n position) reply = reply ≡ Err (GroupStuck n position)
IsRatRefusal (GroupOpen n) reply = reply ≡ Err (GroupOpen n)

-- an answer is the reply, and NoMemory may stand in place of it
abbrev pub IsRatReply : Result (List HintGroup) RatRefusal → Result (List HintGroup) RatRefusal
    → Type 0
IsRatReply answer reply = MatchResult answer (λ groups. reply ≡ Ok groups)
    (λ e. IsRatRefusal e reply)
