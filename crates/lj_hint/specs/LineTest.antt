-- The test of a line in joint numbers.
use Rattle.std.specs.Prelude.{◌≡◌, ℤ, List, length, Option, Result, Ok, Err, MatchResult}
use Rattle.lj_clause.specs.ClauseMap.{ClauseMap}
use Rattle.lj_clause.specs.Propagation as propagations
use Rattle.lj_clause.specs.Rat.{HintGroup, groups_in}
use Rattle.lj_hint.specs.declared.rat_refusal.RatRefusal.{RatRefusal}
use Rattle.lj_hint.specs.declared.rat_refusal.RatRefusal.TheVariants as refusals
use Rattle.lj_hint.specs.declared.live_line.Passed.{Passed}
use Rattle.lj_hint.specs.declared.live_line.Passed.TheVariants.{Closed, AsGiven, Covered}
use Rattle.lj_hint.specs.declared.live_line.LineRefusal.{LineRefusal}
use Rattle.lj_hint.specs.declared.live_line.LineRefusal.TheVariants.{Stuck, Rat}
use Rattle.lj_hint.specs.RatTest.{rat_reply}

-- the reply to a line by that to its candidates
abbrev pub covered_reply : Result (List HintGroup) RatRefusal → Result Passed LineRefusal
covered_reply (Ok groups) = Ok (Covered groups)
covered_reply (Err e) = Err (Rat e)

-- The reply to a lemma with this pivot and these groups, by the end of propagation over its first list of hints.
abbrev pub line_reply : ClauseMap → Option ℤ → List HintGroup → propagations.Propagation
    → Result Passed LineRefusal
line_reply live pivot groups (propagations.Closed used) = Ok (Closed (length used))
line_reply live pivot groups (propagations.Open a) = covered_reply
    (rat_reply live a pivot (groups_in live groups))
line_reply live pivot groups (propagations.Stuck position) = Err (Stuck position)

-- an answer is the reply, and NoMemory may stand in place of it
abbrev pub IsRatLine : RatRefusal → Result Passed LineRefusal → Type 0
IsRatLine (refusals.NoMemory e) reply = Unit {0}
IsRatLine refusals.EmptyOpen reply = reply ≡ Err (Rat refusals.EmptyOpen)
IsRatLine (refusals.MissingGroup n) reply = reply ≡ Err (Rat (refusals.MissingGroup n))
IsRatLine (refusals.GroupStuck n position) reply = reply
    ≡ Err (Rat (refusals.GroupStuck n position))
IsRatLine (refusals.GroupOpen n) reply = reply ≡ Err (Rat (refusals.GroupOpen n))

-- the refusal is the reply's, and NoMemory may stand in place of any
abbrev pub IsLineRefusal : LineRefusal → Result Passed LineRefusal → Type 0
IsLineRefusal (Stuck position) reply = reply ≡ Err (Stuck position)
IsLineRefusal (Rat e) reply = IsRatLine e reply

-- an answer with its groups, where those that were given are meant
abbrev pub with_given : List HintGroup → Passed → Passed
with_given given (Closed read) = Closed read
with_given given AsGiven = Covered given
with_given given (Covered groups) = Covered groups

-- an answer is the reply, for a line with these groups, and NoMemory may stand in place of it
abbrev pub IsLineReply : List HintGroup → Result Passed LineRefusal → Result Passed LineRefusal → Type 0
IsLineReply given answer reply = MatchResult answer (λ passed. reply ≡ Ok (with_given given passed))
    (λ e. IsLineRefusal e reply)
