-- Runs of lines: additions and deletions. A run is begun ahead of the lock; then each line is finished or taken back.
use Rattle.std.specs.Prelude.{◌≡◌, ℕ, zero, suc, false, List, [], ◌∷◌, Option, Some, IsSome, slice_get}
use Rattle.lj_clause.specs.ClauseMap.{FormulaValue}
use Rattle.lj_text.specs.declared.line.Line.{Line}
use Rattle.lj_text.specs.declared.line.Line.TheVariants as lines
use Rattle.lj_book.specs.Tables.{is_among}
use Rattle.lj_book.specs.Solo.{View}
use Rattle.lj_share.specs.declared.numbered.Numbered.{Numbered}
use Rattle.lj_share.specs.inner.Dead.{is_deleted}
use Rattle.lj_share.specs.inner.Seats.{OwnValue, Pairs, AreEqual, IsFresh, begun, pairs_kept, pairs_seen, view_behind}

-- The line binds none of these numbers.
abbrev pub BindsNone : List ℕ → Line → Type 0
BindsNone numbers (lines.Add a) = is_among numbers a.number ≡ false
BindsNone numbers (lines.Delete more) = Unit {0}
BindsNone numbers (lines.Import own c) = is_among numbers own ≡ false

-- None of these lines binds one of these numbers.
abbrev pub BindNone : List ℕ → List Numbered → Type 0
BindNone numbers [] = Unit {0}
BindNone numbers (l ∷ ls) = BindsNone numbers l.line × BindNone numbers ls

-- The line may come before these in a run: they bind no number that it deletes, and no import is in a run.
abbrev pub IsBefore : Line → List Numbered → Type 0
IsBefore (lines.Add a) ls = Unit {0}
IsBefore (lines.Delete numbers) ls = BindNone numbers ls
IsBefore (lines.Import own c) ls = ⊥

-- The line may come behind these in a run: no deletion among them names the number that it binds.
abbrev pub IsBehind : List Numbered → Line → Type 0
IsBehind ls (lines.Add a) = is_deleted ls a.number ≡ false
IsBehind ls (lines.Delete numbers) = Unit {0}
IsBehind ls (lines.Import own c) = ⊥

-- These lines are a run, and beginning one after the other leads from the first bindings to the second.
abbrev pub AreBegun : Pairs → List Numbered → Pairs → Type 0
AreBegun p [] q = AreEqual q p
AreBegun p (l ∷ ls) q = IsBefore l.line ls × IsFresh l.line p × AreBegun (begun l.line p) ls q

-- The seat with this view is there, and what is kept is what it sees, with these lines begun.
abbrev pub IsAheadOf : FormulaValue → View → List Numbered → Option OwnValue → Type 0
IsAheadOf f view ls kept = IsSome kept × IsSome view × AreBegun (pairs_seen view) ls (pairs_kept f kept)

-- what a seat sees behind a line under its joint number, if both are there
abbrev pub view_behind_some : Option Numbered → Option ℕ → View → View
view_behind_some (Some l) (Some joint) view = view_behind l.line joint view
view_behind_some _ _ view = view

-- what a seat sees behind the first so many of these lines, under the joint numbers that stand at their places
abbrev pub views_behind : View → List Numbered → List ℕ → ℕ → View
views_behind view ls joints zero = view
views_behind view ls joints (suc k) =
    view_behind_some (slice_get ls k) (slice_get joints k) (views_behind view ls joints k)
