-- Lines that are tested ahead of what their seat sees.
use Rattle.std.specs.Prelude.{◌≡◌, ◌<◌, ℕ, false, not, List, [], ◌∷◌, take, Option, None, Some, IsSome, slice_get, if◌then◌else◌, is_some}
use Rattle.std.specs.FinMap as fin
use Rattle.lj_clause.specs.ClauseMap.{ClauseMap, FormulaValue}
use Rattle.lj_clause.specs.LiteralSet.{negations}
use Rattle.lj_clause.specs.Propagation.{propagate}
use Rattle.lj_hint.specs.Ending.{ending_of}
use Rattle.lj_hint.specs.declared.propagate.Ending.{Ending}
use Rattle.lj_hint.specs.declared.propagate.Ending.TheVariants.{StaysOpen}
use Rattle.lj_text.specs.declared.line.Line.{Line}
use Rattle.lj_text.specs.declared.line.Line.TheVariants as lines
use Rattle.lj_text.specs.declared.line.Addition.{Addition}
use Rattle.lj_book.specs.declared.refusal.Refusal.{Refusal}
use Rattle.lj_book.specs.Tables.{is_among}
use Rattle.lj_book.specs.Solo.{View}
use Rattle.lj_book.specs.Views.{IsClosedAlone, decided_refusal}
use Rattle.lj_share.specs.declared.numbered.Numbered.{Numbered}
use Rattle.lj_share.specs.Refusals.{IsDecided}
use Rattle.lj_share.specs.inner.Dead.{DeadValue}
use Rattle.lj_share.specs.inner.Seats.{OwnValue, own_clause, clause_seen}

-- A seat with this view is there, and sees these clauses.
abbrev pub AreSeen : ClauseMap → View → Type 0
AreSeen m view = (IsSome view) × ((own : ℕ) → fin.get m own ≡ clause_seen view own)

-- Where anything is kept of the clauses, the seat with this view is there, and it is these that are kept but for the dead ones.
abbrev pub AreKept : FormulaValue → Option OwnValue → DeadValue → View → ClauseMap → Type 0
AreKept f None dead view m = Unit {0}
AreKept f (Some o) dead view m = (IsSome view) × ((own : ℕ)
    → (if fin.contains_key dead own then None else own_clause f o own) ≡ fin.get m own)

-- the first of these own numbers that is bound to no clause
abbrev pub first_unseen : ClauseMap → List ℕ → Option ℕ
first_unseen m [] = None
first_unseen m (own ∷ owns) = if is_some (fin.get m own) then first_unseen m owns else Some own

-- By these clauses, whoever sees them, the propagation of the addition closes after so many of its hints.
abbrev pub IsClosedBy : ClauseMap → Addition → ℕ → Type 0
IsClosedBy m a read = (view : View) (seat : ℕ) → AreSeen m view → IsClosedAlone view seat a read

-- By these clauses the propagation of the addition over its first list stays open.
abbrev pub IsOpenBy : ClauseMap → Addition → Type 0
IsOpenBy m a = StaysOpen ≡ ending_of (propagate m (negations a.lemma.clause) a.hints)

-- By these clauses, whoever sees them, the addition is refused so; memory may be short in its place.
abbrev pub IsRefusedBy : ClauseMap → Addition → Refusal → Type 0
IsRefusedBy m a e = (view : View) (seat : ℕ) → AreSeen m view
    → IsDecided (decided_refusal view seat a) e

-- the clauses behind a line
abbrev pub clauses_after_line : ClauseMap → Line → ClauseMap
clauses_after_line m (lines.Add a) = fin.insert m a.number a.lemma.clause
clauses_after_line m (lines.Delete numbers) = fin.retain_keys m (λ own. not (is_among numbers own))
clauses_after_line m (lines.Import own clause) = fin.insert m own clause

-- the clauses behind these lines
abbrev pub clauses_behind : ClauseMap → List Numbered → ClauseMap
clauses_behind m [] = m
clauses_behind m (l ∷ ls) = clauses_behind (clauses_after_line m l.line) ls

-- the addition has no groups, its number is bound to none of these clauses, and propagation over its hints ends so
pub record IsPropagatedTo (m : ClauseMap) (a : Addition) (end : Ending) : Type 0 where
  pub free : is_some (fin.get m a.number) ≡ false
  pub none : a.groups ≡ []
  pub ends_so : end ≡ ending_of (propagate m (negations a.lemma.clause) a.hints)

-- These clauses decide the line, where it is an addition: its propagation closes after so many of its hints.
abbrev pub IsTestedLine : ClauseMap → Line → ℕ → Type 0
IsTestedLine m (lines.Add a) read = IsClosedBy m a read
IsTestedLine m (lines.Delete numbers) read = Unit {0}
IsTestedLine m (lines.Import own clause) read = Unit {0}

-- The first so many of these lines were tested, each by the clauses behind those before it.
abbrev pub AreTested : ClauseMap → List Numbered → List ℕ → ℕ → Type 0
AreTested m ls reads count = (k : ℕ) (l : Numbered) (read : ℕ) → k < count
    → slice_get ls k ≡ Some l → slice_get reads k ≡ Some read
    → IsTestedLine (clauses_behind m (take k ls)) l.line read
