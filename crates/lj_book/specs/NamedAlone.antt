-- What a seat sees of its book in its own variables, entry by entry, and what it decides alone.
use Rattle.std.specs.Prelude.{◌≡◌, ◌==◌, ◌<◌, ℕ, Option, Some, None, option_and_then, if◌then◌else◌, Result, Ok, Err}
use Rattle.std.specs.FinMap as fin
use Rattle.lj_clause.specs.LiteralSet.{LiteralSet}
use Rattle.lj_clause.specs.ClauseMap.{FormulaValue, IsFormula}
use Rattle.lj_clause.specs.Renaming.{image, inverse}
use Rattle.lj_text.specs.declared.line.Addition.{Addition}
use Rattle.lj_hint.specs.Images.{pair_image}
use Rattle.lj_book.specs.declared.entry.Call.{Call}
use Rattle.lj_book.specs.declared.entry.Call.TheVariants as calls
use Rattle.lj_book.specs.declared.entry.Entry.{Entry}
use Rattle.lj_book.specs.declared.refusal.Refusal.{Refusal}
use Rattle.lj_book.specs.declared.refusal.Refusal.TheVariants.{NoSuchClause, PrivateVariable}
use Rattle.lj_book.specs.State.{next, live}
use Rattle.lj_book.specs.Imports.{import_number}
use Rattle.lj_book.specs.Calls.{free_refusal}
use Rattle.lj_book.specs.Solo.{Holdings, View, with_clause, without_holdings, solo_refusal}
use Rattle.lj_book.specs.Views.{decided_refusal, formula_holdings, with_found_holding}
use Rattle.lj_book.specs.Variables.{is_own}
use Rattle.lj_book.specs.Named.{NamedState, top_of, names_of, beneath, named_opening, after_named, IsNamedReached}
use Rattle.lj_book.specs.NamedReplies.{named_inside}
use Rattle.lj_book.specs.NamedViews.{named_view}

-- ---- what a seat sees behind an entry

-- what these holdings of the caller become by its call, in its own variables
abbrev pub named_after_call : NamedState → ℕ → Call → Holdings → View
named_after_call s seat (calls.Add own lemma) h = Some
    (fin.insert h own (record { joint = next (beneath s); clause = lemma.clause }))
named_after_call s seat (calls.Drop numbers) h = Some (without_holdings numbers h)
named_after_call s seat (calls.Adopt own joint) h = Some (fin.insert h own
    (pair_image (inverse (names_of s seat)) (with_clause (live (beneath s)) joint)))
named_after_call s seat (calls.Import own c) h = Some
    (with_found_holding h own (import_number (beneath s) (image (names_of s seat) c)) c)
named_after_call s seat calls.Leave h = None

-- what a seat sees behind an entry: that of another seat changes nothing
abbrev pub named_view_after : NamedState → Entry → ℕ → View → View
named_view_after s e seat v =
    if e.seat == seat then option_and_then (named_after_call s seat e.call) v else v

-- Each entry of a legal history changes what a seat sees so.
abbrev pub NamedViewsFollowEntries : Type 0
NamedViewsFollowEntries = (s : NamedState) (e : Entry) (seat : ℕ) → IsFormula s.formula
    → IsNamedReached s → IsNamedReached (after_named s e)
    → named_view (after_named s e) seat ≡ named_view_after s e seat (named_view s seat)

-- At the opening each seat sees the clauses of the formula under their own numbers.
abbrev pub NamedSeatsHoldTheFormula : Type 0
NamedSeatsHoldTheFormula = (f : FormulaValue) (seats max_steps seat : ℕ) → seat < seats
    → named_view (named_opening f seats max_steps) seat ≡ Some (formula_holdings f)

-- ---- what a seat decides alone

-- What the seat decides alone is the reply of the book.
abbrev pub NamedDecidedAlone : Type 0
NamedDecidedAlone = (s : NamedState) (seat : ℕ) (a : Addition) (e : Refusal)
    → IsFormula s.formula → IsNamedReached s
    → decided_refusal (named_view s seat) seat a ≡ Some e → named_inside s seat a ≡ Err e

-- Whether a seat is there, and an own number free, is what the seat sees.
abbrev pub NamedFreeAlone : Type 0
NamedFreeAlone = (s : NamedState) (seat own : ℕ) → free_refusal (beneath s) seat own
    ≡ solo_refusal (named_view s seat) own

-- ---- a live clause in a seat's variables

-- what lives under a joint number, in a seat's variables
abbrev pub clause_seen_by : NamedState → ℕ → Option LiteralSet → Result LiteralSet Refusal
clause_seen_by s seat None = Err NoSuchClause
clause_seen_by s seat (Some c) = if is_own (top_of s) s.variables seat c
    then Ok (image (inverse (names_of s seat)) c)
    else Err PrivateVariable

-- the clause of a joint number in a seat's variables
abbrev pub clause_for : NamedState → ℕ → ℕ → Result LiteralSet Refusal
clause_for s seat joint = clause_seen_by s seat (fin.get (live (beneath s)) joint)
