-- What a seat that names variables as it likes sees, and how it takes.
use Rattle.std.specs.Prelude.{◌≡◌, ◌↔◌, ℕ, ℤ, true, List, [], map, All, Option, Some, None, option_map, option_and_then, Result, Ok, Err}
use Rattle.std.specs.FinMap as fin
use Rattle.lj_clause.specs.Literal.{variable_of}
use Rattle.lj_clause.specs.LiteralSet.{LiteralSet, holds}
use Rattle.lj_clause.specs.ClauseMap.{ClauseMap, IsFormula}
use Rattle.lj_clause.specs.Propagation.{Open}
use Rattle.lj_clause.specs.Rat.{HintGroup, candidates, rat}
use Rattle.lj_clause.specs.Renaming.{Renaming, inverse, literal_image, image, lemma_image, is_named, entry_image}
use Rattle.lj_text.specs.declared.line.Addition.{Addition}
use Rattle.lj_hint.specs.declared.pair.Pair.{Pair}
use Rattle.lj_hint.specs.Case.{CaseValue, propagation_of}
use Rattle.lj_hint.specs.Images.{pair_image, hints_image}
use Rattle.lj_book.specs.declared.refusal.Refusal.{Refusal}
use Rattle.lj_book.specs.Variables.{renaming_of, is_own, IsGiven}
use Rattle.lj_book.specs.State.{live}
use Rattle.lj_book.specs.Calls.{take_reply}
use Rattle.lj_book.specs.Inside.{joint_addition, propagation_refusal}
use Rattle.lj_book.specs.Solo.{Holdings, View, view_of, solo_take}
use Rattle.lj_book.specs.Views.{decided_refusal, IsClosedAlone}
use Rattle.lj_book.specs.Named.{NamedState, top_of, names_of, beneath, given_in, IsNamedReached}

-- a reply to a take, likewise
abbrev pub take_image : Renaming → Result CaseValue Refusal → Result CaseValue Refusal
take_image m (Ok c) = Ok (hints_image m c)
take_image m (Err e) = Err e

-- the reply to a take: that of the book beneath, with its clauses in the seat's variables
abbrev pub named_take : NamedState → ℕ → Addition → Result CaseValue Refusal
named_take s seat a = take_image (inverse (names_of s seat)) (take_reply (beneath s) seat a)

-- holdings with their clauses renamed
abbrev pub holdings_image : Renaming → Holdings → Holdings
holdings_image m h = fin.from_entries
    (map (λ (e : ℕ × Pair). (e.0, pair_image m e.1)) (fin.entries h))

-- a view, likewise
abbrev pub view_image : Renaming → View → View
view_image m v = option_map (holdings_image m) v

-- what a seat sees: what it sees in the book beneath, in its own variables
abbrev pub named_view : NamedState → ℕ → View
named_view s seat = view_image (inverse (names_of s seat)) (view_of (beneath s) seat)

-- A take by a view whose clauses are renamed is the take renamed.
abbrev pub TakesCommuteWithRenamings : Type 0
TakesCommuteWithRenamings = (m : Renaming) (v : View) (seat : ℕ) (a : Addition)
    → solo_take (view_image m v) seat a ≡ take_image m (solo_take v seat a)

-- A seat's takes are answered by what it sees alone.
abbrev pub NamedTakesAreAlone : Type 0
NamedTakesAreAlone = (s : NamedState) (seat : ℕ) (a : Addition) → IsNamedReached s
    → named_take s seat a ≡ solo_take (named_view s seat) seat a

-- what a seat with this view has its own number bound to
abbrev pub pair_at : View → ℕ → Option Pair
pair_at v own = option_and_then (λ h. fin.get h own) v

-- Each clause that a seat holds in the book beneath is the seat's own.
abbrev pub SeatsHoldTheirOwn : Type 0
SeatsHoldTheirOwn = (s : NamedState) (seat own : ℕ) (p : Pair) → IsFormula s.formula
    → IsNamedReached s → pair_at (view_of (beneath s) seat) own ≡ Some p
    → is_own (top_of s) s.variables seat p.clause ≡ true

-- What a seat sees in its own variables, renamed to joint ones, is what it sees in the book beneath.
abbrev pub ViewsComeBack : Type 0
ViewsComeBack = (s : NamedState) (seat : ℕ) → IsFormula s.formula → IsNamedReached s
    → view_image (names_of s seat) (named_view s seat) ≡ view_of (beneath s) seat

-- the addition in the book beneath: its lemma in joint variables, with those that are given to it
abbrev pub addition_beneath : NamedState → ℕ → Addition → Addition
addition_beneath s seat a = record a
    { lemma = lemma_image (renaming_of (given_in s seat a.lemma.clause) seat) a.lemma }

-- What a seat decides alone, in its own variables, is what it decides in the book beneath.
abbrev pub DecidedBeneath : Type 0
DecidedBeneath = (s : NamedState) (seat : ℕ) (a : Addition) → IsFormula s.formula
    → IsNamedReached s
    → decided_refusal (named_view s seat) seat a
    ≡ decided_refusal (view_of (beneath s) seat) seat (addition_beneath s seat a)

-- The propagation in its own variables closes after so many hints exactly where the one beneath does.
abbrev pub ClosedBeneath : Type 0
ClosedBeneath = (s : NamedState) (seat : ℕ) (a : Addition) (read : ℕ) → IsFormula s.formula
    → IsNamedReached s
    → IsClosedAlone (named_view s seat) seat a read
    ↔ IsClosedAlone (view_of (beneath s) seat) seat (addition_beneath s seat a) read

-- The seat holds the clause under the joint number: some own number is bound to both.
abbrev pub IsKnownAs : NamedState → ℕ → ℕ → LiteralSet → Type 0
IsKnownAs s seat joint c = (own : ℕ)
    × (pair_at (view_of (beneath s) seat) own ≡ Some (record { joint = joint; clause = c }))

-- A live clause with a variable that a seat was given is that seat's own, and the seat holds it.
abbrev pub PrivateAreHeld : Type 0
PrivateAreHeld = (s : NamedState) (seat x joint : ℕ) (c : LiteralSet) (l : ℤ)
    → IsFormula s.formula → IsNamedReached s → fin.get (live (beneath s)) joint ≡ Some c
    → holds c l ≡ true → IsGiven s.variables seat x (variable_of l)
    → (is_own (top_of s) s.variables seat c ≡ true) × IsKnownAs s seat joint c

-- By what the seat sees, the propagation of the addition ends open with these literals.
pub record IsOpenAlone (v : View) (seat : ℕ) (a : Addition) (left : LiteralSet) : Type 0 where
  pub case : CaseValue
  pub taken : solo_take v seat a ≡ Ok case
  pub ends : propagation_of case ≡ Open left

-- the clauses that a seat with this view sees, under their joint numbers
abbrev pub seen_clauses : View → ClauseMap
seen_clauses None = fin.empty
seen_clauses (Some h) = fin.from_entries
    (map (λ (e : ℕ × Pair). (e.1.joint, e.1.clause)) (fin.entries h))

-- the seat's renaming once a lemma with this clause has entered
abbrev pub names_with : NamedState → ℕ → LiteralSet → Renaming
names_with s seat c = renaming_of (given_in s seat c) seat

-- A propagation that ends open in the seat's own variables does so beneath, with the same literals: each has a joint form.
abbrev pub OpenBeneath : Type 0
OpenBeneath = (s : NamedState) (seat : ℕ) (a : Addition) (left : LiteralSet)
    → IsFormula s.formula → IsNamedReached s → IsOpenAlone (named_view s seat) seat a left
    → (is_named (top_of s) (names_with s seat a.lemma.clause) left ≡ true)
    × IsOpenAlone (view_of (beneath s) seat) seat (addition_beneath s seat a)
    (image (names_with s seat a.lemma.clause) left)

-- The pivot's variable is private: the seat was given it, or gets it when a lemma with this clause enters.
abbrev pub IsPrivatePivot : NamedState → ℕ → LiteralSet → ℤ → Type 0
IsPrivatePivot s seat c pivot = (y : ℕ) × IsGiven (given_in s seat c) seat (variable_of pivot) y

-- The candidates of a private pivot are those among the clauses that the seat sees.
abbrev pub PrivateCandidates : Type 0
PrivateCandidates = (s : NamedState) (seat : ℕ) (c : LiteralSet) (pivot : ℤ)
    → IsFormula s.formula → IsNamedReached s → IsPrivatePivot s seat c pivot
    → candidates (live (beneath s)) (literal_image (names_with s seat c) pivot)
    ≡ map (entry_image (names_with s seat c)) (candidates (seen_clauses (named_view s seat)) pivot)

-- the same for a pivot that the seat was given, with the seat's renaming as it is
abbrev pub GivenCandidates : Type 0
GivenCandidates = (s : NamedState) (seat y : ℕ) (pivot : ℤ) → IsFormula s.formula
    → IsNamedReached s → IsGiven s.variables seat (variable_of pivot) y
    → candidates (live (beneath s)) (literal_image (names_of s seat) pivot)
    ≡ map (entry_image (names_of s seat)) (candidates (seen_clauses (named_view s seat)) pivot)

-- A pivot whose variable only the lemma gives out has no candidates.
abbrev pub NewPivotsHaveNone : Type 0
NewPivotsHaveNone = (s : NamedState) (seat : ℕ) (c : LiteralSet) (pivot : ℤ)
    → IsFormula s.formula → IsNamedReached s → IsPrivatePivot s seat c pivot
    → fin.get (names_of s seat) (variable_of pivot) ≡ None
    → (candidates (live (beneath s)) (literal_image (names_with s seat c) pivot) ≡ [])
    × (candidates (seen_clauses (named_view s seat)) pivot ≡ [])

-- each hint of the groups is a number in the clause map
abbrev pub AreHintsIn : ClauseMap → List HintGroup → Type 0
AreHintsIn p groups = All (λ g. All (λ n. fin.contains_key p n ≡ true) g.hints) groups

-- The hints of the groups of a case that was taken by a view are among what it sees.
abbrev pub TakenHintsAreSeen : Type 0
TakenHintsAreSeen = (v : View) (seat number : ℕ) (a : Addition) (c : CaseValue)
    → solo_take v seat a ≡ Ok c → AreHintsIn (seen_clauses v) (joint_addition number c).groups

-- The test of the candidates of a private pivot, over groups of clauses that the seat sees, ends as that among what the
-- seat sees, for each open propagation in its own variables.
abbrev pub PrivateRat : Type 0
PrivateRat = (s : NamedState) (seat : ℕ) (c a : LiteralSet) (pivot : ℤ) (groups : List HintGroup)
    → IsFormula s.formula → IsNamedReached s → IsPrivatePivot s seat c pivot
    → is_named (top_of s) (names_with s seat c) a ≡ true
    → AreHintsIn (seen_clauses (named_view s seat)) groups
    → rat (live (beneath s)) (image (names_with s seat c) a)
    (literal_image (names_with s seat c) pivot) groups
    ≡ rat (seen_clauses (named_view s seat)) a pivot groups

-- The test of a lemma with a private pivot among the live clauses refuses just what it refuses among those that the seat
-- sees, in the seat's own variables.
abbrev pub PrivateRefusals : Type 0
PrivateRefusals = (s : NamedState) (seat number : ℕ) (a : Addition) (pivot : ℤ) (c d : CaseValue)
    → IsFormula s.formula → IsNamedReached s
    → a.lemma.pivot ≡ Some pivot → IsPrivatePivot s seat a.lemma.clause pivot
    → solo_take (named_view s seat) seat a ≡ Ok c
    → solo_take (view_of (beneath s) seat) seat (addition_beneath s seat a) ≡ Ok d
    → propagation_refusal (live (beneath s)) (joint_addition number d) (propagation_of d)
    ≡ propagation_refusal (seen_clauses (named_view s seat)) (joint_addition number c)
    (propagation_of c)
