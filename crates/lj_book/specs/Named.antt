-- A book whose seats name variables as they like: what its entries leave, and when they are legal. Beneath it lies a book in joint variables, as in `State`.
use Rattle.std.specs.Prelude.{◌≡◌, ℕ, ◌+◌, ◌<◌, nat_le, Bool, true, List, [], ◌∷◌, ◌++◌, map, Option, Some, None}
use Rattle.std.specs.FinMap as fin
use Rattle.lj_clause.specs.declared.lit.TheConstants.{MAX_VARIABLE}
use Rattle.lj_clause.specs.LiteralSet.{LiteralSet}
use Rattle.lj_clause.specs.Lemma.{IsLemma}
use Rattle.lj_clause.specs.ClauseMap.{FormulaValue}
use Rattle.lj_clause.specs.Renaming.{Renaming, image, lemma_image, is_named, inverse}
use Rattle.lj_book.specs.declared.entry.Call.{Call}
use Rattle.lj_book.specs.declared.entry.Call.TheVariants as calls
use Rattle.lj_book.specs.declared.entry.Entry.{Entry}
use Rattle.lj_book.specs.Tables.{Tables}
use Rattle.lj_book.specs.Variables.{Variables, IsVariables, renaming_of, no_variables, given, is_own}
use Rattle.lj_book.specs.State.{State, live, opening}
use Rattle.lj_book.specs.History.{tables_after, after_entry, IsLegal, IsReached}

-- As `State`, with the variables of the seats. A call in an entry speaks its seat's variables, and a step joint ones.
pub record NamedState : Type 0 where
  pub formula : FormulaValue
  pub max_steps : ℕ
  pub tables : Tables
  pub history : List Entry
  pub variables : Variables

-- the greatest variable of the formula
abbrev pub top_of : NamedState → ℕ
top_of s = s.formula.variables

-- a seat's renaming to joint variables
abbrev pub names_of : NamedState → ℕ → Renaming
names_of s seat = renaming_of s.variables seat

-- ---- the book beneath

-- what a call is in joint variables
abbrev pub call_image : Renaming → Call → Call
call_image m (calls.Add own lemma) = calls.Add own (lemma_image m lemma)
call_image m (calls.Drop numbers) = calls.Drop numbers
call_image m (calls.Adopt own joint) = calls.Adopt own joint
call_image m (calls.Import own clause) = calls.Import own (image m clause)
call_image m calls.Leave = calls.Leave

-- what an entry is in joint variables
abbrev pub joint_entry : Variables → Entry → Entry
joint_entry v e = record
    { seat = e.seat; call = call_image (renaming_of v e.seat) e.call; step = e.step }

-- the state in joint variables
abbrev pub beneath : NamedState → State
beneath s = record {
  formula = s.formula;
  max_steps = s.max_steps;
  tables = s.tables;
  history = map (joint_entry s.variables) s.history;
}

-- what an entry of the book beneath is in its seat's variables
abbrev pub own_entry : Variables → Entry → Entry
own_entry v e = record
    { seat = e.seat; call = call_image (inverse (renaming_of v e.seat)) e.call; step = e.step }

-- the state over one in joint variables
abbrev pub named_over : State → Variables → NamedState
named_over s v = record {
  formula = s.formula;
  max_steps = s.max_steps;
  tables = s.tables;
  history = map (own_entry v) s.history;
  variables = v;
}

-- the variables once a lemma with this clause has entered
abbrev pub given_in : NamedState → ℕ → LiteralSet → Variables
given_in s seat c = given (top_of s) s.variables seat c

-- whether as many are left
abbrev pub has_variables_for : NamedState → ℕ → LiteralSet → Bool
has_variables_for s seat c = nat_le (given_in s seat c).next (MAX_VARIABLE + 1)

-- ---- what an entry leaves

-- the variables behind a call of a seat: a lemma that enters has its variables given out
abbrev pub variables_behind : NamedState → ℕ → Call → Variables
variables_behind s seat (calls.Add own lemma) = given_in s seat lemma.clause
variables_behind s seat (calls.Drop numbers) = s.variables
variables_behind s seat (calls.Adopt own joint) = s.variables
variables_behind s seat (calls.Import own clause) = s.variables
variables_behind s seat calls.Leave = s.variables

-- the entry in joint variables, with those that it gave out
abbrev pub entry_beneath : NamedState → Entry → Entry
entry_beneath s e = joint_entry (variables_behind s e.seat e.call) e

-- the state that it leaves
abbrev pub after_named : NamedState → Entry → NamedState
after_named s e = record {
  formula = s.formula;
  max_steps = s.max_steps;
  tables = tables_after (beneath s) e.seat (entry_beneath s e).call;
  history = s.history ++ e ∷ [];
  variables = variables_behind s e.seat e.call;
}

-- the state that a list of entries leaves
abbrev pub after_all_named : NamedState → List Entry → NamedState
after_all_named s [] = s
after_all_named s (e ∷ es) = after_all_named (after_named s e) es

-- ---- legal histories

-- the clause that the seat binds is its own
abbrev pub IsOwnLive : NamedState → ℕ → Option LiteralSet → Type 0
IsOwnLive s seat None = ⊥
IsOwnLive s seat (Some c) = is_own (top_of s) s.variables seat c ≡ true

-- the call names no variable that it may not
abbrev pub NamesRightly : NamedState → ℕ → Call → Type 0
NamesRightly s seat (calls.Add own lemma) =
    IsLemma lemma × (has_variables_for s seat lemma.clause ≡ true)
NamesRightly s seat (calls.Drop numbers) = Unit {0}
NamesRightly s seat (calls.Adopt own joint) = IsOwnLive s seat (fin.get (live (beneath s)) joint)
NamesRightly s seat (calls.Import own clause) =
    is_named (top_of s) (names_of s seat) clause ≡ true
NamesRightly s seat calls.Leave = Unit {0}

-- The entry is legal in joint variables, and names none that it may not.
pub record IsNamedLegal (s : NamedState) (e : Entry) : Type 0 where
  pub names : NamesRightly s e.seat e.call
  pub legal : IsLegal (beneath s) (entry_beneath s e)

-- Each entry is legal in the state that those before it leave.
abbrev pub AreNamedLegal : NamedState → List Entry → Type 0
AreNamedLegal s [] = Unit {0}
AreNamedLegal s (e ∷ es) = IsNamedLegal s e × AreNamedLegal (after_named s e) es

-- a new book
abbrev pub named_opening : FormulaValue → ℕ → ℕ → NamedState
named_opening f seats max_steps = record {
  formula = f;
  max_steps = max_steps;
  tables = (opening f seats max_steps).tables;
  history = [];
  variables = no_variables f.variables seats;
}

-- A legal history leads from the opening with some seats to the state.
pub record IsNamedReached (s : NamedState) : Type 0 where
  pub seats : ℕ
  pub some_seat : 0 < seats
  pub legal : AreNamedLegal (named_opening s.formula seats s.max_steps) s.history
  pub leads : after_all_named (named_opening s.formula seats s.max_steps) s.history ≡ s

-- ---- laws

-- The book beneath is reached by the joint entries.
abbrev pub BeneathIsReached : Type 0
BeneathIsReached = (s : NamedState) → IsNamedReached s → IsReached (beneath s)

-- The rules of variables hold.
abbrev pub NamedKeepRules : Type 0
NamedKeepRules = (s : NamedState) → IsNamedReached s → IsVariables (top_of s) s.variables

-- A state lies over what lies beneath it.
abbrev pub OverBeneath : Type 0
OverBeneath = (s : NamedState) → IsNamedReached s → named_over (beneath s) s.variables ≡ s

-- An entry that enters: it changes the book beneath by the entry in joint variables, and gives the variables out.
pub record EntersBook (s : NamedState) (e : Entry) : Type 0 where
  pub reached : IsNamedReached (after_named s e)
  pub joint : beneath (after_named s e) ≡ after_entry (beneath s) (entry_beneath s e)
  pub over : named_over (after_entry (beneath s) (entry_beneath s e))
      (variables_behind s e.seat e.call) ≡ after_named s e

-- Each legal entry enters.
abbrev pub LegalEntriesEnter : Type 0
LegalEntriesEnter = (s : NamedState) (e : Entry) → IsNamedReached s → IsNamedLegal s e
    → EntersBook s e

-- An entry that names rightly is legal where the book beneath takes it.
abbrev pub TakenBeneathAreLegal : Type 0
TakenBeneathAreLegal = (s : NamedState) (e : Entry) → IsNamedReached s
    → NamesRightly s e.seat e.call → IsReached (after_entry (beneath s) (entry_beneath s e))
    → IsNamedLegal s e
