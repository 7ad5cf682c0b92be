-- The state of a book, and what is read from it.
use Rattle.std.specs.Prelude.{ℕ, ◌+◌, Bool, false, List, [], ◌∷◌, length, Option, Some, None, filter_map, if◌then◌else◌, replicate}
use Rattle.std.specs.FinMap as fin
use Rattle.lj_clause.specs.ClauseMap.{ClauseMap, FormulaValue, formula_map}
use Rattle.lj_text.specs.declared.step.Step.{Step}
use Rattle.lj_text.specs.declared.step.Step.TheVariants.{Add, Delete}
use Rattle.lj_text.specs.Steps.{adds_empty}
use Rattle.lj_text.specs.Needed.{additions}
use Rattle.lj_book.specs.declared.entry.Entry.{Entry}
use Rattle.lj_book.specs.Tables.{Tables, has_holder, up_to}

-- The formula, the greatest number of additions, the tables of the seats, and the history, the oldest entry first.
pub record State : Type 0 where
  pub formula : FormulaValue
  pub max_steps : ℕ
  pub tables : Tables
  pub history : List Entry

-- the steps that a history took, in order
abbrev pub steps_of : List Entry → List Step
steps_of history = filter_map (λ e. e.step) history

-- how many additions it has
abbrev pub addition_count : List Entry → ℕ
addition_count history = length (additions (steps_of history))

-- the joint number that the next addition takes
abbrev pub next : State → ℕ
next s = length s.formula.clauses + 1 + addition_count s.history

-- the map with the clause of each addition under its number
abbrev pub with_additions : ClauseMap → List Step → ClauseMap
with_additions p [] = p
with_additions p (Add a ∷ ss) = with_additions (fin.insert p a.number a.lemma.clause) ss
with_additions p (Delete numbers ∷ ss) = with_additions p ss

-- the clause of each number that was ever given out
abbrev pub given_out : State → ClauseMap
given_out s = with_additions (formula_map s.formula) (steps_of s.history)

-- the clauses that live: those to whose number some seat's own number is bound
abbrev pub live : State → ClauseMap
live s = fin.retain_keys (given_out s) (has_holder s.tables)

-- a new book with this many seats, each of which holds the clauses of the formula under their numbers
abbrev pub opening : FormulaValue → ℕ → ℕ → State
opening f seats max_steps = record {
  formula = f;
  max_steps = max_steps;
  tables = replicate seats
      (Some (up_to (length f.clauses)));
  history = [];
}

-- whether the entry adds the empty clause
abbrev pub is_refutation : Option Step → Bool
is_refutation None = false
is_refutation (Some s) = adds_empty s

-- the place, counted onward from this one, of the first entry that adds the empty clause
abbrev pub verdict_from : ℕ → List Entry → Option ℕ
verdict_from place [] = None
verdict_from place (e ∷ es) = if is_refutation e.step then Some place
    else verdict_from (place + 1) es

-- the place of the first entry that adds the empty clause
abbrev pub verdict : List Entry → Option ℕ
verdict history = verdict_from 0 history
