-- What a seat sees at the opening, and which additions it decides alone.
use Rattle.std.specs.Prelude.{◌≡◌, ℕ, List, length, Option, Some, None, option_map, Result, Ok, Err}
use Rattle.std.specs.FinMap as fin
use Rattle.lj_clause.specs.LiteralSet.{LiteralSet}
use Rattle.lj_clause.specs.ClauseMap.{FormulaValue, formula_map}
use Rattle.lj_clause.specs.Propagation.{Propagation, Closed, Open, Stuck}
use Rattle.lj_text.specs.declared.line.Addition.{Addition}
use Rattle.lj_hint.specs.Case.{CaseValue, propagation_of}
use Rattle.lj_book.specs.declared.refusal.Refusal.{Refusal}
use Rattle.lj_book.specs.declared.refusal.Refusal.TheVariants.{HintNotUnit}
use Rattle.lj_book.specs.Tables.{up_to}
use Rattle.lj_book.specs.Solo.{Holdings, View, holdings_of, solo_take}

-- ---- what a seat sees behind an entry

-- the holdings where the own number is bound to the joint number that was found, if one was, and to this clause
abbrev pub with_found_holding : Holdings → ℕ → Option ℕ → LiteralSet → Holdings
with_found_holding h own None c = h
with_found_holding h own (Some joint) c = fin.insert h own (record { joint = joint; clause = c })

-- ---- what a seat sees at the opening

-- the clauses of a formula under their own numbers
abbrev pub formula_holdings : FormulaValue → Holdings
formula_holdings f = holdings_of (formula_map f) (up_to (length f.clauses))

-- An own number of the opening is bound to the clause of that number.
abbrev pub HoldsTheFormula : Type 0
HoldsTheFormula = (f : FormulaValue) (own : ℕ) → fin.get (formula_holdings f) own
    ≡ option_map (λ c. record { joint = own; clause = c }) (fin.get (formula_map f) own)

-- ---- what a seat decides alone

-- the refusal that the end of a propagation leads to whatever other clauses live
abbrev pub stuck_refusal : Propagation → Option Refusal
stuck_refusal (Closed used) = None
stuck_refusal (Open a) = None
stuck_refusal (Stuck place) = Some (HintNotUnit place)

-- the same, of a case or of the refusal of its take
abbrev pub decided_by : Result CaseValue Refusal → Option Refusal
decided_by (Err e) = Some e
decided_by (Ok c) = stuck_refusal (propagation_of c)

-- the refusal of an addition that what the seat sees decides
abbrev pub decided_refusal : View → ℕ → Addition → Option Refusal
decided_refusal v seat a = decided_by (solo_take v seat a)

-- By what the seat sees, the propagation of the addition closes after so many of its hints.
pub record IsClosedAlone (v : View) (seat : ℕ) (a : Addition) (read : ℕ) : Type 0 where
  pub case : CaseValue
  pub used : List ℕ
  pub taken : solo_take v seat a ≡ Ok case
  pub closed : propagation_of case ≡ Closed used
  pub read_is : length used ≡ read
