-- What a reader of a formula holds of what was fed, and what the grammar reads from there on.
use Rattle.std.specs.Prelude.{ℕ, ◌-◌, Bool, false, ◌&&◌, nat_le, nat_lt, List, [], ◌∷◌, ◌++◌, Option, Some, None, Result, ℤ, unsigned_abs}
use Rattle.lj_clause.specs.LiteralSet.{LiteralSet, from_literals}
use Rattle.lj_clause.specs.ClauseMap.{FormulaValue, formula_of}
use Rattle.lj_text.specs.declared.cnf.fault.CnfFault.{CnfFault}
use Rattle.lj_text.specs.Bytes.{number_of}
use Rattle.lj_text.specs.Lines.{with_read, then_read}
use Rattle.lj_text.specs.Cnf.{BodyToken, literals_up_to, clauses_of}

-- The clauses so far, how many are to come, and the literals of the one that is open.
pub record Begun : Type 0 where
  pub variables : ℕ
  pub left : ℕ
  pub clauses : List LiteralSet
  pub literals : List ℤ

-- the clauses that are read from there on
abbrev pub clauses_after : ℕ → ℕ → ℕ → List ℤ → List BodyToken → Result (List LiteralSet) CnfFault
clauses_after variables last left [] body_tokens = clauses_of variables last left body_tokens
clauses_after variables last left (l ∷ ls) body_tokens = then_read
    (literals_up_to variables last body_tokens)
    (λ r. with_read (λ cs. from_literals (l ∷ ls ++ r.0) ∷ cs)
    (clauses_of variables last (left - 1) r.1))

-- the formula that is read from there on
abbrev pub formula_after : Begun → ℕ → List BodyToken → Result FormulaValue CnfFault
formula_after begun last body_tokens = with_read
    (λ cs. formula_of begun.variables (begun.clauses ++ cs))
    (clauses_after begun.variables last begun.left begun.literals body_tokens)

-- a number up to the number of variables where a clause is to come: what it says has to be kept
abbrev pub is_literal_kept : Begun → Option ℤ → Bool
is_literal_kept begun None = false
is_literal_kept begun (Some n) = nat_lt 0 begun.left && nat_le (unsigned_abs n) begun.variables

-- the first of a line's tokens is such a number
abbrev pub keeps_first : Begun → List (List ℕ) → Bool
keeps_first begun [] = false
keeps_first begun (token ∷ tokens) = is_literal_kept begun (number_of token)
