-- What a book keeps whose seats name variables as they like: one in joint variables, and the variables.
use Rattle.std.specs.Prelude.{◌≡◌, ℕ, Bool, false, not, Option, Some, None}
use Rattle.lj_clause.specs.LiteralSet.{LiteralSet}
use Rattle.lj_book.specs.Variables.{is_own}
use Rattle.lj_book.specs.State.{State}
use Rattle.lj_book.specs.declared.entry.Entry.{Entry}
use Rattle.lj_book.specs.Named.{NamedState, top_of, beneath, named_over, after_named, IsNamedReached}
use Rattle.lj_book.specs.inner.VariableTables.{TopVariables}

-- A legal history leads to the state over them, and the one in joint variables is what lies beneath it.
pub record IsOver (joint : State) (t : TopVariables) : Type 0 where
  pub top : t.top ≡ joint.formula.variables
  pub reached : IsNamedReached (named_over joint t.variables)
  pub below : beneath (named_over joint t.variables) ≡ joint

-- They are what the entry leaves of the state that lay over them before.
pub record IsOverAfter (s : NamedState) (e : Entry) (joint : State) (t : TopVariables) : Type 0 where
  pub over : IsOver joint t
  pub leaves : named_over joint t.variables ≡ after_named s e

-- whether the clause, if there is one, names a variable above the formula's that the seat was not given
abbrev pub is_private : NamedState → ℕ → Option LiteralSet → Bool
is_private s seat None = false
is_private s seat (Some c) = not (is_own (top_of s) s.variables seat c)
