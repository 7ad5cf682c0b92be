use Rattle.std.proofs.Common.{◌≡◌, sym, ap, ◌∙◌, arith, ℕ}
use Rattle.std.specs.Prelude.{Option, Some, None, option_copied, slice_get, List}
use Rattle.std.specs.Slice.{IsGetResult}
use Rattle.std.specs.Borrow.{Bor}
use Rattle.std.proofs.lemmas.Option.{slice_get_past, slice_get-get_or}
use Rattle.lj_clause.specs.ClauseMap.{FormulaValue}
use Rattle.lj_clause.proofs.Formulas.{clause_zero, clause_at}
use Rattle.lj_clause.proofs.formula.Formula.clause.Goals as goal

got : {X : Type 0} (xs : List X) (i : ℕ) (r : Option (Bor X)) → IsGetResult xs i i r → option_copied r ≡ slice_get xs i
got xs i None h = sym (slice_get_past xs i h.3)
got xs i (Some x) h = ap Some h.1 ∙ sym (slice_get-get_or xs i x.now h.3.0)

pub returns-in_err-index : goal.returns-in_err-index
returns-in_err-index c = ap option_copied c.from_residual.ensures ∙ sym (clause_zero c.args.self.now c.args.number (omega (arith, c.in_err-index.ensures)))

pub returns : goal.returns
returns c =
    got c.deref.result.now c.in_ok-index.index c.get.result c.get.ensures.lookup
    ∙ ap (λ xs. slice_get xs c.in_ok-index.index) (c.deref.ensures.value ∙ ap (λ (f : FormulaValue). f.clauses) c.self.view_is)
    ∙ sym (clause_at c.args.self.now c.args.number c.in_ok-index.index (omega (arith, c.in_ok-index.ensures.0, c.in_ok-index.ensures.1)))
