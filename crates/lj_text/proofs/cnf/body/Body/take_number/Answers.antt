use Rattle.std.proofs.Common.{◌≡◌, ◌∷◌, ℕ, Option, Some, ℤ, Err, ap, sym, subst, rules}
use Rattle.std.specs.Prelude.{MatchResult, FitsSigned}
use Rattle.std.specs.Int.{w32}
use Rattle.std.proofs.lemmas.Int.{to_z-of_z}
use Rattle.std.proofs.lemmas.Result.{err_from_is_err_and}
use Rattle.lj_text.specs.Bytes.{number_of}
use Rattle.lj_text.specs.Cnf.{number_at}
use Rattle.lj_text.specs.CnfReading.{Begun, formula_after}
use Rattle.lj_text.specs.inner.CnfReading.{IsCnfTold, IsNumberUpTo}
use Rattle.lj_text.proofs.CnfLemmas.{completed-refused}
use Rattle.lj_text.proofs.cnf.body.Body.take_number.Goals as goal

pub returns-in_err-number-clause-reads : goal.returns-in_err-number-clause-reads
returns-in_err-number-clause-reads c last line rest =
    let p = err_from_is_err_and c.from_residual.result c.from_residual.ensures.1 in
    let P : ℕ → Type 0 = λ v. IsNumberUpTo v (number_of c.args.token.now) (Err c.in_err-number.field-0.0) in
    rw (p.1, p.2) (completed-refused c.args.self.now last line (number_of c.args.token.now) c.in_err-number.field-0.0 rest
    (subst P (ap (λ (b : Begun). b.variables) c.self.view_is) c.in_err-number.ensures))

pub returns-else-number-eq0-clause-reads : goal.returns-else-number-eq0-clause-reads
returns-else-number-eq0-clause-reads c last line rest =
    let P : Option ℤ → Type 0 = λ o. MatchResult c.take_literal.result (λ x. formula_after c.args.self.now last (number_at line o ∷ rest) ≡ formula_after c.take_literal.new.self last rest)
    (λ kind. IsCnfTold kind line (formula_after c.args.self.now last (number_at line o ∷ rest))) in
    let fits : FitsSigned w32 c.in_ok-number.number = search rules in
    let Q : ℤ → Type 0 = λ z. P (Some z) in
    subst P (sym c.in_ok-number.ensures.0) (subst Q (to_z-of_z w32 c.in_ok-number.number fits) (c.take_literal.ensures.reads last line rest))
