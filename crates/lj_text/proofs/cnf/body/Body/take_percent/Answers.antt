use Rattle.std.proofs.Common.{◌≡◌, ◌<◌, ◌∷◌, length, sym, ap, ◌∙◌, arith}
use Rattle.std.proofs.lemmas.Bool.Decides.{nat_tests}
use Rattle.std.proofs.lemmas.Grind.{common_steps}
use Rattle.lj_text.specs.Cnf.{Percent}
use Rattle.lj_text.specs.CnfReading.{Begun, formula_after}
use Rattle.lj_text.proofs.CnfLemmas.{completed-percent_early, empty_from}
use Rattle.lj_text.proofs.cnf.body.Body.take_percent.Goals as goal

pub returns-then-self-gt0-clause-reads : goal.returns-then-self-gt0-clause-reads
returns-then-self-gt0-clause-reads c last line rest =
    let v = c.self.inside in
    let begun : Begun = record { variables = v.variables; left = v.left; clauses = v.clauses.items; literals = v.literals.items } in
    let same : begun ≡ c.args.self.now = c.self.view_is in
    let count : length v.literals.items ≡ 0 = grind (arith, nat_tests, common_steps, c.is_empty.ensures, c.if-not-is_empty.false) in
    let some : 0 < v.left = omega arith in
    ap (λ b. formula_after b last (Percent line ∷ rest)) (sym same) ∙ completed-percent_early begun last line rest some (empty_from v.literals.items count)
