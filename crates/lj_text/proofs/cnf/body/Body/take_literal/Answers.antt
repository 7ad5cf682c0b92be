use Rattle.std.proofs.Common.{◌≡◌, ◌++◌, ◌∷◌, [], List, ℤ, sym, ap, ◌∙◌, arith}
use Rattle.std.proofs.lemmas.Int.{to_z-of_z}
use Rattle.std.specs.Int.{w32}
use Rattle.lj_text.specs.Cnf.{Number}
use Rattle.lj_text.specs.CnfReading.{Begun, formula_after}
use Rattle.lj_text.proofs.CnfLemmas.{completed-literal}
use Rattle.lj_text.proofs.cnf.body.Body.take_literal.Goals as goal

pub returns-in_ok-push-in-Some-clause-reads : goal.returns-in_ok-push-in-Some-clause-reads
returns-in_ok-push-in-Some-clause-reads c last line rest =
    let v = c.self.inside in
    let begun : Begun = record { variables = v.variables; left = v.left; clauses = v.clauses.items; literals = v.literals.items } in
    let same : begun ≡ c.args.self.now = c.self.view_is in
    let count : v.variables ≡ c.args.self.now.variables = ap (λ (b : Begun). b.variables) same in
    let literal_is : c.args.number ≡ c.in-Some.literal = sym (to_z-of_z w32 c.args.number c.ranges.number) ∙ sym c.in-Some.ensures.1 in
    let pushed : v.literals.items ++ c.args.number ∷ [] ≡ c.push.new.self.items = ap (λ l. v.literals.items ++ l ∷ []) (literal_is) ∙ sym c.in_ok-push-in-Some.ensures.items in
    ap (λ b. formula_after b last (Number line c.args.number ∷ rest)) (sym same)
    ∙ completed-literal begun last line c.args.number rest (omega (arith, c.requires.in_range, count)) c.requires.some (omega arith)
    ∙ ap (λ (ls : List ℤ). formula_after (record begun { literals = ls }) last rest) pushed
