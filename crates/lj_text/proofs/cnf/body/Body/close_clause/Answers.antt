use Rattle.std.proofs.Common.{◌≡◌, ◌-◌, ◌+◌, ◌++◌, ◌∷◌, [], List, ℤ, true, length, pos, refl, sym, ap, ◌∙◌, subst, arith, length-append}
use Rattle.std.specs.List.{list_all}
use Rattle.lj_clause.specs.ClauseMap.{names_up_to}
use Rattle.lj_clause.specs.LiteralSet.{LiteralSet, from_literals}
use Rattle.lj_text.specs.Cnf.{Number}
use Rattle.lj_text.specs.CnfReading.{Begun, formula_after}
use Rattle.lj_text.specs.inner.CnfReading.{is_up_to}
use Rattle.lj_text.proofs.CnfLemmas.{completed-zero, clauses-pushed}
use Rattle.lj_text.proofs.cnf.body.Body.close_clause.Goals as goal

pub returns-clause-reads : goal.returns-clause-reads
returns-clause-reads c last line rest =
    let v = c.self.inside in
    let begun : Begun = record { variables = v.variables; left = v.left; clauses = v.clauses.items; literals = v.literals.items } in
    let same : begun ≡ c.args.self.now = c.self.view_is in
    let clause : from_literals v.literals.items ≡ c.in_ok-clause.clause = ap from_literals (sym c.deref.ensures.value) ∙ sym c.in_ok-clause.ensures in
    let pushed : v.clauses.items ++ from_literals v.literals.items ∷ [] ≡ c.push.new.self.items = ap (λ cl. v.clauses.items ++ cl ∷ []) clause ∙ sym c.in_ok-push.ensures.items in
    ap (λ b. formula_after b last (Number line (pos 0) ∷ rest)) (sym same)
    ∙ completed-zero begun last line rest (omega arith)
    ∙ ap (λ (cs : List LiteralSet). formula_after (record begun { left = v.left - 1; clauses = cs; literals = [] }) last rest) pushed
    ∙ ap (λ (ls : List ℤ). formula_after (record begun { left = v.left - 1; clauses = c.push.new.self.items; literals = ls }) last rest) (sym c.clear.ensures.items)

pub invariant_of-self-2 : goal.invariant_of-self-2
invariant_of-self-2 c =
    let v = c.self.inside in
    let buffer = c.self.invariant in
    let clause : from_literals v.literals.items ≡ c.in_ok-clause.clause = ap from_literals (sym c.deref.ensures.value) ∙ sym c.in_ok-clause.ensures in
    let pushed : v.clauses.items ++ from_literals v.literals.items ∷ [] ≡ c.push.new.self.items = ap (λ cl. v.clauses.items ++ cl ∷ []) clause ∙ sym c.in_ok-push.ensures.items in
    let P : List LiteralSet → Type 0 = λ cs. list_all (names_up_to v.variables) cs ≡ true in
    let Q : List ℤ → Type 0 = λ ls. list_all (is_up_to v.variables) ls ≡ true in
    let none : length c.clear.new.self.items ≡ 0 = ap length c.clear.ensures.items in
    let count : length c.push.new.self.items ≡ length v.clauses.items + 1 = ap length (sym pushed) ∙ length-append v.clauses.items (from_literals v.literals.items ∷ []) in
    record {
      variables = buffer.variables;
      left = λ h. absurd (omega arith);
      count = omega (arith, buffer.count);
      clauses = subst P pushed (clauses-pushed v.variables v.clauses.items v.literals.items buffer.clauses buffer.literals);
      literals = subst Q (sym c.clear.ensures.items) refl;
    }
