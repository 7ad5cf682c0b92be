-- How a proof stores literals, clauses, lemmas, groups and formulas.
use Rattle.std.specs.FinSet.{code}
use Rattle.std.specs.Coded.{Coded, coded_ℤ, code_by, coded×, coded_list, coded_ℕ, coded_option}
use Rattle.lj_clause.specs.LiteralSet.{LiteralSet}
use Rattle.std.specs.Prelude.{ℕ, List, refl, ℤ, Option}
use Rattle.std.specs.FinMap as map
use Rattle.lj_clause.specs.ClauseMap.{ClauseMap, FormulaValue}
use Rattle.lj_clause.specs.Lemma.{LemmaValue}
use Rattle.lj_clause.specs.Rat.{HintGroup}

-- how a proof stores one
abbrev pub literal_set_code : Coded LiteralSet
literal_set_code = code coded_ℤ

-- how a proof stores one
abbrev pub clause_map_code : Coded ClauseMap
clause_map_code = map.code coded_ℕ literal_set_code

-- how a proof stores one
abbrev pub formula_code : Coded FormulaValue
formula_code = code_by (ℕ × List LiteralSet) (coded× coded_ℕ (coded_list literal_set_code))
    (λ f. (f.variables, f.clauses)) (λ p. record { variables = p.0; clauses = p.1 }) (λ _. refl)

-- how a proof stores one
abbrev pub lemma_code : Coded LemmaValue
lemma_code = code_by (LiteralSet × Option ℤ) (coded× literal_set_code (coded_option coded_ℤ))
    (λ l. (l.clause, l.pivot)) (λ p. record { clause = p.0; pivot = p.1 }) (λ _. refl)

-- how a proof stores one
abbrev pub hint_group_code : Coded HintGroup
hint_group_code = code_by (ℕ × List ℕ) (coded× coded_ℕ (coded_list coded_ℕ))
    (λ g. (g.candidate, g.hints)) (λ p. record { candidate = p.0; hints = p.1 }) (λ _. refl)
