-- How a proof stores what was read of a formula.
use Rattle.std.specs.Prelude.{ℕ, List, ℤ, refl}
use Rattle.std.specs.Coded.{Coded, code_by, coded×, coded_list, coded_ℕ, coded_ℤ}
use Rattle.lj_clause.specs.LiteralSet.{LiteralSet}
use Rattle.lj_clause.specs.inner.Codes.{literal_set_code}
use Rattle.lj_text.specs.CnfReading.{Begun}

-- how a proof stores one
abbrev pub begun_code : Coded Begun
begun_code = code_by ((ℕ × ℕ) × (List LiteralSet × List ℤ))
    (coded× (coded× coded_ℕ coded_ℕ) (coded× (coded_list literal_set_code) (coded_list coded_ℤ)))
    (λ b. ((b.variables, b.left), (b.clauses, b.literals)))
    (λ p. record { variables = p.0.0; left = p.0.1; clauses = p.1.0; literals = p.1.1 }) (λ _. refl)
