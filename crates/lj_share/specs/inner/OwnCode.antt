-- How a proof stores what a seat keeps.
use Rattle.std.specs.Prelude.{ℕ, Bool, List, refl}
use Rattle.std.specs.Ordering.{nat_cmp}
use base.Stored.{coded_unit}
use Rattle.std.specs.Coded.{Coded, code_by, coded×, coded_list, coded_bool, coded_ℕ}
use Rattle.std.specs.FinMap as fin
use Rattle.lj_clause.specs.ClauseMap.{ClauseMap}
use Rattle.lj_clause.specs.inner.Codes.{clause_map_code}
use Rattle.lj_share.specs.inner.Bindings.{BindingsValue}
use Rattle.lj_share.specs.inner.Dead.{DeadValue}
use Rattle.lj_share.specs.inner.Seats.{OwnValue}

abbrev pub bindings_code : Coded BindingsValue
bindings_code = code_by (ClauseMap × fin.FinMap nat_cmp ℕ)
    (coded× clause_map_code (fin.code coded_ℕ coded_ℕ))
    (λ b. (b.clauses, b.joints)) (λ p. record { clauses = p.0; joints = p.1 }) (λ _. refl)

abbrev pub own_code : Coded OwnValue
own_code = code_by (List Bool × (BindingsValue × BindingsValue))
    (coded× (coded_list coded_bool) (coded× bindings_code bindings_code))
    (λ o. (o.given_up, (o.rebound, o.late)))
    (λ p. record { given_up = p.0; rebound = p.1.0; late = p.1.1 }) (λ _. refl)

abbrev pub dead_code : Coded DeadValue
dead_code = fin.code coded_ℕ coded_unit
