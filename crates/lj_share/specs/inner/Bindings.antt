-- Clauses under numbers, each with its joint number.
use Rattle.std.specs.Prelude.{◌≡◌, ◌==◌, ℕ, Option, None, Some, is_some, option_map, if◌then◌else◌}
use Rattle.std.specs.Ordering.{nat_cmp}
use Rattle.std.specs.FinMap as fin
use Rattle.lj_clause.specs.LiteralSet.{LiteralSet}
use Rattle.lj_clause.specs.ClauseMap.{ClauseMap}
use Rattle.lj_hint.specs.declared.pair.Pair.{Pair}

-- Clauses under numbers, and joint numbers under numbers.
pub record BindingsValue : Type 0 where
  pub clauses : ClauseMap
  pub joints : fin.FinMap nat_cmp ℕ

-- The same numbers have a clause and a joint number.
abbrev pub AreAlike : ClauseMap → fin.FinMap nat_cmp ℕ → Type 0
AreAlike clauses joints = (n : ℕ) → is_some (fin.get clauses n) ≡ is_some (fin.get joints n)

-- the clause with the joint number, where there are both
abbrev pub pair_of : Option LiteralSet → Option ℕ → Option Pair
pair_of (Some c) (Some j) = Some (record { joint = j; clause = c })
pair_of _ _ = None

-- what a number is bound to
abbrev pub bound_at : BindingsValue → ℕ → Option Pair
bound_at b n = pair_of (fin.get b.clauses n) (fin.get b.joints n)

-- the same clause under this joint number
abbrev pub under_joint : ℕ → Option Pair → Option Pair
under_joint joint pair = option_map (λ p. record { joint = joint; clause = p.clause }) pair

-- What numbers are bound to is as before, but for this one, which is bound to this, or to nothing.
abbrev pub IsSet : BindingsValue → ℕ → Option Pair → BindingsValue → Type 0
IsSet before number pair after = (n : ℕ)
    → bound_at after n ≡ (if n == number then pair else bound_at before n)
