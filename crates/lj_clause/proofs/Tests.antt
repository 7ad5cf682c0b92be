-- What tests of numbers and of truth values say.
use Rattle.std.proofs.Common.{◌≡◌, ℕ, refl, arith}
use Rattle.std.specs.Prelude.{Bool, true, false, cond, T, ◌==◌, ◌&&◌, ◌||◌, Option, Some, is_some}
use Rattle.std.proofs.lemmas.Bool.Decides.{nat_tests}

pub turned : (a b : ℕ) → (a == b) ≡ (b == a)
turned a b = grind (arith, nat_tests)

pub left_of : (a b : Bool) → T (a && b) → T a
left_of true b h = tt
left_of false b h = absurd h

pub right_of : (a b : Bool) → T (a && b) → T b
right_of true b h = h
right_of false b h = absurd h

pub both_of : (a b : Bool) → T a → T b → T (a && b)
both_of true b g h = h
both_of false b g h = g

-- whether there is a mark where one may have been put
pub marked : (b : Bool) (x : Option (Unit {0})) → is_some (cond b (Some tt) x) ≡ (b || is_some x)
marked true x = refl
marked false x = refl
