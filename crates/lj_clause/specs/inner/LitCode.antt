-- How a literal is kept: as twice its variable, and one more for the negation.
use Rattle.std.specs.Prelude.{◌≡◌, ℕ, ◌+◌, ◌*◌, ◌/◌, ◌%◌, ◌≤◌, ◌-◌, ℤ, pos, negsuc, ◌==◌, if◌then◌else◌, Bool, true, false, cond, refl}
use Rattle.std.proofs.Common.{arith, ap}
use Rattle.lj_clause.specs.declared.lit.Lit.TheInside.{Inside}
use Rattle.lj_clause.specs.declared.lit.TheConstants.{MAX_VARIABLE}
use Rattle.lj_clause.specs.Literal.{index_of}

abbrev pub literal_of : Inside → ℤ
literal_of a = if a.code % 2 == 0 then pos (a.code / 2) else negsuc (a.code / 2 - 1)

abbrev pub IsCode : Inside → Type 0
IsCode a = (2 ≤ a.code) × (a.code ≤ 2 * MAX_VARIABLE + 1)

abbrev pub lit_code_of : ℤ → Inside
lit_code_of l = record { code = index_of l }

place_back : (n : ℕ) → 2 ≤ n → (b : Bool) → (n % 2 == 0) ≡ b
    → index_of (cond b (pos (n / 2)) (negsuc (n / 2 - 1))) ≡ n
place_back n h true e = grind arith
place_back n h false e = grind arith

pub literal_back : (a : Inside) → IsCode a → lit_code_of (literal_of a) ≡ a
literal_back a h = ap (λ (n : ℕ). record { code = n })
    (place_back a.code h.0 (a.code % 2 == 0) refl)
