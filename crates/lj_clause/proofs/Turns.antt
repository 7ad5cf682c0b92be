-- The last bit of a number, turned.
use Rattle.std.proofs.Common.{◌≡◌, ap, ◌∙◌, ℕ, ◌+◌, ◌-◌, ◌*◌, ◌/◌, ◌%◌, ◌^◌, ◌<◌, arith}
use Rattle.std.specs.Int.Bits.{bit_xor, xor_zero_r}
use Rattle.std.proofs.lemmas.Nat.{xor_block}

split : (n r : ℕ) → n % 2 ≡ r → n ≡ n / 2 * 2 ^ 1 + r
split n r e = omega arith

block : (n r : ℕ) → n % 2 ≡ r → r < 2 ^ 1 → bit_xor n 1 ≡ n / 2 * 2 ^ 1 + bit_xor r 1
block n r e lt =
    ap (λ (m : ℕ). bit_xor m 1) (split n r e)
    ∙ xor_block 1 (n / 2) 0 r 1 lt (omega arith)
    ∙ ap (λ (m : ℕ). m * 2 ^ 1 + bit_xor r 1) (xor_zero_r (n / 2))

even_sum : (n : ℕ) → n % 2 ≡ 0 → n / 2 * 2 ^ 1 + 1 ≡ n + 1
even_sum n e = omega arith

odd_sum : (n : ℕ) → n % 2 ≡ 1 → n / 2 * 2 ^ 1 + 0 ≡ n - 1
odd_sum n e = omega arith

pub even_turned : (n : ℕ) → n % 2 ≡ 0 → bit_xor n 1 ≡ n + 1
even_turned n e = block n 0 e (omega arith) ∙ even_sum n e

pub odd_turned : (n : ℕ) → n % 2 ≡ 1 → bit_xor n 1 ≡ n - 1
odd_turned n e = block n 1 e (omega arith) ∙ odd_sum n e
