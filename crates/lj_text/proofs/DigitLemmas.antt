-- The value of digits, from the front.
use Rattle.std.proofs.Common.{◌≡◌, ℕ, zero, suc, ◌+◌, ◌-◌, ◌*◌, ◌^◌, ◌<◌, ◌≤◌, true, false, ◌&&◌, List, [], ◌∷◌, length, get_or, take, drop, refl, sym, ap, ◌∙◌, subst, inl, inr, arith}
use Rattle.std.proofs.lemmas.Bool.{cases_lt}
use Rattle.std.proofs.lemmas.List.{take_all}
use Rattle.std.specs.List.{list_all}
use Rattle.std.specs.Char.{is_ascii_digit}
use Rattle.std.proofs.Math.Nat.{pow-succ'}
use Rattle.std.specs.Prelude.{Option, Some, ℤ, pos, negsuc, option_map, option_and_then}
use Rattle.lj_text.specs.declared.bytes.digits.TokenNumber.TheVariants as values
use Rattle.lj_text.specs.Bytes.{decimal_value, digits_value, negative}
use Rattle.lj_text.specs.Lines.{greatest}
use Rattle.lj_text.specs.inner.TokenNumbers.{Counts, IsTokenNumber}

-- some of the digits were read, and value is held of them
pub record IsRead (all rest : List ℕ) (value : ℕ) : Type 0 where
  pub digits : list_all is_ascii_digit all ≡ list_all is_ascii_digit rest
  pub read : ℕ
  pub total : decimal_value all ≡ read * 10 ^ length rest + decimal_value rest
  pub counts : Counts value read

goes_on : (value read next d : ℕ) → Counts value read → Counts next (10 * value + d) → Counts next (10 * read + d)
goes_on value read next d buffer c =
    let here : value ≤ greatest → read ≡ value = buffer.0 in
    let above : greatest < value → greatest < read = buffer.1 in
    let then : next ≤ greatest → 10 * value + d ≡ next = c.0 in
    let beyond : greatest < next → greatest < 10 * value + d = c.1 in
    elim (cases_lt greatest value) [
      | inl big ↦ (λ h. absurd (omega (arith, then h)), λ h. omega (arith, above big))
      | inr small ↦ (λ h. omega (arith, then h, here small), λ h. omega (arith, beyond h, here small))
    ]

pub read-more : (all rest : List ℕ) (b value next : ℕ) → is_ascii_digit b ≡ true → Counts next (10 * value + (b - 48)) → IsRead all (b ∷ rest) value → IsRead all rest next
read-more all rest b value next d c so_far =
    let power : 10 ^ length (b ∷ rest) ≡ 10 * 10 ^ length rest = pow-succ' 10 (length rest) in
    let P : ℕ → Type 0 = λ p. decimal_value all ≡ so_far.read * p + decimal_value (b ∷ rest) in
    let total : decimal_value all ≡ so_far.read * (10 * 10 ^ length rest) + ((b - 48) * 10 ^ length rest + decimal_value rest) = subst P power so_far.total in
    record {
      digits = so_far.digits ∙ ap (λ t. t && list_all is_ascii_digit rest) d;
      read = 10 * so_far.read + (b - 48);
      total = omega (arith, total);
      counts = goes_on value so_far.read next (b - 48) so_far.counts c;
    }

-- the same, of a slice
pub read-step : (all rest : List ℕ) (value next : ℕ) → 1 ≤ length rest → is_ascii_digit (get_or rest 0 0) ≡ true → Counts next (10 * value + (get_or rest 0 0 - 48)) → IsRead all rest value → IsRead all (take (length rest - 1) (drop 1 rest)) next
read-step all [] value next p d c so_far = absurd (omega arith)
read-step all (b ∷ rest) value next p d c so_far =
    let same : take (length (b ∷ rest) - 1) rest ≡ rest = take_all _ rest (omega arith) in
    let P : List ℕ → Type 0 = λ r. IsRead all r next in
    subst P (sym same) (read-more all rest b value next d c so_far)

pub buffer-unsigned_beyond : (digits : List ℕ) (n value : ℕ) → digits_value digits ≡ Some n → Counts value n → greatest < value → IsTokenNumber values.Beyond (option_map pos (digits_value digits))
buffer-unsigned_beyond digits n value e c above = (pos n, ap (option_map pos) e, c.1 above)

beyond_negative : (n : ℕ) → greatest < n → IsTokenNumber values.Beyond (negative n)
beyond_negative zero above = absurd (omega arith)
beyond_negative (suc k) above = (negsuc k, refl, above)

pub buffer-negative_beyond : (digits : List ℕ) (n value : ℕ) → digits_value digits ≡ Some n → Counts value n → greatest < value → IsTokenNumber values.Beyond (option_and_then negative (digits_value digits))
buffer-negative_beyond digits n value e c above =
    let P : Option ℤ → Type 0 = λ o. IsTokenNumber values.Beyond o in
    subst P (sym (ap (option_and_then negative) e)) (beyond_negative n (c.1 above))

within_negative : (n value : ℕ) → n ≡ value → 0 < value → value ≤ greatest → IsTokenNumber (values.Negative value) (negative n)
within_negative zero value e some le = absurd (omega arith)
within_negative (suc k) value e some le = (k, refl, sym e, le)

pub buffer-negative : (digits : List ℕ) (n value : ℕ) → digits_value digits ≡ Some n → Counts value n → 0 < value → value ≤ greatest → IsTokenNumber (values.Negative value) (option_and_then negative (digits_value digits))
buffer-negative digits n value e c some le =
    let P : Option ℤ → Type 0 = λ o. IsTokenNumber (values.Negative value) o in
    subst P (sym (ap (option_and_then negative) e)) (within_negative n value (c.0 le) some le)
