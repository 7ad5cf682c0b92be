-- No line feed up to a place.
use Rattle.std.proofs.Common.{◌≡◌, ℕ, ◌+◌, ◌-◌, ◌<◌, ◌≤◌, true, List, length, take, drop, get_or, sym, ap, ◌∙◌, inl, inr, arith, length-take}
use Rattle.std.proofs.lemmas.Bool.{cases_lt, false_from_ne_true}
use Rattle.std.proofs.lemmas.List.{get_or-take, get_or-drop, get_or_default}
use Rattle.lj_text.specs.Bytes.{is_line_end}
use Rattle.lj_text.specs.LinesRead.{HasNoLineEnd}

pub none_up_to : (bytes : List ℕ) (s i : ℕ) → s + i ≤ length bytes → HasNoLineEnd (take s bytes)
    → ((k : ℕ) → k < i → is_line_end (get_or (drop s bytes) k 0) ≡ true → ⊥) → HasNoLineEnd (take (s + i) bytes)
none_up_to bytes s i le before none k d lt =
    let below : k < s + i = omega (arith, length-take (s + i) bytes) in
    let here : get_or (take (s + i) bytes) k d ≡ get_or bytes k d = get_or-take (s + i) bytes k d below in
    elim (cases_lt k s) [
      | inl early ↦
          let inside : k < length (take s bytes) = omega (arith, length-take s bytes) in
          ap is_line_end (here ∙ sym (get_or-take s bytes k d early)) ∙ before k d inside
      | inr late ↦
          let split : s + (k - s) ≡ k = omega arith in
          let same : get_or bytes k d ≡ get_or (drop s bytes) (k - s) 0 =
          get_or_default bytes k d 0 (omega arith) ∙ ap (λ n. get_or bytes n 0) (sym split) ∙ sym (get_or-drop s bytes (k - s) 0) in
          ap is_line_end (here ∙ same) ∙ false_from_ne_true _ (none (k - s) (omega arith))
    ]
