-- Bytes in two parts, of which the first ends a line where there is a second.
use Rattle.std.proofs.Common.{◌≡◌, ℕ, ◌-◌, ◌<◌, ◌≤◌, List, ◌++◌, length, take, get_or, sym, ap, ◌∙◌, subst, inl, inr, arith, length-append, length-take}
use Rattle.std.proofs.lemmas.Bool.{cases_lt, false≢true}
use Rattle.std.proofs.lemmas.List.{take-append-le, get_or-take, get_or_append_left, get_or_past}
use Rattle.lj_text.specs.Bytes.{is_line_end}
use Rattle.lj_text.specs.LinesRead.{HasNoLineEnd}
use Rattle.lj_text.specs.inner.LinesBuffered.{EndsLine}

-- no line feed stands where no line ends
pub no_feed : (bytes : List ℕ) (k : ℕ) → HasNoLineEnd bytes → k < length bytes → get_or bytes k 0 ≡ 10 → ⊥
no_feed bytes k none lt feed = false≢true (sym (none k 0 lt) ∙ ap is_line_end feed)

-- bytes that end a line are some
pub some_bytes : (bytes : List ℕ) → EndsLine bytes → 0 < length bytes
some_bytes bytes ends = elim (cases_lt 0 (length bytes)) [ inl some ↦ some | inr none ↦ absurd (omega (arith, ends, get_or_past bytes (length bytes - 1) 0 (omega arith))) ]

-- up to a place before which no line ends, all stands in the front
pub within-front : (front back : List ℕ) (s : ℕ) → (0 < length back → EndsLine front) → s ≤ length (front ++ back) → HasNoLineEnd (take s (front ++ back)) → s ≤ length front
within-front front back s parted within none =
    elim (cases_lt (length front) s) [
      | inl more ↦
          let ends : EndsLine front = parted (omega (arith, length-append front back)) in
          let some : 0 < length front = some_bytes front ends in
          let here : get_or (take s (front ++ back)) (length front - 1) 0 ≡ 10 =
          get_or-take s (front ++ back) (length front - 1) 0 (omega arith) ∙ get_or_append_left front back 0 (length front - 1) (omega arith) ∙ ends in
          absurd (no_feed (take s (front ++ back)) (length front - 1) none (omega (arith, length-take s (front ++ back))) here)
      | inr le ↦ le
    ]

pub none-front : (front back : List ℕ) (s : ℕ) → s ≤ length front → HasNoLineEnd (take s (front ++ back)) → HasNoLineEnd (take s front)
none-front front back s within none =
    let P : List ℕ → Type 0 = λ bytes. HasNoLineEnd bytes in
    subst P (take-append-le s front back within) none
