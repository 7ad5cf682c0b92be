-- Tokens, from the front of a line.
use Rattle.std.proofs.Common.{◌≡◌, ℕ, zero, suc, ◌<◌, ◌≤◌, true, false, cond, List, [], ◌∷◌, ◌++◌, length, take, drop, get_or, refl, sym, ap, ◌∙◌, inl, inr, arith}
use Rattle.std.proofs.Math.Nat.{eq-or-lt_of_le}
use Rattle.std.specs.List.{All, filter}
use Rattle.std.proofs.Math.Seq.{drop-cons}
use Rattle.std.proofs.lemmas.List.{take-append-drop, take_all, drop_all}
use Rattle.std.proofs.lemmas.List.Splits.{slice_split-cons_yes, slice_split_none, slice_split_at}
use Rattle.lj_text.specs.Bytes.{is_blank, is_filled, tokens_of}
use Rattle.lj_text.specs.inner.Bytes.{begins_blank}

pub tokens-blank : (b : ℕ) (bs : List ℕ) → is_blank b ≡ true → tokens_of (b ∷ bs) ≡ tokens_of bs
tokens-blank b bs h = ap (filter is_filled) (slice_split-cons_yes is_blank b bs h)

pub tokens-last : (t : List ℕ) → is_filled t ≡ true → All (λ b. is_blank b ≡ false) t → tokens_of t ≡ t ∷ []
tokens-last t f h = ap (filter is_filled) (slice_split_none is_blank t h) ∙ ap (λ b. cond b (t ∷ []) []) f

pub tokens-first : (t : List ℕ) (y : ℕ) (ys : List ℕ) → is_filled t ≡ true → All (λ b. is_blank b ≡ false) t → is_blank y ≡ true → tokens_of (t ++ y ∷ ys) ≡ t ∷ tokens_of (y ∷ ys)
tokens-first t y ys f h e =
    ap (filter is_filled) (slice_split_at is_blank t y ys h e)
    ∙ ap (λ b. cond b (t ∷ tokens_of ys) (tokens_of ys)) f
    ∙ ap (λ ts. t ∷ ts) (sym (tokens-blank y ys e))

filled-take : (bytes : List ℕ) (n : ℕ) → 0 < length bytes → 0 < n → is_filled (take n bytes) ≡ true
filled-take [] n p q = absurd (omega arith)
filled-take (b ∷ bs) zero p q = absurd (omega arith)
filled-take (b ∷ bs) (suc n) p q = refl

not_at_front : (bytes : List ℕ) (n : ℕ) → begins_blank bytes ≡ false → 0 < length bytes → (n < length bytes → is_blank (get_or bytes n 0) ≡ true) → 0 < n
not_at_front [] n f p e = absurd (omega arith)
not_at_front (b ∷ bs) zero f p e = let h : is_blank b ≡ true = e (omega arith) in let g : true ≡ false = sym h ∙ f in cc
not_at_front (b ∷ bs) (suc n) f p e = omega arith

-- the first token is what stands before the first blank
pub token-found : (bytes : List ℕ) (n : ℕ) → begins_blank bytes ≡ false → 0 < length bytes → n ≤ length bytes → All (λ b. is_blank b ≡ false) (take n bytes)
    → (n < length bytes → is_blank (get_or bytes n 0) ≡ true) → tokens_of bytes ≡ take n bytes ∷ tokens_of (drop n bytes)
token-found bytes n f p le all e =
    let some : 0 < n = not_at_front bytes n f p e in
    let filled : is_filled (take n bytes) ≡ true = filled-take bytes n p some in
    elim (eq-or-lt_of_le le) [
      | inl same ↦
          let whole : take n bytes ≡ bytes = take_all n bytes (omega arith) in
          let none : drop n bytes ≡ [] = drop_all n bytes (omega arith) in
          ap tokens_of (sym whole) ∙ tokens-last (take n bytes) filled all ∙ ap (λ r. take n bytes ∷ tokens_of r) (sym none)
      | inr lt ↦
          let cut : drop n bytes ≡ get_or bytes n 0 ∷ drop (suc n) bytes = drop-cons bytes n 0 lt in
          ap tokens_of (sym (take-append-drop n bytes) ∙ ap (λ r. take n bytes ++ r) cut)
          ∙ tokens-first (take n bytes) (get_or bytes n 0) (drop (suc n) bytes) filled all (e lt)
          ∙ ap (λ r. take n bytes ∷ tokens_of r) (sym cut)
    ]
