-- What is written as words is read again.
use Rattle.std.proofs.Common.{◌≡◌, ap, refl, sym, ◌∙◌, ◌+◌, ◌*◌, ◌%◌, ◌/◌, ◌<◌, arith, append_assoc}
use Rattle.std.specs.Prelude.{ℕ, zero, suc, true, false, List, [], ◌∷◌, ◌++◌, length, flat_map, nat_lt, get_or, ◌==◌, if◌then◌else◌}
use Rattle.std.specs.List.{list_any}
use Rattle.std.proofs.lemmas.Bool.{or_parts}
use Rattle.std.proofs.lemmas.Bool.Decides.{nat_tests}
use Rattle.lj_clause.specs.Rat.{HintGroup}
use Rattle.lj_book.specs.inner.Encoding.{long_mark, number_encoding, number_in, list_encoding, list_in, many_in, hint_group_encoding, grouped, hint_group_in, hint_groups_encoding, hint_groups_in, with_first, read_behind, long_in, Matches}

whole_of_halves : (n : ℕ) → n % 4294967296 + 4294967296 * (n / 4294967296) ≡ n
whole_of_halves n = omega arith

pub number_back : (n : ℕ) (ws : List ℕ) → number_in (number_encoding n ++ ws) ≡ (n, ws)
number_back n ws =
    elim (nat_lt n long_mark) as (λ b. nat_lt n long_mark ≡ b → number_in ((if b then n ∷ [] else long_mark ∷ n % 4294967296 ∷ n / 4294967296 ∷ []) ++ ws) ≡ (n, ws)) [
      | true ↦ λ e. ap (λ b. if b then (n, ws) else long_in ws) e
      | false ↦ λ e. ap (λ m. (m, ws)) (whole_of_halves n)
    ] refl

many_back : {A : Type 0} (one : List ℕ → A × List ℕ) (encoding : A → List ℕ) → ((a : A) (ws : List ℕ) → one (encoding a ++ ws) ≡ (a, ws)) → (xs : List A) (ws : List ℕ) → many_in one (length xs) (flat_map encoding xs ++ ws) ≡ (xs, ws)
many_back one encoding back [] ws = refl
many_back one encoding back (a ∷ xs) ws =
    ap (λ us. with_first (one us).0 (many_in one (length xs) (one us).1)) (append_assoc (encoding a) (flat_map encoding xs) ws)
    ∙ ap (λ p. with_first p.0 (many_in one (length xs) p.1)) (back a (flat_map encoding xs ++ ws))
    ∙ ap (with_first a) (many_back one encoding back xs ws)

counted_back : {A : Type 0} (one : List ℕ → A × List ℕ) (encoding : A → List ℕ) → ((a : A) (ws : List ℕ) → one (encoding a ++ ws) ≡ (a, ws)) → (xs : List A) (ws : List ℕ) → many_in one (number_in ((number_encoding (length xs) ++ flat_map encoding xs) ++ ws)).0 (number_in ((number_encoding (length xs) ++ flat_map encoding xs) ++ ws)).1 ≡ (xs, ws)
counted_back one encoding back xs ws =
    ap (λ us. many_in one (number_in us).0 (number_in us).1) (append_assoc (number_encoding (length xs)) (flat_map encoding xs) ws)
    ∙ ap (λ p. many_in one p.0 p.1) (number_back (length xs) (flat_map encoding xs ++ ws))
    ∙ many_back one encoding back xs ws

pub list_back : (ns : List ℕ) (ws : List ℕ) → list_in (list_encoding ns ++ ws) ≡ (ns, ws)
list_back = counted_back number_in number_encoding number_back

pub group_back : (g : HintGroup) (ws : List ℕ) → hint_group_in (hint_group_encoding g ++ ws) ≡ (g, ws)
group_back g ws =
    ap hint_group_in (append_assoc (number_encoding g.candidate) (list_encoding g.hints) ws)
    ∙ ap (λ (p : ℕ × List ℕ). grouped p.0 (list_in p.1)) (number_back g.candidate (list_encoding g.hints ++ ws))
    ∙ ap (grouped g.candidate) (list_back g.hints ws)

pub groups_back : (gs : List HintGroup) (ws : List ℕ) → hint_groups_in (hint_groups_encoding gs ++ ws) ≡ (gs, ws)
groups_back = counted_back hint_group_in hint_group_encoding group_back

-- ---- how long what was read is

pub length-many : {A : Type 0} (one : List ℕ → A × List ℕ) (n : ℕ) (ws : List ℕ) → length (many_in one n ws).0 ≡ n
length-many one zero ws = refl
length-many one (suc n) ws = ap suc (length-many one n (one ws).1)

-- ---- what is compared

pub other_length : {A : Type 0} (one : List ℕ → A × List ℕ) (n : ℕ) (ws : List ℕ) (wanted : List A) → (n ≡ length wanted → ⊥) → (many_in one n ws).0 ≡ wanted → ⊥
other_length one n ws wanted differ e = differ (sym (length-many one n ws) ∙ ap length e)

pub same_length : {A : Type 0} (one : List ℕ → A × List ℕ) (n : ℕ) (ws : List ℕ) (wanted : List A) → n ≡ length wanted → Matches one (many_in one n ws) wanted ws wanted
same_length one n ws wanted e = record {
  same = λ is. ap (λ k. many_in one k ws) e ∙ ap (λ xs. (xs, (many_in one (length wanted) ws).1)) is;
  other = λ is. ap (λ k. (many_in one k ws).0) (sym e) ∙ is;
}

-- ---- what is read as far as a loop has come

pub one_more_read : {A : Type 0} (one : List ℕ → A × List ℕ) (front : List A) (n : ℕ) (rest : List ℕ) → read_behind (front ++ (one rest).0 ∷ []) (many_in one n (one rest).1) ≡ read_behind front (many_in one (suc n) rest)
one_more_read one front n rest = ap (λ xs. (xs, (many_in one n (one rest).1).1)) (append_assoc front ((one rest).0 ∷ []) (many_in one n (one rest).1).0)

-- ---- what is read where more stands behind

pub number_then : (n : ℕ) (ws more : List ℕ) → number_in ((number_encoding n ++ ws) ++ more) ≡ (n, ws ++ more)
number_then n ws more = ap number_in (append_assoc (number_encoding n) ws more) ∙ number_back n (ws ++ more)

pub list_then : (ns ws more : List ℕ) → list_in ((list_encoding ns ++ ws) ++ more) ≡ (ns, ws ++ more)
list_then ns ws more = ap list_in (append_assoc (list_encoding ns) ws more) ∙ list_back ns (ws ++ more)

-- ---- numbers of one word each

one_word : (n : ℕ) → n < 4294967296 → (n == long_mark) ≡ false → number_encoding n ≡ n ∷ []
one_word n lt e = ap (λ b. if b then n ∷ [] else long_mark ∷ n % 4294967296 ∷ n / 4294967296 ∷ []) below
  where
    below : nat_lt n long_mark ≡ true
    below = grind (arith, nat_tests)

-- numbers of four bytes without the mark are their own words
pub short_words : (ns : List ℕ) → ((i : ℕ) → get_or ns i 0 < 4294967296) → list_any (λ y. y == long_mark) ns ≡ false → flat_map number_encoding ns ≡ ns
short_words [] small e = refl
short_words (n ∷ ns) small e =
    let none = or_parts (n == long_mark) (list_any (λ y. y == long_mark) ns) e in
    (λ i. one_word n (small 0) none.0 i ++ short_words ns (λ j. small (suc j)) none.1 i)
