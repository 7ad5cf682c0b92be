-- Which tokens the entries of a seat have to be.
use Rattle.std.proofs.Common.{◌≡◌, ap, refl, sym, ◌∙◌, ℕ, suc, ◌+◌, ◌<◌, Bool, cond, true, false, arith}
use Rattle.std.specs.Prelude.{List, [], ◌∷◌, ◌↔◌, ◌==◌, drop, length, Option, Some, None, slice_get, option_map}
use Rattle.std.specs.Option.{MatchOption}
use Rattle.std.proofs.Math.Seq.{drop-cons}
use Rattle.std.proofs.lemmas.Option.{slice_get_within, get_or_from_slice_get, slice_get-get_or}
use Rattle.std.proofs.lemmas.Bool.{eqb-true, eq-eqb}
use Rattle.lj_book.specs.declared.entry.Entry.{Entry}
use Rattle.lj_share.specs.Entries.{entries_of}

pub is_other : (a b : ℕ) → (a ≡ b → ⊥) → (a == b) ≡ false
is_other a b h = go (a == b) refl
  where
    go : (x : Bool) → (a == b) ≡ x → x ≡ false
    go true e = absurd (h (eqb-true a b e))
    go false e = refl

-- the entry at a place stands before those behind it
at_place : (es : List Entry) (account : ℕ) (e : Entry) → slice_get es account ≡ Some e → drop account es ≡ e ∷ drop (account + 1) es
at_place es account e is =
    let next : suc account ≡ account + 1 = omega arith in
    drop-cons es account e (slice_get_within es account e is)
    ∙ ap (λ x. x ∷ drop (suc account) es) (get_or_from_slice_get es account e e is)
    ∙ ap (λ n. e ∷ drop n es) next

-- it is the first of the seat's where it is the seat's
front_of : (es : List Entry) (seat account : ℕ) (e : Entry) (b : Bool) → slice_get es account ≡ Some e → (e.seat == seat) ≡ b → entries_of seat (drop account es) ≡ cond b (e ∷ entries_of seat (drop (account + 1) es)) (entries_of seat (drop (account + 1) es))
front_of es seat account e b is at =
    ap (entries_of seat) (at_place es account e is)
    ∙ ap (λ x. cond x (e ∷ entries_of seat (drop (account + 1) es)) (entries_of seat (drop (account + 1) es))) at

-- an entry of another seat is passed by
pub passed_by : {A : Type 0} (es : List Entry) (seat account : ℕ) (e : Entry) (rest left : List Entry) → A ↔ (entries_of seat (drop account es) ≡ rest) → slice_get es account ≡ Some e → (e.seat ≡ seat → ⊥) → left ≡ rest → A ↔ (entries_of seat (drop (account + 1) es) ≡ left)
passed_by es seat account e rest left so_far is other left_is =
    let front = front_of es seat account e false is (is_other e.seat seat other) in
    (λ a. sym front ∙ so_far.0 a ∙ sym left_is, λ h. so_far.1 (front ∙ h ∙ left_is))

-- an entry of the seat is the next token's
pub matched : {A : Type 0} (es : List Entry) (seat account : ℕ) (e f : Entry) (rest others left : List Entry) → A ↔ (entries_of seat (drop account es) ≡ rest) → slice_get es account ≡ Some e → e.seat ≡ seat → e ≡ f → rest ≡ f ∷ others → left ≡ others → A ↔ (entries_of seat (drop (account + 1) es) ≡ left)
matched es seat account e f rest others left so_far is same equal rest_is left_is =
    let front = front_of es seat account e true is (eq-eqb e.seat seat same) in
    let behind : List Entry = entries_of seat (drop (account + 1) es) in
    (λ a. ap (drop 1) (sym front ∙ so_far.0 a ∙ rest_is) ∙ sym left_is, λ h. so_far.1 (front ∙ ap (λ x. x ∷ behind) equal ∙ ap (λ xs. f ∷ xs) (h ∙ left_is) ∙ sym rest_is))

-- where the seat's entries are all tokens, an entry of the seat is the first of those that are left
pub is_first : {A : Type 0} (es : List Entry) (seat account : ℕ) (e : Entry) (rest : List Entry) → A ↔ (entries_of seat (drop account es) ≡ rest) → slice_get es account ≡ Some e → e.seat ≡ seat → A → rest ≡ e ∷ entries_of seat (drop (account + 1) es)
is_first es seat account e rest so_far is same a = sym (so_far.0 a) ∙ front_of es seat account e true is (eq-eqb e.seat seat same)

pub same_first : (e f : Entry) (xs ys : List Entry) → e ∷ xs ≡ f ∷ ys → e ≡ f
same_first e f xs ys is = cc

pub not_empty : (e : Entry) (xs ys : List Entry) → ys ≡ e ∷ xs → length ys ≡ 0 → ⊥
not_empty e xs ys is none = let long = ap length is in absurd (omega arith)

is_none : {X : Type 0} (x : X) → Some x ≡ None → ⊥
is_none x h = cc

pub some_same : {X : Type 0} (x y : X) → Some x ≡ Some y → x ≡ y
some_same x y h = cc

-- the fact of an option that is none
pub where_none : {X : Type 0} {N : Type 0} (S : X → Type 0) (o : Option X) → MatchOption o N S → o ≡ None → N
where_none S None fact is = fact
where_none S (Some x) fact is = absurd (is_none x is)

-- where a seat is told at a place, there is an entry of it
pub entry_there : (es : List Entry) (account by : ℕ) → option_map (λ (e : Entry). e.seat) (slice_get es account) ≡ Some by → (e : Entry) × ((slice_get es account ≡ Some e) × (e.seat ≡ by))
entry_there es account by h = go (slice_get es account) refl h
  where
    go : (o : Option Entry) → slice_get es account ≡ o → option_map (λ (e : Entry). e.seat) o ≡ Some by → (e : Entry) × ((slice_get es account ≡ Some e) × (e.seat ≡ by))
    go None is h = absurd (is_none by (sym h))
    go (Some e) is h = (e, (is, some_same e.seat by h))

-- no place of a list is without a seat
pub some_entry : (es : List Entry) (account : ℕ) → account < length es → option_map (λ (e : Entry). e.seat) (slice_get es account) ≡ None → ⊥
some_entry [] account within is = absurd (omega arith)
some_entry (e ∷ es) account within is = is_none _ (sym (ap (option_map (λ (f : Entry). f.seat)) (slice_get-get_or (e ∷ es) account e within)) ∙ is)
