-- The desk's copies of its seats.
use Rattle.std.proofs.Common.{◌≡◌, ℕ, zero, suc, drop, ◌<◌, ◌+◌, List, [], ◌∷◌, length, map, Some, slice_get, slice_set, refl, sym, ap, ◌∙◌, arith}
use Rattle.std.proofs.lemmas.List.{map-set, length-map, drop-drop}
use Rattle.std.proofs.lemmas.List.Elements.{All-cons}
use Rattle.std.proofs.lemmas.Option.{slice_get-map, slice_get_read, slice_get_within}
use Rattle.std.proofs.Math.Seq.{map-set_same}
use Rattle.std.specs.Prelude.{slice_index_or, option_map}
use Rattle.lj_book.specs.Named.{NamedState}
use Rattle.lj_share.specs.Seats.{AreSeatsIn, SeatValue, seat_of_book}
use Rattle.lj_share.specs.inner.Seats.{AreShown}
use Rattle.lj_share.specs.declared.copies.BookCopy.{BookCopy}
use Rattle.lj_share.proofs.Confirming.{some_same}

same_head : {A : Type 0} (x y : A) (xs ys : List A) → x ∷ xs ≡ y ∷ ys → x ≡ y
same_head x y xs ys is = cc

abbrev names_of : List BookCopy → List ℕ
names_of cs = map (λ (c : BookCopy). c.name) cs

abbrev pub seats_shown : List BookCopy → List SeatValue
seats_shown cs = map (λ (c : BookCopy). c.seat) cs

-- a place that has a name has a copy
pub place_within : (cs : List BookCopy) (names : List ℕ) (k n : ℕ) → names_of cs ≡ names → slice_get names k ≡ Some n → k < length cs
place_within cs names k n are at = let within = slice_get_within names k n at in let long = sym (ap length are) ∙ length-map cs (λ (c : BookCopy). c.name) in omega (arith, within, long)

-- the copy at a place has its name
pub name_at : (cs : List BookCopy) (names : List ℕ) (k n : ℕ) (c : BookCopy) → names_of cs ≡ names → slice_get names k ≡ Some n → c ≡ slice_index_or cs k c → n ≡ c.name
name_at cs names k n c are at here =
    let found = slice_get_read cs (length cs) k c refl (place_within cs names k n are at) here in
    some_same n c.name (sym at ∙ ap (λ (ns : List ℕ). slice_get ns k) (sym are) ∙ slice_get-map (λ (c : BookCopy). c.name) cs k ∙ ap (option_map (λ (c : BookCopy). c.name)) found)

-- the list at a place is that of its copy
pub list_at : (cs : List BookCopy) (names : List ℕ) (k n : ℕ) (c : BookCopy) → names_of cs ≡ names → slice_get names k ≡ Some n → c ≡ slice_index_or cs k c → slice_get (seats_shown cs) k ≡ Some c.seat
list_at cs names k n c are at here =
    slice_get-map (λ (c : BookCopy). c.seat) cs k ∙ ap (option_map (λ (c : BookCopy). c.seat)) (slice_get_read cs (length cs) k c refl (place_within cs names k n are at) here)

-- a copy under the same name in its place leaves all names
pub names_kept : (cs : List BookCopy) (names : List ℕ) (k : ℕ) (c d : BookCopy) → names_of cs ≡ names → c ≡ slice_index_or cs k c → d.name ≡ c.name → names_of (slice_set cs k d) ≡ names
names_kept cs names k c d are here same =
    map-set_same (λ (c : BookCopy). c.name) cs k d c (same ∙ ap (λ (c : BookCopy). c.name) here) ∙ are

-- the lists with another one in a copy's place
pub list_set : (cs : List BookCopy) (k : ℕ) (d : BookCopy) → seats_shown (slice_set cs k d) ≡ slice_set (seats_shown cs) k d.seat
list_set cs k d = map-set (λ (c : BookCopy). c.seat) cs k d

-- ---- where both copies agree

set_same : {A : Type 0} (xs : List A) (i : ℕ) (x : A) → slice_get xs i ≡ Some x → slice_set xs i x ≡ xs
set_same [] i x at = absurd cc
set_same (y ∷ xs) zero x at = ap (λ z. z ∷ xs) (sym (some_same y x at))
set_same (y ∷ xs) (suc i) x at = ap (λ ys. y ∷ ys) (set_same xs i x at)

-- the copies stay where one is set to what it shows
pub shown_again : (s : NamedState) (seat : ℕ) (value : SeatValue) (shown after : List SeatValue) → AreShown s shown → slice_get shown seat ≡ Some value → after ≡ slice_set shown seat (seat_of_book s seat) → after ≡ shown
shown_again s seat value shown after are at set = set ∙ ap (slice_set shown seat) (sym (are seat value at)) ∙ set_same shown seat value at

-- ---- at the opening and at the close

-- what stands in front of a rest stands at its place
pub front_at : {A : Type 0} (xs : List A) (k : ℕ) (x : A) (left : List A) → x ∷ left ≡ drop k xs → slice_get xs k ≡ Some x
front_at [] zero x left is = absurd cc
front_at [] (suc k) x left is = absurd cc
front_at (y ∷ xs) zero x left is = ap Some (same_head y x xs left (sym is))
front_at (y ∷ xs) (suc k) x left is = front_at xs k x left is

-- and behind it the rest goes on
pub front_passed : {A : Type 0} (xs : List A) (k : ℕ) (x : A) (left : List A) → x ∷ left ≡ drop k xs → left ≡ drop (k + 1) xs
front_passed xs k x left is = ap (drop 1) is ∙ drop-drop 1 k xs

-- the seats of a book, one after another
pub seats_on : (s : NamedState) (shown : List SeatValue) (v : SeatValue) (left : List SeatValue) → AreShown s shown → slice_get shown v.number ≡ Some v → AreSeatsIn s left → AreSeatsIn s (v ∷ left)
seats_on s shown v left are at rest = All-cons (λ (x : SeatValue). seat_of_book s x.number ≡ x) v left (sym (are v.number v at)) rest
