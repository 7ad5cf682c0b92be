-- The seats of a new book.
use Rattle.std.proofs.Common.{◌≡◌, ◌<◌, ◌≤◌, ◌+◌, ℕ, zero, suc, inl, inr, List, [], ◌∷◌, length, Some, refl, sym, ap, ◌∙◌, slice_get, slice_set, arith}
use Rattle.std.proofs.lemmas.Option.{slice_get_within}
use Rattle.lj_clause.specs.ClauseMap.{FormulaValue}
use Rattle.lj_book.specs.Views.{formula_holdings}
use Rattle.lj_book.specs.Named.{NamedState, named_opening}
use Rattle.lj_book.specs.NamedViews.{named_view}
use Rattle.lj_book.specs.NamedAlone.{NamedSeatsHoldTheFormula}
use Rattle.lj_share.specs.Entries.{calls_of}
use Rattle.lj_share.specs.Seats.{SeatValue, new_seat, seat_of_book}
use Rattle.lj_share.specs.inner.Seats.{AreShown}
use Rattle.lj_share.proofs.Opened.{after_set}

-- what a seat sees of a new book
pub opened_view : NamedSeatsHoldTheFormula → (f : FormulaValue) (n m k : ℕ) (s : NamedState) → s ≡ named_opening f n m → k < n → named_view s k ≡ Some (formula_holdings f)
opened_view holds f n m k s is within = ap (λ (u : NamedState). named_view u k) is ∙ holds f n m k within

pub opened_calls : (f : FormulaValue) (n m k : ℕ) (s : NamedState) → s ≡ named_opening f n m → calls_of k s.history ≡ []
opened_calls f n m k s is = ap (λ (u : NamedState). calls_of k u.history) is

pub opened_seat : NamedSeatsHoldTheFormula → (f : FormulaValue) (n m k : ℕ) (s : NamedState) → s ≡ named_opening f n m → k < n → seat_of_book s k ≡ new_seat f k
opened_seat holds f n m k s is within =
    let calls = opened_calls f n m k s is in
    let view = opened_view holds f n m k s is within in
    λ i. record { number = k; calls = calls i; view = view i }

pub set_as_long : {A : Type 0} (xs : List A) (i : ℕ) (x : A) → length (slice_set xs i x) ≡ length xs
set_as_long [] i x = refl
set_as_long (y ∷ xs) zero x = refl
set_as_long (y ∷ xs) (suc i) x = ap suc (set_as_long xs i x)

below_other : (n k : ℕ) → k < n + 1 → (n ≡ k → ⊥) → k < n
below_other zero zero below other = absurd (other refl)
below_other zero (suc k) below other = absurd (let no : ⊥ = omega (arith, below) in no)
below_other (suc n) zero below other = omega arith
below_other (suc n) (suc k) below other = let less : k < n = below_other n k (omega (arith, below)) (λ e. other (ap suc e)) in omega (arith, less)

-- one copy more shows its seat
pub more_shown : (s : NamedState) (shown after : List SeatValue) (n : ℕ) → after ≡ slice_set shown n (seat_of_book s n)
    → ((k : ℕ) (value : SeatValue) → k < n → slice_get shown k ≡ Some value → value ≡ seat_of_book s k)
    → (k : ℕ) (value : SeatValue) → k < n + 1 → slice_get after k ≡ Some value → value ≡ seat_of_book s k
more_shown s shown after n set before k value below at =
    elim (after_set shown n k (seat_of_book s n) value (ap (λ (vs : List SeatValue). slice_get vs k) (sym set) ∙ at)) [
      | inl p ↦ p.1 ∙ ap (seat_of_book s) p.0
      | inr p ↦ before k value (below_other n k below p.0) p.1
    ]

pub all_shown : (s : NamedState) (shown : List SeatValue) (n : ℕ) → length shown ≤ n → ((k : ℕ) (value : SeatValue) → k < n → slice_get shown k ≡ Some value → value ≡ seat_of_book s k) → AreShown s shown
all_shown s shown n long are k value at = let within = slice_get_within shown k value at in are k value (omega (arith, within, long)) at
