-- What an entry leaves of an opening.
use Rattle.std.proofs.Common.{◌≡◌, ℕ, zero, suc, Bool, true, false, cond, List, [], ◌∷◌, ◌++◌, length, Option, None, Some, refl, sym, ap, ◌∙◌, subst, inl, inr, map, slice_get, slice_set, arith}
use Rattle.std.specs.Prelude.{◌==◌, ◌⊎◌, if◌then◌else◌, option_and_then, option_map, Result, Ok, Err, is_ok}
use Rattle.std.proofs.lemmas.Bool.{eq-eqb, false≢true}
use Rattle.std.proofs.lemmas.List.{append-nil, map-append}
use Rattle.std.proofs.lemmas.List.Elements.{filter-append}
use Rattle.lj_clause.specs.LiteralSet.{LiteralSet}
use Rattle.lj_clause.specs.Lemma.{LemmaValue}
use Rattle.lj_clause.specs.ClauseMap.{FormulaValue, IsFormula}
use Rattle.lj_clause.specs.Renaming.{image, inverse}
use Rattle.lj_hint.specs.Receipt.{ReceiptValue}
use Rattle.lj_book.specs.declared.refusal.Refusal.{Refusal}
use Rattle.lj_book.specs.declared.refusal.Refusal.TheVariants.{NoVariableLeft}
use Rattle.lj_book.specs.declared.entry.Added.{Added}
use Rattle.lj_book.specs.Calls.{commit_told, if_free}
use Rattle.lj_book.specs.declared.entry.Call.{Call}
use Rattle.lj_book.specs.declared.entry.Call.TheVariants as calls
use Rattle.lj_book.specs.declared.entry.Entry.{Entry}
use Rattle.lj_book.specs.Imports.{import_number}
use Rattle.lj_book.specs.State.{State, live, next}
use Rattle.lj_book.specs.History.{tables_after, with_found}
use Rattle.lj_book.specs.Solo.{View, with_clause, without_holdings}
use Rattle.lj_book.specs.Views.{with_found_holding}
use Rattle.lj_book.specs.Tables.{Table, Tables, with_table, without_seat}
use Rattle.lj_book.specs.Named.{NamedState, IsNamedReached, after_named, beneath, entry_beneath, has_variables_for, names_of}
use Rattle.lj_book.specs.NamedViews.{named_view}
use Rattle.lj_book.specs.NamedReplies.{named_commit, named_commit_refusal}
use Rattle.lj_book.specs.NamedAlone.{NamedViewsFollowEntries, named_after_call}
use Rattle.lj_share.specs.Entries.{entries_of, calls_of}
use Rattle.lj_share.specs.Seats.{IsMaking, IsOpenedAs, IsViewAfter, SeatValue, seat_of_book, with_bound}
use Rattle.lj_share.specs.inner.Seats.{AreShown, IsLockedBook, IsSeatOf}
use Rattle.lj_share.proofs.Confirming.{is_other, some_same}

length-with_table : (change : Table → Table) (ts : Tables) (seat : ℕ) → length (with_table change ts seat) ≡ length ts
length-with_table change [] seat = refl
length-with_table change (t ∷ ts) zero = refl
length-with_table change (t ∷ ts) (suc seat) = ap suc (length-with_table change ts seat)

length-without_seat : (ts : Tables) (seat : ℕ) → length (without_seat ts seat) ≡ length ts
length-without_seat [] seat = refl
length-without_seat (t ∷ ts) zero = refl
length-without_seat (t ∷ ts) (suc seat) = ap suc (length-without_seat ts seat)

length-with_found : (ts : Tables) (seat own : ℕ) (joint : Option ℕ) → length (with_found ts seat own joint) ≡ length ts
length-with_found ts seat own None = refl
length-with_found ts seat own (Some joint) = length-with_table _ ts seat

-- a call leaves as many seats
pub seats_kept : (s : State) (seat : ℕ) (call : Call) → length (tables_after s seat call) ≡ length s.tables
seats_kept s seat (calls.Add own lemma) = length-with_table _ s.tables seat
seats_kept s seat (calls.Drop numbers) = length-with_table _ s.tables seat
seats_kept s seat (calls.Adopt own joint) = length-with_table _ s.tables seat
seats_kept s seat (calls.Import own clause) = length-with_found s.tables seat own (import_number s clause)
seats_kept s seat calls.Leave = length-without_seat s.tables seat

-- the book stays that of its opening
pub opened_on : (f : FormulaValue) (seats max : ℕ) (s t : NamedState) (e : Entry) → t ≡ after_named s e → IsOpenedAs f seats max s → IsOpenedAs f seats max t
opened_on f seats max s t e is opened =
    let kept : IsOpenedAs f seats max (after_named s e) = record { formula_is = opened.formula_is; seats_are = seats_kept (beneath s) e.seat (entry_beneath s e).call ∙ opened.seats_are; limit_is = opened.limit_is } in
    subst (λ u. IsOpenedAs f seats max u) (sym is) kept

-- what the book has of a seat is that seat in its state
pub seat_of_state : (f : FormulaValue) (seats max : ℕ) (s : NamedState) (v : SeatValue) (n : ℕ) → IsOpenedAs f seats max s → IsNamedReached s → v ≡ seat_of_book s n → IsSeatOf f seats max v
seat_of_state f seats max s v n opened reached is = record {
  state = s;
  opened = opened;
  legal = reached;
  seat_is = ap (λ (w : SeatValue). seat_of_book s w.number) is ∙ sym is;
  holds_there = tt;
}

-- ---- lists of calls

-- the calls of the seat whose entry is put behind the others
calls-more : (es : List Entry) (e : Entry) → calls_of e.seat (es ++ e ∷ []) ≡ calls_of e.seat es ++ e.call ∷ []
calls-more es e =
    ap (map (λ (x : Entry). x.call)) (filter-append (λ (x : Entry). x.seat == e.seat) es (e ∷ []))
    ∙ map-append (λ (x : Entry). x.call) (entries_of e.seat es) (entries_of e.seat (e ∷ []))
    ∙ ap (λ (b : Bool). calls_of e.seat es ++ map (λ (x : Entry). x.call) (cond b (e ∷ []) [])) (eq-eqb e.seat e.seat refl)

-- those of another seat
calls-same : (es : List Entry) (e : Entry) (seat : ℕ) → (e.seat ≡ seat → ⊥) → calls_of seat (es ++ e ∷ []) ≡ calls_of seat es
calls-same es e seat other =
    ap (map (λ (x : Entry). x.call)) (filter-append (λ (x : Entry). x.seat == seat) es (e ∷ []))
    ∙ map-append (λ (x : Entry). x.call) (entries_of seat es) (entries_of seat (e ∷ []))
    ∙ ap (λ (b : Bool). calls_of seat es ++ map (λ (x : Entry). x.call) (cond b (e ∷ []) [])) (is_other e.seat seat other)
    ∙ append-nil (calls_of seat es)

-- what stands in a list in which one place was set
pub after_set : {A : Type 0} (xs : List A) (i k : ℕ) (y x : A) → slice_get (slice_set xs i y) k ≡ Some x → ((i ≡ k) × (x ≡ y)) ⊎ ((i ≡ k → ⊥) × (slice_get xs k ≡ Some x))
after_set [] i k y x h = absurd cc
after_set (z ∷ xs) zero zero y x h = inl (refl, sym (some_same y x h))
after_set (z ∷ xs) zero (suc k) y x h = inr ((λ e. let no : ⊥ = omega (arith, e) in no), h)
after_set (z ∷ xs) (suc i) zero y x h = inr ((λ e. let no : ⊥ = omega (arith, e) in no), h)
after_set (z ∷ xs) (suc i) (suc k) y x h =
    elim (after_set xs i k y x h) [
      | inl p ↦ inl (ap suc p.0, p.1)
      | inr p ↦ inr ((λ e. p.0 (let less : i ≡ k = omega (arith, e) in less)), p.1)
    ]

-- ---- what the copies show

-- what a seat is stays with an entry of another one
seat_same : NamedViewsFollowEntries → (s : NamedState) (e : Entry) (seat : ℕ) → IsFormula s.formula → IsNamedReached s → IsNamedReached (after_named s e) → (e.seat ≡ seat → ⊥) → seat_of_book (after_named s e) seat ≡ seat_of_book s seat
seat_same views s e seat formula before after other =
    let calls = calls-same s.history e seat other in
    let view : named_view (after_named s e) seat ≡ named_view s seat =
    views s e seat formula before after ∙ ap (λ (b : Bool). if b then option_and_then (named_after_call s seat e.call) (named_view s seat) else named_view s seat) (is_other e.seat seat other) in
    λ i. record { number = seat; calls = calls i; view = view i }

-- what the copies show after the entry
shown_on : NamedViewsFollowEntries → (s t : NamedState) (e : Entry) (shown after : List SeatValue) → IsFormula s.formula → IsNamedReached s → IsNamedReached t → t ≡ after_named s e → after ≡ slice_set shown e.seat (seat_of_book t e.seat) → AreShown s shown → AreShown t after
shown_on views s t e shown after formula before reached is set are seat value at =
    elim (after_set shown e.seat seat (seat_of_book t e.seat) value (ap (λ (vs : List SeatValue). slice_get vs seat) (sym set) ∙ at)) [
      | inl p ↦ p.1 ∙ ap (seat_of_book t) p.0
      | inr p ↦ are seat value p.1 ∙ sym (ap (λ (u : NamedState). seat_of_book u seat) is ∙ seat_same views s e seat formula before (subst IsNamedReached is reached) p.0)
    ]

-- what lies under the lock after an entry that its ledger and its copies count
pub locked_book_on : NamedViewsFollowEntries → (f : FormulaValue) (seats max : ℕ) (s t : NamedState) (e : Entry) (seat : ℕ) (shown after : List SeatValue) (before total parts amount : ℕ) → IsFormula s.formula → IsNamedReached s → IsNamedReached t → e.seat ≡ seat → t ≡ after_named s e → total ≡ length t.history → after ≡ slice_set shown seat (seat_of_book t seat)
    → IsLockedBook f seats max s shown before parts amount → IsLockedBook f seats max t after total parts amount
locked_book_on views f seats max s t e seat shown after before total parts amount formula reached next same is counted set d = record {
  opened = opened_on f seats max s t e is d.opened;
  counted = sym counted;
  no_part = d.no_part;
  no_amount = d.no_amount;
  are_shown = shown_on views s t e shown after formula reached next is (set ∙ ap (λ (n : ℕ). slice_set shown n (seat_of_book t n)) (sym same)) d.are_shown;
}

-- what lies under the lock where the book and the copies stayed
pub locked_book_agreed : (f : FormulaValue) (seats max : ℕ) (s t : NamedState) (shown after : List SeatValue) (total parts amount : ℕ) → t ≡ s → after ≡ shown → IsLockedBook f seats max s shown total parts amount → IsLockedBook f seats max t after total parts amount
locked_book_agreed f seats max s t shown after total parts amount is same d =
    subst (λ vs. IsLockedBook f seats max t vs total parts amount) (sym same) (subst (λ b. IsLockedBook f seats max b shown total parts amount) (sym is) d)

-- ---- what a seat is after its own entry

-- an import found a clause
abbrev pub HasFound : NamedState → ℕ → Call → Type 0
HasFound s seat (calls.Add own lemma) = Unit {0}
HasFound s seat (calls.Drop numbers) = Unit {0}
HasFound s seat (calls.Adopt own joint) = Unit {0}
HasFound s seat (calls.Import own clause) = (joint : ℕ) × (import_number (beneath s) (image (names_of s seat) clause) ≡ Some joint)
HasFound s seat calls.Leave = Unit {0}

-- the clause of an adoption, in the seat's variables
abbrev own_clause : NamedState → ℕ → ℕ → LiteralSet
own_clause s seat joint = image (inverse (names_of s seat)) (with_clause (live (beneath s)) joint).clause

view_made : (s : NamedState) (seat : ℕ) (call : Call) (view : View) → HasFound s seat call → IsViewAfter call view (option_and_then (named_after_call s seat call) view)
view_made s seat (calls.Add own lemma) None found = (next (beneath s), refl)
view_made s seat (calls.Add own lemma) (Some h) found = (next (beneath s), refl)
view_made s seat (calls.Drop numbers) None found = refl
view_made s seat (calls.Drop numbers) (Some h) found = refl
view_made s seat (calls.Adopt own joint) None found = (own_clause s seat joint, refl)
view_made s seat (calls.Adopt own joint) (Some h) found = (own_clause s seat joint, refl)
view_made s seat (calls.Import own clause) None found = (found.0, refl)
view_made s seat (calls.Import own clause) (Some h) found = (found.0, ap (λ (o : Option ℕ). Some (with_found_holding h own o clause)) found.1)
view_made s seat calls.Leave None found = refl
view_made s seat calls.Leave (Some h) found = refl

pub making_of : NamedViewsFollowEntries → (s t : NamedState) (e : Entry) (v w : SeatValue) → IsFormula s.formula → IsNamedReached s → IsNamedReached t → e.seat ≡ v.number → t ≡ after_named s e → seat_of_book s v.number ≡ v → w ≡ seat_of_book t v.number → HasFound s e.seat e.call → IsMaking e.call v w
making_of views s t e v w formula reached next same is before after found =
    let there : w ≡ seat_of_book (after_named s e) e.seat = after ∙ ap (seat_of_book t) (sym same) ∙ ap (λ (u : NamedState). seat_of_book u e.seat) is in
    let here : seat_of_book s e.seat ≡ v = ap (seat_of_book s) same ∙ before in
    let view = views s e e.seat formula reached (subst IsNamedReached is next) ∙ ap (λ (b : Bool). if b then option_and_then (named_after_call s e.seat e.call) (named_view s e.seat) else named_view s e.seat) (eq-eqb e.seat e.seat refl) in
    record {
      number_is = ap (λ (x : SeatValue). x.number) after;
      calls_are = ap (λ (x : SeatValue). x.calls) there ∙ calls-more s.history e ∙ ap (λ (x : SeatValue). x.calls ++ e.call ∷ []) here;
      view_is = subst (λ (u : View × View). IsViewAfter e.call u.0 u.1) (λ i. (ap (λ (x : SeatValue). x.view) here i, sym (ap (λ (x : SeatValue). x.view) there ∙ view) i)) (view_made s e.seat e.call (named_view s e.seat) found);
    }

-- ---- the same, where the copies agreed before

pub made_in : NamedViewsFollowEntries → (s t : NamedState) (e : Entry) (v u w : SeatValue) → IsFormula s.formula → IsNamedReached s → IsNamedReached t → e.seat ≡ u.number → t ≡ after_named s e → seat_of_book s v.number ≡ v → u ≡ v → w ≡ seat_of_book t u.number → HasFound s e.seat e.call → IsMaking e.call v w
made_in views s t e v u w formula reached next same is before kept after found =
    making_of views s t e v w formula reached next (same ∙ ap (λ (x : SeatValue). x.number) kept) is before (after ∙ ap (λ (x : SeatValue). seat_of_book t x.number) kept) found

pub locked_book_in : NamedViewsFollowEntries → (f : FormulaValue) (seats max : ℕ) (s t : NamedState) (e : Entry) (seat : ℕ) (shown again after : List SeatValue) (before total parts amount : ℕ) → IsFormula s.formula → IsNamedReached s → IsNamedReached t → e.seat ≡ seat → t ≡ after_named s e → total ≡ length t.history → again ≡ shown → after ≡ slice_set again seat (seat_of_book t seat)
    → IsLockedBook f seats max s shown before parts amount → IsLockedBook f seats max t after total parts amount
locked_book_in views f seats max s t e seat shown again after before total parts amount formula reached next same is counted kept set d =
    locked_book_on views f seats max s t e seat shown after before total parts amount formula reached next same is counted (set ∙ ap (λ (vs : List SeatValue). slice_set vs seat (seat_of_book t seat)) kept) d

-- ---- what the seat sees then

view_in : NamedViewsFollowEntries → (s t : NamedState) (e : Entry) (call : Call) (v u w : SeatValue) → IsFormula s.formula → IsNamedReached s → IsNamedReached t → e.seat ≡ u.number → t ≡ after_named s e → seat_of_book s v.number ≡ v → u ≡ v → w ≡ seat_of_book t u.number → e.call ≡ call → w.view ≡ option_and_then (named_after_call s e.seat call) v.view
view_in views s t e call v u w formula reached next same is before kept after named =
    let mine : e.seat ≡ v.number = same ∙ ap (λ (x : SeatValue). x.number) kept in
    let there : w ≡ seat_of_book (after_named s e) e.seat = after ∙ ap (seat_of_book t) (sym same) ∙ ap (λ (x : NamedState). seat_of_book x e.seat) is in
    let here : seat_of_book s e.seat ≡ v = ap (seat_of_book s) mine ∙ before in
    ap (λ (x : SeatValue). x.view) there
    ∙ views s e e.seat formula reached (subst IsNamedReached is next)
    ∙ ap (λ (b : Bool). if b then option_and_then (named_after_call s e.seat e.call) (named_view s e.seat) else named_view s e.seat) (eq-eqb e.seat e.seat refl)
    ∙ ap (λ (x : Call). option_and_then (named_after_call s e.seat x) (named_view s e.seat)) named
    ∙ ap (λ (x : SeatValue). option_and_then (named_after_call s e.seat call) x.view) here

-- behind an addition, under the next joint number
pub added_in : NamedViewsFollowEntries → (s t : NamedState) (e : Entry) (own : ℕ) (lemma : LemmaValue) (joint : ℕ) (v u w : SeatValue) → IsFormula s.formula → IsNamedReached s → IsNamedReached t → e.seat ≡ u.number → t ≡ after_named s e → seat_of_book s v.number ≡ v → u ≡ v → w ≡ seat_of_book t u.number → e.call ≡ calls.Add own lemma → joint ≡ next (beneath s) → w.view ≡ with_bound own joint lemma.clause v.view
added_in views s t e own lemma joint v u w formula reached onward same is before kept after named joint_is =
    view_in views s t e (calls.Add own lemma) v u w formula reached onward same is before kept after named ∙ by v.view ∙ ap (λ (j : ℕ). with_bound own j lemma.clause v.view) (sym joint_is)
  where
    by : (x : View) → option_and_then (named_after_call s e.seat (calls.Add own lemma)) x ≡ with_bound own (next (beneath s)) lemma.clause x
    by None = refl
    by (Some h) = refl

-- behind an import, under the joint number that was found
pub imported_in : NamedViewsFollowEntries → (s t : NamedState) (e : Entry) (own : ℕ) (clause : LiteralSet) (joint : ℕ) (v u w : SeatValue) → IsFormula s.formula → IsNamedReached s → IsNamedReached t → e.seat ≡ u.number → t ≡ after_named s e → seat_of_book s v.number ≡ v → u ≡ v → w ≡ seat_of_book t u.number → e.call ≡ calls.Import own clause → import_number (beneath s) (image (names_of s e.seat) clause) ≡ Some joint → w.view ≡ with_bound own joint clause v.view
imported_in views s t e own clause joint v u w formula reached onward same is before kept after named found =
    view_in views s t e (calls.Import own clause) v u w formula reached onward same is before kept after named ∙ by v.view
  where
    by : (x : View) → option_and_then (named_after_call s e.seat (calls.Import own clause)) x ≡ with_bound own joint clause x
    by None = refl
    by (Some h) = ap (λ (o : Option ℕ). Some (with_found_holding h own o clause)) found

-- behind a deletion
pub dropped_in : NamedViewsFollowEntries → (s t : NamedState) (e : Entry) (numbers : List ℕ) (v u w : SeatValue) → IsFormula s.formula → IsNamedReached s → IsNamedReached t → e.seat ≡ u.number → t ≡ after_named s e → seat_of_book s v.number ≡ v → u ≡ v → w ≡ seat_of_book t u.number → e.call ≡ calls.Drop numbers → w.view ≡ option_map (without_holdings numbers) v.view
dropped_in views s t e numbers v u w formula reached onward same is before kept after named =
    view_in views s t e (calls.Drop numbers) v u w formula reached onward same is before kept after named ∙ by v.view
  where
    by : (x : View) → option_and_then (named_after_call s e.seat (calls.Drop numbers)) x ≡ option_map (without_holdings numbers) x
    by None = refl
    by (Some h) = refl

-- ---- commits

-- a lemma that was committed has the next joint number
pub committed_next : (s : NamedState) (r : ReceiptValue) (added : Added) → named_commit s r ≡ Ok added → added.joint ≡ next (beneath s)
committed_next s r added is = by (named_commit_refusal s r) (has_variables_for s r.seat r.lemma.clause) is
  where
    told : Result Added Refusal → ℕ
    told (Ok x) = x.joint
    told (Err e) = 0

    by : (o : Option Refusal) (left : Bool) → if_free o (if left then Ok (commit_told (beneath s)) else Err NoVariableLeft) ≡ Ok added → added.joint ≡ next (beneath s)
    by None true at = sym (ap told at)
    by None false at = absurd (false≢true (ap is_ok at))
    by (Some e) left at = absurd (false≢true (ap is_ok at))
