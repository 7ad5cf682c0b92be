-- What a book keeps where an own number is bound to a live clause.
use Rattle.std.proofs.Common.{◌≡◌, ap, refl, sym, ◌∙◌, ℕ, Bool, true, false, arith}
use Rattle.std.specs.Prelude.{List, [], ◌∷◌, ◌++◌, length, Option, Some, None, if◌then◌else◌, is_some}
use Rattle.std.proofs.lemmas.Bool.{false≢true}
use Rattle.std.specs.FinMap as fin
use Rattle.lj_clause.specs.ClauseMap.{ClauseMap}
use Rattle.lj_text.specs.Needed.{additions}
use Rattle.lj_book.specs.declared.entry.Call.{Call}
use Rattle.lj_book.specs.declared.entry.Entry.{Entry}
use Rattle.lj_book.specs.declared.refusal.Refusal.TheVariants.{SeatGone, NumberTaken}
use Rattle.lj_book.specs.Tables.{Tables, is_here, is_bound, has_holder, with_binding}
use Rattle.lj_book.specs.State.{State, steps_of, live}
use Rattle.lj_book.specs.History.{after_entry, tables_after, IsLegalCall}
use Rattle.lj_book.specs.Calls.{free_refusal, binding_entry}
use Rattle.lj_book.specs.inner.Kept.{IsKept}
use Rattle.lj_book.proofs.HistoryLaws.{IsSound-reached, IsReached-after, live-same, held-bound, steps_of-push, additions-append}
use Rattle.lj_book.proofs.BookLaws.{same_state, verdict-same}

-- an own number that is free
pub record CanBind (s : State) (seat own : ℕ) : Type 0 where
  pub here : is_here s.tables seat ≡ true
  pub unbound : is_bound s.tables seat own ≡ false

pub can_bind : (s : State) (seat own : ℕ) → free_refusal s seat own ≡ None → CanBind s seat own
can_bind s seat own h = go (is_here s.tables seat) (is_bound s.tables seat own) refl refl h
  where
    go : (a b : Bool) → is_here s.tables seat ≡ a → is_bound s.tables seat own ≡ b → (if a then (if b then Some NumberTaken else None) else Some SeatGone) ≡ None → CanBind s seat own
    go false b p q h = absurd (false≢true (sym (ap is_some h)))
    go true true p q h = absurd (false≢true (sym (ap is_some h)))
    go true false p q h = record { here = p; unbound = q }

pub IsKept-bound : (s : State) (m : ClauseMap) (count : ℕ) (refuted : Option ℕ) (seat own joint : ℕ) (call : Call) → IsKept s m count refuted → free_refusal s seat own ≡ None → fin.contains_key (live s) joint ≡ true → IsLegalCall s seat call None → tables_after s seat call ≡ with_binding s.tables seat own joint → IsKept (after_entry s (binding_entry seat call)) m count refuted
IsKept-bound s m count refuted seat own joint call kept free lives legal binds =
    let e : Entry = binding_entry seat call in
    let can = can_bind s seat own free in
    let held : (q : ℕ) → has_holder (tables_after s seat call) q ≡ has_holder s.tables q = λ q.
    ap (λ (ts : Tables). has_holder ts q) binds ∙ held-bound s seat own joint (IsSound-reached s kept.reached) can.here can.unbound lives q in
    let before = kept.additions in
    let more = ap (λ ss. length (additions ss)) (steps_of-push s.history e) ∙ additions-append (steps_of s.history) [] in
    record {
      reached = IsReached-after s e kept.reached legal;
      lives = kept.lives ∙ sym (live-same s (tables_after s seat call) e held refl);
      additions = omega arith;
      first_empty = kept.first_empty ∙ sym (verdict-same s.history e refl);
    }

pub bound_state : (s t : State) (seat own joint : ℕ) (call : Call) (tables : Tables) (history : List Entry) → s ≡ t → tables_after t seat call ≡ with_binding t.tables seat own joint → tables ≡ with_binding s.tables seat own joint → history ≡ s.history ++ binding_entry seat call ∷ [] → ◌≡◌ {A = State} (record { formula = s.formula; max_steps = s.max_steps; tables = tables; history = history }) (after_entry t (binding_entry seat call))
bound_state s t seat own joint call tables history is binds bound pushed =
    same_state s.formula s.max_steps tables _ history _
    (bound
    ∙ ap (λ (u : State). with_binding u.tables seat own joint) is
    ∙ sym binds
    ∙ ap (λ (u : State). tables_after u seat call) (sym is))
    pushed
    ∙ ap (λ (u : State). after_entry u (binding_entry seat call)) is
