-- A seat is there until it leaves.
use Rattle.std.proofs.Common.{◌≡◌, ◌<◌, ℕ, zero, suc, Bool, true, false, cond, List, [], ◌∷◌, length, map, Option, None, Some, refl, sym, ap, ◌∙◌, arith}
use Rattle.std.specs.Prelude.{◌==◌, ◌||◌, replicate}
use Rattle.std.proofs.lemmas.Bool.{eq-eqb, false≢true}
use Rattle.std.proofs.lemmas.List.{length-replicate}
use Rattle.lj_book.specs.declared.entry.Call.{Call}
use Rattle.lj_book.specs.declared.entry.Call.TheVariants as calls
use Rattle.lj_book.specs.declared.entry.Entry.{Entry}
use Rattle.lj_book.specs.Imports.{import_number}
use Rattle.lj_clause.specs.Renaming.{Renaming}
use Rattle.lj_book.specs.State.{State}
use Rattle.lj_book.specs.History.{tables_after, with_found}
use Rattle.lj_book.specs.Tables.{Table, Tables, is_here, with_table, without_seat}
use Rattle.lj_book.specs.Named.{NamedState, named_opening, after_all_named, after_named, beneath, call_image, entry_beneath}
use Rattle.lj_share.specs.Entries.{entries_of, calls_of}
use Rattle.lj_share.specs.Seats.{is_leave, has_left, HereUntilLeft}
use Rattle.lj_share.proofs.Opened.{seats_kept}

here_with : (change : Table → Table) (ts : Tables) (k seat : ℕ) → is_here (with_table change ts k) seat ≡ is_here ts seat
here_with change [] k seat = refl
here_with change (None ∷ ts) zero zero = refl
here_with change (Some t ∷ ts) zero zero = refl
here_with change (t ∷ ts) zero (suc seat) = refl
here_with change (t ∷ ts) (suc k) zero = refl
here_with change (t ∷ ts) (suc k) (suc seat) = here_with change ts k seat

here_without : (ts : Tables) (k seat : ℕ) → (k ≡ seat → ⊥) → is_here (without_seat ts k) seat ≡ is_here ts seat
here_without [] k seat other = refl
here_without (t ∷ ts) zero zero other = absurd (other refl)
here_without (t ∷ ts) zero (suc seat) other = refl
here_without (t ∷ ts) (suc k) zero other = refl
here_without (t ∷ ts) (suc k) (suc seat) other = here_without ts k seat (λ same. other (ap suc same))

here_found : (ts : Tables) (k own seat : ℕ) (joint : Option ℕ) → is_here (with_found ts k own joint) seat ≡ is_here ts seat
here_found ts k own seat None = refl
here_found ts k own seat (Some joint) = here_with _ ts k seat

-- a call of whatever seat that is no leave of this one
here_after : (s : State) (k : ℕ) (call : Call) (seat : ℕ) → (k ≡ seat → is_leave call ≡ false) → is_here (tables_after s k call) seat ≡ is_here s.tables seat
here_after s k (calls.Add own lemma) seat none = here_with _ s.tables k seat
here_after s k (calls.Drop numbers) seat none = here_with _ s.tables k seat
here_after s k (calls.Adopt own joint) seat none = here_with _ s.tables k seat
here_after s k (calls.Import own clause) seat none = here_found s.tables k own seat (import_number s clause)
here_after s k calls.Leave seat none = here_without s.tables k seat (λ same. false≢true (sym (none same)))

-- a leave is one in joint variables too
leave_image : (m : Renaming) (call : Call) → is_leave (call_image m call) ≡ is_leave call
leave_image m (calls.Add own lemma) = refl
leave_image m (calls.Drop numbers) = refl
leave_image m (calls.Adopt own joint) = refl
leave_image m (calls.Import own clause) = refl
leave_image m calls.Leave = refl

-- an entry of whatever seat that is no leave of this one
here_behind : (s : NamedState) (e : Entry) (seat : ℕ) → (e.seat ≡ seat → is_leave e.call ≡ false) → is_here (after_named s e).tables seat ≡ is_here s.tables seat
here_behind s e seat none = here_after (beneath s) e.seat (entry_beneath s e).call seat (λ same. leave_image _ e.call ∙ none same)

neither : (a b : Bool) → (a || b) ≡ false → (a ≡ false) × (b ≡ false)
neither true b none = absurd (false≢true (sym none))
neither false b none = (refl, none)

here_on : (s : NamedState) (es : List Entry) (seat : ℕ) → has_left (calls_of seat es) ≡ false → is_here (after_all_named s es).tables seat ≡ is_here s.tables seat
here_on s [] seat none = refl
here_on s (e ∷ es) seat none =
    elim (e.seat == seat) as (λ b. (e.seat == seat) ≡ b → has_left (map (λ (x : Entry). x.call) (cond b (e ∷ entries_of seat es) (entries_of seat es))) ≡ false → is_here (after_all_named (after_named s e) es).tables seat ≡ is_here s.tables seat) [
      | true ↦ λ is all.
          let both = neither (is_leave e.call) (has_left (calls_of seat es)) all in
          here_on (after_named s e) es seat both.1 ∙ here_behind s e seat (λ same. both.0)
      | false ↦ λ is all. here_on (after_named s e) es seat all ∙ here_behind s e seat (λ same. absurd (false≢true (sym is ∙ eq-eqb e.seat seat same)))
    ] refl none

many_kept : (s : NamedState) (es : List Entry) → length (after_all_named s es).tables ≡ length s.tables
many_kept s [] = refl
many_kept s (e ∷ es) = many_kept (after_named s e) es ∙ seats_kept (beneath s) e.seat (entry_beneath s e).call

here_at_first : (n : ℕ) (t : Table) (seat : ℕ) → seat < n → is_here (replicate n (Some t)) seat ≡ true
here_at_first zero t seat within = absurd (omega (arith, within))
here_at_first (suc n) t zero within = refl
here_at_first (suc n) t (suc seat) within = here_at_first n t seat (omega (arith, within))

pub here_while_none : HereUntilLeft
here_while_none s seat r within none =
    let first = named_opening s.formula r.seats s.max_steps in
    let many : length s.tables ≡ r.seats = ap (λ (u : NamedState). length u.tables) (sym r.leads) ∙ many_kept first s.history ∙ length-replicate r.seats _ in
    ap (λ (u : NamedState). is_here u.tables seat) (sym r.leads) ∙ here_on first s.history seat none ∙ here_at_first r.seats _ seat (omega (arith, within, many))
