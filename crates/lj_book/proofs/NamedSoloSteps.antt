-- An own event of a seat that names its variables, answered as its solo object decides.
use Rattle.std.proofs.Common.{◌≡◌, ap, refl, sym, ◌∙◌, subst, ℕ, ◌-◌, ◌≤◌, Bool, true, false}
use Rattle.std.specs.Prelude.{nat_lt, List, length, Option, Some, None, option_map, option_and_then, is_some, if◌then◌else◌, IfSome, IfErr, Result, Ok, Err}
use Rattle.std.specs.FinMap as fin
use Rattle.lj_clause.specs.LiteralSet.{LiteralSet}
use Rattle.lj_clause.specs.ClauseMap.{ClauseMap}
use Rattle.lj_clause.specs.Renaming.{Renaming, image, inverse, is_named, IsOneToOne}
use Rattle.lj_clause.proofs.Renaming.{renaming_laws}
use Rattle.lj_hint.specs.declared.pair.Pair.{Pair}
use Rattle.lj_hint.specs.Images.{pair_image}
use Rattle.lj_book.specs.declared.refusal.Refusal.{Refusal}
use Rattle.lj_book.specs.declared.refusal.Refusal.TheVariants.{SeatGone, NumberTaken, PrivateVariable, NoSuchClause, Full}
use Rattle.lj_book.specs.declared.entry.Entry.{Entry}
use Rattle.lj_book.specs.declared.entry.Dropped.{Dropped}
use Rattle.lj_book.specs.declared.entry.Imported.{Imported}
use Rattle.lj_book.specs.declared.event.Event.TheVariants as events
use Rattle.lj_book.specs.declared.event.Reply.{Reply}
use Rattle.lj_book.specs.declared.event.Reply.TheVariants as replies
use Rattle.lj_book.specs.declared.event.Pending.{Pending}
use Rattle.lj_book.specs.declared.event.Pending.TheVariants as pendings
use Rattle.lj_book.specs.Tables.{Table, table_of, without_keys, keys_lost}
use Rattle.lj_book.specs.declared.found.Found.{Found}
use Rattle.lj_book.specs.declared.found.Found.TheVariants.{Equal, Part, Neither}
use Rattle.lj_book.specs.State.{State, addition_count, next, given_out, live}
use Rattle.lj_book.specs.Imports.{found, import_step}
use Rattle.lj_book.specs.Calls.{drop_entry, free_refusal, if_free, adopt_entry, imported, leave_entry}
use Rattle.lj_book.specs.Worlds.{reply_by, IsCalled, IsTried}
use Rattle.lj_book.specs.Solo.{Holdings, View, solo_refusal, IsRefusedSolo, IfHere, IfNotTaken, IfFree, holdings_of, without_holdings, IsSoloDrop, IsSoloAdoption, IsSoloImport, IsSoloLeave, IsSoloAnswer, view_of}
use Rattle.lj_book.specs.Views.{with_found_holding}
use Rattle.lj_book.specs.Variables.{is_own}
use Rattle.lj_book.specs.Named.{NamedState, top_of, names_of, beneath, after_named}
use Rattle.lj_book.specs.NamedViews.{named_view, holdings_image}
use Rattle.lj_book.specs.NamedReplies.{named_drop, adopted, named_adopt, or_private, import_refusal, named_import, named_leave}
use Rattle.lj_book.specs.NamedEntries.{named_import_entry}
use Rattle.lj_book.specs.NamedWorlds.{NamedWorld, named_pending_at, with_named_pending, if_named_entered, IsNamedAnswered}
use Rattle.lj_book.specs.NamedSolo.{own_clauses, counted_as}
use Rattle.lj_book.specs.NamedAlone.{named_after_call}
use Rattle.lj_book.proofs.SoloTables.{holdings-without, len-holdings}
use Rattle.lj_book.proofs.HistoryLaws.{IsSound-reached}
use Rattle.lj_book.proofs.SoloStates.{IsGiven-sound, live-given, with_clause-is}
use Rattle.lj_book.proofs.SoloMoves.{import_gives}
use Rattle.lj_book.proofs.SoloTakes.{refusal_alone}
use Rattle.lj_book.proofs.SoloWorlds.{called_by, tried_by, pending-set}
use Rattle.lj_book.proofs.NamedLaws.{rules_reached, beneath_after, beneath_is_reached}
use Rattle.lj_book.proofs.NamedSoloViews.{image-without, image-len, image-refusal, Keeps, stands_later, keeps_entry, sees_behind}
use Rattle.lj_book.proofs.NamedSoloEntries.{drop_legal, leave_legal, adoptable, adopt_legal, importable, import_legal}
use Rattle.lj_book.proofs.NamedSoloLeaves.{named_solo_of, IsNamedSettled}

-- ---- what the seat sees

-- A seat that sees something has a table.
pub record IsSeen (s : NamedState) (seat : ℕ) (h : Holdings) : Type 0 where
  pub table : Table
  pub at : table_of s.tables seat ≡ Some table
  pub is : holdings_image (inverse (names_of s seat)) (holdings_of (given_out (beneath s)) table) ≡ h

pub seen_is : (s : NamedState) (seat : ℕ) (h : Holdings) → named_view s seat ≡ Some h → IsSeen s seat h
seen_is s seat h at = by (table_of s.tables seat) refl at
  where
    by : (o : Option Table) → table_of s.tables seat ≡ o → option_map (holdings_image (inverse (names_of s seat))) (option_map (holdings_of (given_out (beneath s))) o) ≡ Some h → IsSeen s seat h
    by None e is = absurd (let no : ⊥ = cc in no)
    by (Some t) e is = record { table = t; at = e; is = (let same : holdings_image (inverse (names_of s seat)) (holdings_of (given_out (beneath s)) t) ≡ h = cc in same) }

unseen_is : (s : NamedState) (seat : ℕ) → named_view s seat ≡ None → table_of s.tables seat ≡ None
unseen_is s seat at = by (table_of s.tables seat) refl at
  where
    by : (o : Option Table) → table_of s.tables seat ≡ o → option_map (holdings_image (inverse (names_of s seat))) (option_map (holdings_of (given_out (beneath s))) o) ≡ None → table_of s.tables seat ≡ None
    by None e is = e
    by (Some t) e is = absurd (let no : ⊥ = cc in no)

pub free_named : (s : NamedState) (seat own : ℕ) → free_refusal (beneath s) seat own ≡ solo_refusal (named_view s seat) own
free_named s seat own = refusal_alone (beneath s) seat own ∙ sym (image-refusal (inverse (names_of s seat)) (view_of (beneath s) seat) own)

pub free_here : (s : NamedState) (seat own : ℕ) (h : Holdings) → named_view s seat ≡ Some h → fin.contains_key h own ≡ false → free_refusal (beneath s) seat own ≡ None
free_here s seat own h at unbound = free_named s seat own ∙ ap (λ (v : View). solo_refusal v own) at ∙ ap (λ (b : Bool). if b then Some NumberTaken else None) unbound

pub entered_solo : (w : NamedWorld) (seat : ℕ) (s : NamedState) (v : View) → named_view s seat ≡ v → named_solo_of (record w { state = s }) seat ≡ record (named_solo_of w seat) { view = v }
entered_solo w seat s v is = ap (λ (x : View). record { view = x; pending = named_pending_at w seat }) is

pub with_own_pending : (w : NamedWorld) (seat : ℕ) (p : Pending) → (length w.pending ≤ seat → p ≡ pendings.Nothing) → named_solo_of (with_named_pending w seat p) seat ≡ record (named_solo_of w seat) { pending = p }
with_own_pending w seat p past = ap (λ (q : Pending). record { view = named_view w.state seat; pending = q }) (pending-set w.pending seat p past)

-- ---- refusals that the view decides

-- a refusal that is found first is told
pub first_told : {A : Type 0} (w w' : NamedWorld) (seat : ℕ) (entry : Entry) (first : Option Refusal) (call : Result A Refusal) (told : A → Reply) (reply : Reply) (x : Refusal) → first ≡ Some x → IsTried first call told (if_named_entered w entry) reply w' → IsRefusedSolo x (named_solo_of w seat) reply (named_solo_of w' seat)
first_told w w' seat entry first call told reply x is called =
    let answer : called.answer ≡ Err x = subst (λ (o : Option Refusal). IfSome o (λ e. called.answer ≡ Err e)) is called.refused in
    (called.tells ∙ ap (reply_by told) answer, ap (λ (v : NamedWorld). named_solo_of v seat) (called.leaves ∙ ap (if_named_entered w entry) answer))

-- a call that is refused so, as one that finds that refusal first
pub called_first : {A : Type 0} {B : Type 0} (first : Option Refusal) (call : Result A Refusal) (told : A → Reply) (left : Result A Refusal → B) (reply : Reply) (after : B) → ((e : Refusal) → first ≡ Some e → call ≡ Err e) → IsCalled call told left reply after → IsTried first call told left reply after
called_first {A} {B} first call told left reply after refused called = record { answer = called.answer; answers = called.answers; refused = by first refl; tells = called.tells; leaves = called.leaves }
  where
    by : (o : Option Refusal) → first ≡ o → IfSome o (λ e. called.answer ≡ Err e)
    by None is = tt
    by (Some e) is = subst (λ (r : Result A Refusal). IfErr r (λ x. called.answer ≡ Err x)) (refused e is) called.refused

pub if_free_named : {A : Type 0} (w w' : NamedWorld) (seat own : ℕ) (first : Option Refusal) (call : Result A Refusal) (told : A → Reply) (entry : Entry) (reply : Reply) (F : Holdings → Type 0)
    → ((x : Refusal) → free_refusal (beneath w.state) seat own ≡ Some x → first ≡ Some x)
    → ((h : Holdings) → named_view w.state seat ≡ Some h → fin.contains_key h own ≡ false → F h)
    → IsTried first call told (if_named_entered w entry) reply w' → IfFree (named_solo_of w seat) own (counted_as reply) (named_solo_of w' seat) F
if_free_named w w' seat own first call told entry reply F refused step called = go (named_view w.state seat) refl
  where
    refusal : (x : Refusal) → solo_refusal (named_view w.state seat) own ≡ Some x → counted_as (replies.Refused x) ≡ replies.Refused x → IsRefusedSolo x (named_solo_of w seat) (counted_as reply) (named_solo_of w' seat)
    refusal x is same =
        let all = first_told w w' seat entry first call told reply x (refused x (free_named w.state seat own ∙ is)) called in
        (ap counted_as all.0 ∙ same, all.1)

    free : (h : Holdings) → named_view w.state seat ≡ Some h → (b : Bool) → fin.contains_key h own ≡ b → IfNotTaken b (named_solo_of w seat) (counted_as reply) (named_solo_of w' seat) (F h)
    free h at true bound = refusal NumberTaken (ap (λ (v : View). solo_refusal v own) at ∙ ap (λ (b : Bool). if b then Some NumberTaken else None) bound) refl
    free h at false unbound = step h at unbound

    go : (v : View) → named_view w.state seat ≡ v → IfHere v (named_solo_of w seat) (counted_as reply) (named_solo_of w' seat) (λ h. IfNotTaken (fin.contains_key h own) (named_solo_of w seat) (counted_as reply) (named_solo_of w' seat) (F h))
    go None at = refusal SeatGone (ap (λ (v : View). solo_refusal v own) at) refl
    go (Some h) at = free h at (fin.contains_key h own) refl

-- ---- drops and leaves

pub drop_alone : (w w' : NamedWorld) (seat : ℕ) (numbers : List ℕ) (reply : Reply) → IsNamedSettled w → IsNamedAnswered w (events.Drop seat numbers) reply w' → IfHere (named_view w.state seat) (named_solo_of w seat) (counted_as reply) (named_solo_of w' seat) (λ h. IsSoloDrop numbers (named_solo_of w seat) h (counted_as reply) (named_solo_of w' seat))
drop_alone w w' seat numbers reply settled called = go (named_view w.state seat) refl
  where
    s : NamedState
    s = w.state

    entry : Entry
    entry = drop_entry (beneath s) seat numbers

    replied : (o : Option Table) → table_of s.tables seat ≡ o → named_drop s seat numbers ≡ (if is_some o then Ok (record { place = length (beneath s).history; count = keys_lost numbers o }) else Err SeatGone)
    replied o at = ap (λ (t : Option Table). if is_some t then Ok (record { place = length (beneath s).history; count = keys_lost numbers t }) else Err SeatGone) at

    lost : (p : ClauseMap) (t : Table) → keys_lost numbers (Some t) ≡ fin.len (holdings_of p t) - fin.len (without_holdings numbers (holdings_of p t))
    lost p t = λ i. sym (len-holdings p t) i - (sym (len-holdings p (without_keys numbers t)) ∙ ap (λ (h : Holdings). fin.len h) (holdings-without p numbers t)) i

    counted : (h : Holdings) → IsSeen s seat h → (x : Dropped) → named_drop s seat numbers ≡ Ok x → x.count ≡ fin.len h - fin.len (without_holdings numbers h)
    counted h seen x e =
        let m : Renaming = inverse (names_of s seat) in
        let g : Holdings = holdings_of (given_out (beneath s)) seen.table in
        let made : Dropped = record { place = length (beneath s).history; count = keys_lost numbers (Some seen.table) } in
        let both : Ok made ≡ Ok x = sym (replied (Some seen.table) seen.at) ∙ e in
        let same : made ≡ x = cc in
        ap (λ (d : Dropped). d.count) (sym same) ∙ lost (given_out (beneath s)) seen.table
        ∙ (λ i. sym (image-len m g) i - (sym (image-len m (without_holdings numbers g)) ∙ ap (λ (k : Holdings). fin.len k) (image-without m numbers g)) i)
        ∙ ap (λ (k : Holdings). fin.len k - fin.len (without_holdings numbers k)) seen.is

    go : (v : View) → named_view s seat ≡ v → IfHere v (named_solo_of w seat) (counted_as reply) (named_solo_of w' seat) (λ h. IsSoloDrop numbers (named_solo_of w seat) h (counted_as reply) (named_solo_of w' seat))
    go None at =
        let gone : named_drop s seat numbers ≡ Err SeatGone = replied None (unseen_is s seat at) in
        let all = first_told w w' seat entry (Some SeatGone) (named_drop s seat numbers) replies.Dropped reply SeatGone refl
        (called_first (Some SeatGone) (named_drop s seat numbers) replies.Dropped (if_named_entered w entry) reply w' (λ e is. let same : SeatGone ≡ e = cc in gone ∙ ap Err same) called) in
        (ap counted_as all.0, all.1)
    go (Some h) at =
        called_by (named_drop s seat numbers) replies.Dropped (if_named_entered w entry) reply w'
        (λ r after. IsSoloDrop numbers (named_solo_of w seat) h (counted_as r) (named_solo_of after seat))
        (λ x e. (
          counted h (seen_is s seat h at) x e,
          entered_solo w seat (after_named s entry) (Some (without_holdings numbers h))
              (sees_behind s settled.formula settled.reached entry (drop_legal s settled.reached seat numbers x e) ∙ ap (option_and_then (named_after_call s seat entry.call)) at),
        ))
        (λ y e. let here = sym (replied (Some (seen_is s seat h at).table) (seen_is s seat h at).at) ∙ e in absurd (let no : ⊥ = cc in no))
        (λ x e. refl)
        called

pub leave_alone : (w w' : NamedWorld) (seat : ℕ) (reply : Reply) → IsNamedSettled w → IsNamedAnswered w (events.Leave seat) reply w' → IfHere (named_view w.state seat) (named_solo_of w seat) (counted_as reply) (named_solo_of w' seat) (λ h. IsSoloLeave (named_solo_of w seat) (counted_as reply) (named_solo_of w' seat))
leave_alone w w' seat reply settled called = go (named_view w.state seat) refl
  where
    s : NamedState
    s = w.state

    entry : Entry
    entry = leave_entry (beneath s) seat

    replied : (o : Option Table) → table_of s.tables seat ≡ o → named_leave s seat ≡ (if is_some o then Ok (length (beneath s).history) else Err SeatGone)
    replied o at = ap (λ (t : Option Table). if is_some t then Ok (length (beneath s).history) else Err SeatGone) at

    go : (v : View) → named_view s seat ≡ v → IfHere v (named_solo_of w seat) (counted_as reply) (named_solo_of w' seat) (λ h. IsSoloLeave (named_solo_of w seat) (counted_as reply) (named_solo_of w' seat))
    go None at =
        let gone : named_leave s seat ≡ Err SeatGone = replied None (unseen_is s seat at) in
        let all = first_told w w' seat entry (Some SeatGone) (named_leave s seat) replies.Left reply SeatGone refl
        (called_first (Some SeatGone) (named_leave s seat) replies.Left (if_named_entered w entry) reply w' (λ e is. let same : SeatGone ≡ e = cc in gone ∙ ap Err same) called) in
        (ap counted_as all.0, all.1)
    go (Some h) at =
        called_by (named_leave s seat) replies.Left (if_named_entered w entry) reply w'
        (λ r after. IsSoloLeave (named_solo_of w seat) (counted_as r) (named_solo_of after seat))
        (λ x e. entered_solo w seat (after_named s entry) None
        (sees_behind s settled.formula settled.reached entry (leave_legal s settled.reached seat x e) ∙ ap (option_and_then (named_after_call s seat entry.call)) at))
        (λ y e. let here = sym (replied (Some (seen_is s seat h at).table) (seen_is s seat h at).at) ∙ e in absurd (let no : ⊥ = cc in no))
        (λ x e. refl)
        called

-- ---- adoptions and imports

module _ (end : NamedState) (w w' : NamedWorld) (seat own : ℕ) (reply : Reply) (settled : IsNamedSettled w) (later : Keeps w'.state end) where
  pub adopt_alone : (joint : ℕ) → IsNamedAnswered w (events.Adopt seat own joint) reply w' → IsSoloAnswer (own_clauses end seat) seat (named_solo_of w seat) (events.Adopt seat own joint) (counted_as reply) (named_solo_of w' seat)
  adopt_alone joint called =
      if_free_named w w' seat own (free_refusal (beneath s) seat own) (named_adopt s seat own joint) replies.Adopted entry reply
      (λ h. IsSoloAdoption (own_clauses end seat) own joint (named_solo_of w seat) h (counted_as reply) (named_solo_of w' seat))
      (λ x is. is)
      (λ h at unbound. called_by (named_adopt s seat own joint) replies.Adopted (if_named_entered w entry) reply w'
      (λ r after. Keeps after.state end → IsSoloAdoption (own_clauses end seat) own joint (named_solo_of w seat) h (counted_as r) (named_solo_of after seat))
      (λ x e more. accepted h at x e more)
      (λ y e more. refused h (fin.get (live (beneath s)) joint) y (sym (ap (λ (o : Option Refusal). if_free o (adopted s seat (fin.get (live (beneath s)) joint))) (free_here s seat own h at unbound)) ∙ e))
      (λ x e more. refl)
      called later)
      (called_first (free_refusal (beneath s) seat own) (named_adopt s seat own joint) replies.Adopted (if_named_entered w entry) reply w'
      (λ e is. ap (λ (o : Option Refusal). if_free o (adopted s seat (fin.get (live (beneath s)) joint))) is) called)
    where
      s : NamedState
      s = w.state

      entry : Entry
      entry = adopt_entry seat own joint

      accepted : (h : Holdings) → named_view s seat ≡ Some h → (x : ℕ) → named_adopt s seat own joint ≡ Ok x → Keeps (after_named s entry) end
          → IsSoloAdoption (own_clauses end seat) own joint (named_solo_of w seat) h (replies.Adopted x) (named_solo_of (record w { state = after_named s entry }) seat)
      accepted h at x e more =
          let legal = adopt_legal s settled.reached seat own joint x e in
          let a = adoptable s settled.reached seat own joint x e in
          let m : Renaming = inverse (names_of s seat) in
          let stays = (keeps_entry s settled.formula settled.reached entry legal).more.stays joint a.clause (live-given (beneath s) joint a.clause a.lives) in (
            image m a.clause,
            (
              stands_later (after_named s entry) end seat joint a.clause more stays a.own_clause,
              entered_solo w seat (after_named s entry) (Some (fin.insert h own (record { joint = joint; clause = image m a.clause })))
                  (sees_behind s settled.formula settled.reached entry legal ∙ ap (option_and_then (named_after_call s seat entry.call)) at
                  ∙ ap (λ (p : Pair). Some (fin.insert h own (pair_image m p))) (with_clause-is (live (beneath s)) joint a.clause a.lives)),
            ),
          )

      refused : (h : Holdings) (o : Option LiteralSet) (y : Refusal) → adopted s seat o ≡ Err y → IsSoloAdoption (own_clauses end seat) own joint (named_solo_of w seat) h (counted_as (replies.Refused y)) (named_solo_of w seat)
      refused h None y e = let same : NoSuchClause ≡ y = cc in subst (λ (z : Refusal). IsSoloAdoption (own_clauses end seat) own joint (named_solo_of w seat) h (counted_as (replies.Refused z)) (named_solo_of w seat)) same refl
      refused h (Some c) y e = foreign (is_own (top_of s) s.variables seat c) e
        where
          foreign : (b : Bool) → (if b then Ok (length s.history) else Err PrivateVariable) ≡ Err y → IsSoloAdoption (own_clauses end seat) own joint (named_solo_of w seat) h (counted_as (replies.Refused y)) (named_solo_of w seat)
          foreign true e = absurd (let no : ⊥ = cc in no)
          foreign false e = let same : PrivateVariable ≡ y = cc in subst (λ (z : Refusal). IsSoloAdoption (own_clauses end seat) own joint (named_solo_of w seat) h (counted_as (replies.Refused z)) (named_solo_of w seat)) same refl

  pub import_alone : (c : LiteralSet) → IsNamedAnswered w (events.Import seat own c) reply w' → IsSoloAnswer (own_clauses end seat) seat (named_solo_of w seat) (events.Import seat own c) (counted_as reply) (named_solo_of w' seat)
  import_alone c called =
      if_free_named w w' seat own (import_refusal s seat own c) (named_import s seat own c) replies.Imported entry reply
      (λ h. IsSoloImport (own_clauses end seat) own c (named_solo_of w seat) h (counted_as reply) (named_solo_of w' seat))
      (λ x is. ap (λ (o : Option Refusal). or_private o (is_named (top_of s) (names_of s seat) c)) is)
      (λ h at unbound. tried_by (import_refusal s seat own c) (named_import s seat own c) replies.Imported (if_named_entered w entry) reply w'
      (λ r after. Keeps after.state end → IsSoloImport (own_clauses end seat) own c (named_solo_of w seat) h (counted_as r) (named_solo_of after seat))
      (λ x e more. accepted h at x e more)
      (λ y e more. refused h (is_named (top_of s) (names_of s seat) c) (found (beneath s) (image (names_of s seat) c)) y
      (sym (ap (λ (o : Option Refusal). if_free (or_private o (is_named (top_of s) (names_of s seat) c)) (imported (beneath s) (found (beneath s) (image (names_of s seat) c)))) (free_here s seat own h at unbound)) ∙ e))
      (λ more. refl)
      called later)
      called
    where
      s : NamedState
      s = w.state

      entry : Entry
      entry = named_import_entry s seat own c

      accepted : (h : Holdings) → named_view s seat ≡ Some h → (x : Imported) → named_import s seat own c ≡ Ok x → Keeps (after_named s entry) end
          → IsSoloImport (own_clauses end seat) own c (named_solo_of w seat) h (replies.Imported x) (named_solo_of (record w { state = after_named s entry }) seat)
      accepted h at x e more =
          let legal = import_legal s settled.reached seat own c x e in
          let i = importable s settled.reached seat own c x e in
          let m : Renaming = names_of s seat in
          let one : IsOneToOne (top_of s) m = (rules_reached s settled.reached).variables.one_to_one seat in
          let back : image (inverse m) (image m c) ≡ c = renaming_laws.given_back (top_of s) m c one i.named in
          let given = ap (λ (t : State). fin.get (given_out t) x.joint) (beneath_after s (rules_reached s settled.reached) entry legal)
          ∙ import_gives (beneath s) seat own (image m c) (import_step (beneath s) (image m c)) x.joint (IsGiven-sound (beneath s) (IsSound-reached (beneath s) (beneath_is_reached s settled.reached))) legal.legal i.number in (
            stands_later (after_named s entry) end seat x.joint (image m c) more given (renaming_laws.named_back (top_of s) m c one i.named) ∙ ap Some back,
            entered_solo w seat (after_named s entry) (Some (fin.insert h own (record { joint = x.joint; clause = c })))
                (sees_behind s settled.formula settled.reached entry legal ∙ ap (option_and_then (named_after_call s seat entry.call)) at
                ∙ ap (λ (o : Option ℕ). Some (with_found_holding h own o c)) i.number),
          )

      full : (h : Holdings) (b : Bool) (x : Imported) (y : Refusal) → (if b then Ok x else Err Full) ≡ Err y → IsSoloImport (own_clauses end seat) own c (named_solo_of w seat) h (counted_as (replies.Refused y)) (named_solo_of w seat)
      full h true x y e = absurd (let no : ⊥ = cc in no)
      full h false x y e = let same : Full ≡ y = cc in subst (λ (z : Refusal). IsSoloImport (own_clauses end seat) own c (named_solo_of w seat) h (counted_as (replies.Refused z)) (named_solo_of w seat)) same refl

      refused : (h : Holdings) (b : Bool) (f : Found) (y : Refusal) → if_free (or_private None b) (imported (beneath s) f) ≡ Err y → IsSoloImport (own_clauses end seat) own c (named_solo_of w seat) h (counted_as (replies.Refused y)) (named_solo_of w seat)
      refused h true Neither y e = let same : NoSuchClause ≡ y = cc in subst (λ (z : Refusal). IsSoloImport (own_clauses end seat) own c (named_solo_of w seat) h (counted_as (replies.Refused z)) (named_solo_of w seat)) same refl
      refused h true (Equal joint) y e = absurd (let no : ⊥ = cc in no)
      refused h true (Part part) y e = full h (nat_lt (addition_count (beneath s).history) s.max_steps) (record { place = length (beneath s).history; joint = next (beneath s) }) y e
      refused h false f y e = let same : PrivateVariable ≡ y = cc in subst (λ (z : Refusal). IsSoloImport (own_clauses end seat) own c (named_solo_of w seat) h (counted_as (replies.Refused z)) (named_solo_of w seat)) same refl
