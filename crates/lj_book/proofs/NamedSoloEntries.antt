-- The entries of accepted calls, in a book whose seats name their variables, are legal.
use Rattle.std.proofs.Common.{◌≡◌, ap, refl, sym, ◌∙◌, subst, ℕ, zero, suc, ◌<◌, Bool, cond, true, false, arith}
use Rattle.std.specs.Prelude.{ℤ, pos, negsuc, neg_ℤ, ◌==◌, List, length, Option, Some, None, is_some, option_map, unwrap_or, IfSome, Result, Ok, Err}
use Rattle.std.proofs.lemmas.Bool.{false≢true, ne_eqb}
use Rattle.std.specs.FinMap as fin
use Rattle.lj_clause.specs.Literal.{variable_of}
use Rattle.lj_clause.specs.LiteralSet.{LiteralSet, holds}
use Rattle.lj_clause.specs.Lemma.{LemmaValue, IsLemma}
use Rattle.lj_clause.specs.Renaming.{Renaming, renamed, literal_image, image, lemma_image, IsOneToOne, is_named}
use Rattle.lj_clause.proofs.Renaming.{IsLemma-image}
use Rattle.lj_text.specs.declared.line.Addition.{Addition}
use Rattle.lj_hint.specs.Receipt.{ReceiptValue, IsReceipt}
use Rattle.lj_book.specs.declared.refusal.Refusal.{Refusal}
use Rattle.lj_book.specs.declared.refusal.Refusal.TheVariants.{SeatGone, PrivateVariable, NoVariableLeft}
use Rattle.lj_book.specs.declared.entry.Added.{Added}
use Rattle.lj_book.specs.declared.entry.Dropped.{Dropped}
use Rattle.lj_book.specs.declared.entry.Imported.{Imported}
use Rattle.lj_book.specs.Tables.{is_here}
use Rattle.lj_book.specs.State.{State, addition_count, live}
use Rattle.lj_book.specs.Imports.{import_step, import_number}
use Rattle.lj_book.specs.History.{IsLegal, IsReached}
use Rattle.lj_book.specs.Inside.{inside_reply, inside_entry}
use Rattle.lj_book.specs.Calls.{commit_told, drop_entry, free_refusal, if_free, adopt_entry, leave_entry}
use Rattle.lj_book.specs.Variables.{is_own}
use Rattle.lj_book.specs.inner.JointLines.{inside_line}
use Rattle.lj_book.specs.Named.{NamedState, top_of, names_of, beneath, has_variables_for, IsOwnLive, IsNamedLegal, IsNamedReached}
use Rattle.lj_book.specs.NamedViews.{names_with, addition_beneath}
use Rattle.lj_book.specs.NamedReplies.{named_inside_after, named_inside, named_commit_refusal, named_commit, named_drop, adopted, named_adopt, or_private, import_refusal, named_import, named_leave}
use Rattle.lj_book.specs.NamedEntries.{named_commit_entry, named_import_entry}
use Rattle.lj_book.specs.NamedInside.{named_inside_entry, if_left}
use Rattle.lj_book.specs.NamedSolo.{IsProper}
use Rattle.lj_book.proofs.HistoryLaws.{IsSound-reached}
use Rattle.lj_book.proofs.SoloWorlds.{imported_is}
use Rattle.lj_book.proofs.BindingLaws.{CanBind, can_bind}
use Rattle.lj_book.proofs.InsideLaws.{IsPivot, taken_refused, inside_refused, entered, entered_entry, entered_legal}
use Rattle.lj_book.proofs.NamedLaws.{rules_reached, given_grows, beneath_is_reached}
use Rattle.lj_book.proofs.NamedInsideLaws.{replies_are_beneath}
use Rattle.lj_book.proofs.NamedCommits.{can_commit_named, named_commit_legal}

-- ---- what an accepted call says

-- of a reply that is accepted where nothing is refused, and where a test holds
pub passed : {A : Type 0} (o : Option Refusal) (b : Bool) (e : Refusal) (y x : A) → if_free o (cond b (Ok y) (Err e)) ≡ Ok x → (o ≡ None) × (b ≡ true) × (y ≡ x)
passed (Some z) b e y x h = absurd (let no : ⊥ = cc in no)
passed None false e y x h = absurd (let no : ⊥ = cc in no)
passed None true e y x h = (refl, refl, (let same : y ≡ x = cc in same))

pub free_none : {A : Type 0} (o : Option Refusal) (onward : Result A Refusal) (x : A) → if_free o onward ≡ Ok x → (o ≡ None) × (onward ≡ Ok x)
free_none None onward x h = (refl, h)
free_none (Some e) onward x h = absurd (let no : ⊥ = cc in no)

here_is : {A : Type 0} (b : Bool) (y x : A) → cond b (Ok y) (Err SeatGone) ≡ Ok x → b ≡ true
here_is true y x h = refl
here_is false y x h = absurd (let no : ⊥ = cc in no)

-- ---- legal entries

-- a variable but 0 is renamed to one but 0
some_variable : (top : ℕ) (m : Renaming) (x : ℕ) → IsOneToOne top m → 0 < x → 0 < renamed m x
some_variable top m x one some = by (fin.get m x) refl
  where
    by : (o : Option ℕ) → fin.get m x ≡ o → 0 < unwrap_or o x
    by None e = some
    by (Some y) e = let above = (one.above x y e).1 in omega arith

image_of : (m : Renaming) (l : ℤ) → variable_of (literal_image m l) ≡ renamed m (variable_of l)
image_of m (pos n) = refl
image_of m (negsuc n) = turned (renamed m (suc n))
  where
    turned : (k : ℕ) → variable_of (neg_ℤ (pos k)) ≡ k
    turned zero = refl
    turned (suc k) = refl

not_zero : (n : ℕ) → (n == 0) ≡ false → 0 < n
not_zero zero e = absurd (false≢true (sym e))
not_zero (suc n) e = omega arith

pivot_beneath : (top : ℕ) (m : Renaming) (lemma : LemmaValue) → IsOneToOne top m → IsProper lemma → IsPivot (lemma_image m lemma)
pivot_beneath top m lemma one proper = record { literal = literal lemma.pivot proper.1; there = there (option_map (literal_image m) lemma.pivot) (IsLemma-image m lemma proper.0) }
  where
    literal : (o : Option ℤ) → IfSome o (λ q. (variable_of q == 0) ≡ false) → IfSome (option_map (literal_image m) o) (λ q. (variable_of q == 0) ≡ false)
    literal None h = tt
    literal (Some q) h =
        let some : 0 < variable_of (literal_image m q) = subst (λ n. 0 < n) (sym (image_of m q)) (some_variable top m (variable_of q) one (not_zero (variable_of q) h)) in
        ne_eqb (variable_of (literal_image m q)) 0 (λ e. absurd (omega arith))

    there : (o : Option ℤ) → IsLemma (record { clause = image m lemma.clause; pivot = o }) → IfSome o (λ q. holds (image m lemma.clause) q ≡ true)
    there None h = tt
    there (Some q) h = h

-- an addition that is accepted in joint variables
inside_legal : (s : State) (seat : ℕ) (a : Addition) (x : Added) → IsReached s → IsPivot a.lemma → inside_reply s seat a ≡ Ok x → IsLegal s (inside_entry s seat a)
inside_legal s seat a x reached pivot ok = by (inside_line s seat a) refl
  where
    by : (r : Result Addition Refusal) → inside_line s seat a ≡ r → IsLegal s (inside_entry s seat a)
    by (Err e) is = let refused = inside_refused s seat a e (IsSound-reached s reached) is in absurd (let no : ⊥ = cc in no)
    by (Ok step) is =
        let sound = IsSound-reached s reached in
        let made = entered s seat a step is in
        subst (IsLegal s) (sym (entered_entry s seat a step made.0 sound made.1)) (entered_legal s seat a step made.0 sound pivot made.1)

left_is : (b : Bool) (r : Result Added Refusal) (x : Added) → if_left b r ≡ Ok x → (b ≡ true) × (r ≡ Ok x)
left_is b (Err e) x h = absurd (let no : ⊥ = cc in no)
left_is false (Ok y) x h = absurd (let no : ⊥ = cc in no)
left_is true (Ok y) x h = (refl, h)

module _ (s : NamedState) (reached : IsNamedReached s) where
  pub commit_legal : (r : ReceiptValue) (x : Added) → IsReceipt r → IsLemma r.lemma → named_commit s r ≡ Ok x → IsNamedLegal s (named_commit_entry s r)
  commit_legal r x receipt proper ok =
      let parts = passed (named_commit_refusal s r) (has_variables_for s r.seat r.lemma.clause) NoVariableLeft (commit_told (beneath s)) x ok in
      named_commit_legal s r reached (can_commit_named s r parts.0) receipt proper parts.1

  pub inside_so : (seat : ℕ) (a : Addition) (x : Added) → named_inside s seat a ≡ Ok x → (has_variables_for s seat a.lemma.clause ≡ true) × (inside_reply (beneath s) seat (addition_beneath s seat a) ≡ Ok x)
  inside_so seat a x ok = left_is (has_variables_for s seat a.lemma.clause) (inside_reply (beneath s) seat (addition_beneath s seat a)) x (sym (replies_are_beneath s seat a) ∙ ok)

  inside_can : (seat : ℕ) (a : Addition) (x : Added) → named_inside s seat a ≡ Ok x → CanBind (beneath s) seat a.number
  inside_can seat a x ok = by (free_refusal (beneath s) seat a.number) refl
    where
      by : (o : Option Refusal) → free_refusal (beneath s) seat a.number ≡ o → CanBind (beneath s) seat a.number
      by None is = can_bind (beneath s) seat a.number is
      by (Some e) is =
          let refused : named_inside s seat a ≡ Err e = ap (named_inside_after s seat) (taken_refused (beneath s) seat a e is) in
          absurd (let no : ⊥ = cc in no)

  pub inside_legal_named : (seat : ℕ) (a : Addition) (x : Added) → IsProper a.lemma → named_inside s seat a ≡ Ok x → IsNamedLegal s (named_inside_entry s seat a)
  inside_legal_named seat a x proper ok =
      let parts = inside_so seat a x ok in
      let one = (given_grows s (rules_reached s reached) seat a.lemma.clause (inside_can seat a x ok).here).0.rules.one_to_one seat in
      record {
        names = (proper.0, parts.0);
        legal = inside_legal (beneath s) seat (addition_beneath s seat a) x (beneath_is_reached s reached)
            (pivot_beneath (top_of s) (names_with s seat a.lemma.clause) a.lemma one proper) parts.1;
      }

  pub drop_legal : (seat : ℕ) (numbers : List ℕ) (x : Dropped) → named_drop s seat numbers ≡ Ok x → IsNamedLegal s (drop_entry (beneath s) seat numbers)
  drop_legal seat numbers x ok = record { names = tt; legal = record { here = here_is (is_here s.tables seat) _ x ok; deletes = refl } }

  pub leave_legal : (seat x : ℕ) → named_leave s seat ≡ Ok x → IsNamedLegal s (leave_entry (beneath s) seat)
  leave_legal seat x ok = record { names = tt; legal = record { here = here_is (is_here s.tables seat) _ x ok; deletes = refl } }

  -- what an accepted adoption says of its clause
  pub record IsAdoptable (seat own joint : ℕ) : Type 0 where
    pub can : CanBind (beneath s) seat own
    pub clause : LiteralSet
    pub lives : fin.get (live (beneath s)) joint ≡ Some clause
    pub own_clause : is_own (top_of s) s.variables seat clause ≡ true

  pub adoptable : (seat own joint x : ℕ) → named_adopt s seat own joint ≡ Ok x → IsAdoptable seat own joint
  adoptable seat own joint x ok = let parts = free_none (free_refusal (beneath s) seat own) _ x ok in by (fin.get (live (beneath s)) joint) refl parts.0 parts.1
    where
      by : (o : Option LiteralSet) → fin.get (live (beneath s)) joint ≡ o → free_refusal (beneath s) seat own ≡ None → adopted s seat o ≡ Ok x → IsAdoptable seat own joint
      by None at free h = absurd (let no : ⊥ = cc in no)
      by (Some c) at free h = record {
        can = can_bind (beneath s) seat own free;
        clause = c;
        lives = at;
        own_clause = (passed None (is_own (top_of s) s.variables seat c) PrivateVariable (length s.history) x h).1;
      }

  pub adopt_legal : (seat own joint x : ℕ) → named_adopt s seat own joint ≡ Ok x → IsNamedLegal s (adopt_entry seat own joint)
  adopt_legal seat own joint x ok =
      let a = adoptable seat own joint x ok in
      record {
        names = by (fin.get (live (beneath s)) joint) a.clause a.lives a.own_clause;
        legal = record { here = a.can.here; unbound = a.can.unbound; lives = ap is_some a.lives; stepless = refl };
      }
    where
      by : (o : Option LiteralSet) (c : LiteralSet) → o ≡ Some c → is_own (top_of s) s.variables seat c ≡ true → IsOwnLive s seat o
      by None c e own = absurd (let no : ⊥ = cc in no)
      by (Some d) c e own = let same : c ≡ d = cc in ap (is_own (top_of s) s.variables seat) (sym same) ∙ own

  -- what an accepted import says of its clause
  pub record IsImportable (seat own : ℕ) (c : LiteralSet) (joint : ℕ) : Type 0 where
    pub can : CanBind (beneath s) seat own
    pub named : is_named (top_of s) (names_of s seat) c ≡ true
    pub number : import_number (beneath s) (image (names_of s seat) c) ≡ Some joint
    pub capacity : is_some (import_step (beneath s) (image (names_of s seat) c)) ≡ true → addition_count (beneath s).history < s.max_steps

  pub importable : (seat own : ℕ) (c : LiteralSet) (x : Imported) → named_import s seat own c ≡ Ok x → IsImportable seat own c x.joint
  importable seat own c x ok =
      let parts = free_none (import_refusal s seat own c) _ x ok in
      let found = imported_is (beneath s) (image (names_of s seat) c) x parts.1 in
      let both = by (free_refusal (beneath s) seat own) (is_named (top_of s) (names_of s seat) c) parts.0 in
      record { can = can_bind (beneath s) seat own both.0; named = both.1; number = found.number; capacity = found.capacity }
    where
      by : (o : Option Refusal) (b : Bool) → or_private o b ≡ None → (o ≡ None) × (b ≡ true)
      by (Some e) b h = absurd (let no : ⊥ = cc in no)
      by None true h = (refl, refl)
      by None false h = absurd (let no : ⊥ = cc in no)

  pub import_legal : (seat own : ℕ) (c : LiteralSet) (x : Imported) → named_import s seat own c ≡ Ok x → IsNamedLegal s (named_import_entry s seat own c)
  import_legal seat own c x ok =
      let i = importable seat own c x ok in
      record {
        names = i.named;
        legal = record { here = i.can.here; unbound = i.can.unbound; finds = ap is_some i.number; capacity = i.capacity; asked = refl };
      }
