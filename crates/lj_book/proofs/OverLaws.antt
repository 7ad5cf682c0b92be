-- Books whose seats name variables as they like: what is read of them, and what a call of the book beneath leaves.
use Rattle.std.proofs.Common.{◌≡◌, ap, refl, sym, ◌∙◌, subst, ℕ, zero, suc, ◌+◌, ◌<◌, Bool, true, false}
use Rattle.std.specs.Prelude.{List, [], ◌∷◌, map, length, Option, Some, None, is_some, option_map, slice_get, not, if◌then◌else◌, Result, Ok, Err, OnOk, OnErr, IsErrAnd}
use Rattle.std.specs.List.{cons_option}
use Rattle.std.proofs.lemmas.Bool.{false≢true}
use Rattle.std.proofs.lemmas.Result.{on_ok_weaker}
use Rattle.std.specs.FinMap as fin
use Rattle.lj_clause.specs.LiteralSet.{LiteralSet}
use Rattle.lj_clause.specs.ClauseMap.{FormulaValue, names_up_to}
use Rattle.lj_clause.specs.Renaming.{Renaming, image, is_named, inverse}
use Rattle.lj_clause.proofs.Renaming.{renaming_laws}
use Rattle.lj_text.specs.declared.line.Addition.{Addition}
use Rattle.lj_hint.specs.declared.pair.Pair.{Pair}
use Rattle.lj_hint.specs.Case.{CaseValue}
use Rattle.lj_hint.specs.Images.{pair_image, hinted_image}
use Rattle.lj_book.specs.declared.entry.Entry.{Entry}
use Rattle.lj_book.specs.declared.refusal.Refusal.{Refusal}
use Rattle.lj_book.specs.declared.refusal.Refusal.TheVariants as refusals
use Rattle.lj_book.specs.declared.refusal.Refusal.TheVariants.{PrivateVariable, NoSuchClause}
use Rattle.lj_book.specs.State.{State, opening, live, steps_of, is_refutation, verdict_from}
use Rattle.lj_book.specs.History.{after_entry, IsReached}
use Rattle.lj_book.specs.Imports.{found, import_step}
use Rattle.lj_book.specs.Calls.{IsRefusal, IsReply, take_reply, free_refusal, if_free, adopt_entry, imported}
use Rattle.lj_book.specs.inner.Bindings.{adopt_reply, import_reply, import_entry}
use Rattle.lj_book.specs.Variables.{Variables, renaming_of, no_variables, is_own}
use Rattle.lj_book.specs.Named.{NamedState, top_of, names_of, own_entry, beneath, named_over, variables_behind, entry_beneath, after_named, IsOwnLive, NamesRightly, named_opening, IsNamedReached}
use Rattle.lj_book.specs.NamedViews.{take_image, named_take}
use Rattle.lj_book.specs.NamedEntries.{named_import_entry}
use Rattle.lj_book.specs.NamedReplies.{or_private, import_refusal, named_import}
use Rattle.lj_book.specs.inner.VariableTables.{TopVariables, variables_at}
use Rattle.lj_book.specs.inner.Over.{IsOver, is_private}
use Rattle.lj_book.proofs.NamedLaws.{rules_reached}
use Rattle.lj_book.proofs.InsideLaws.{refusal_passes}
use Rattle.lj_book.proofs.EnteringLaws.{legal_enters, taken_beneath_is_legal}

-- ---- what is read

pub under : (joint : State) (t : TopVariables) (s : NamedState) → IsOver joint t → named_over joint t.variables ≡ s → joint ≡ beneath s
under joint t s over is = sym over.below ∙ ap beneath is

pub over_top : (joint : State) (t : TopVariables) (s : NamedState) → IsOver joint t → named_over joint t.variables ≡ s → t.top ≡ top_of s
over_top joint t s over is = over.top ∙ ap top_of is

pub reached_over : (joint : State) (t : TopVariables) (s : NamedState) → IsOver joint t → named_over joint t.variables ≡ s → IsNamedReached s
reached_over joint t s over is = subst IsNamedReached is over.reached

pub got-over : (v : Variables) (es : List Entry) (k : ℕ) → slice_get (map (own_entry v) es) k ≡ option_map (own_entry v) (slice_get es k)
got-over v [] k = refl
got-over v (e ∷ es) zero = refl
got-over v (e ∷ es) (suc k) = got-over v es k

pub seat-over : (v : Variables) (es : List Entry) (k : ℕ) → option_map (λ (e : Entry). e.seat) (slice_get (map (own_entry v) es) k) ≡ option_map (λ (e : Entry). e.seat) (slice_get es k)
seat-over v es k = ap (option_map (λ (e : Entry). e.seat)) (got-over v es k) ∙ same (slice_get es k)
  where
    same : (o : Option Entry) → option_map (λ (e : Entry). e.seat) (option_map (own_entry v) o) ≡ option_map (λ (e : Entry). e.seat) o
    same None = refl
    same (Some e) = refl

pub verdict-over : (v : Variables) (n : ℕ) (es : List Entry) → verdict_from n (map (own_entry v) es) ≡ verdict_from n es
verdict-over v n [] = refl
verdict-over v n (e ∷ es) = ap (λ (o : Option ℕ). if is_refutation e.step then Some n else o) (verdict-over v (n + 1) es)

pub steps-over : (v : Variables) (es : List Entry) → steps_of (map (own_entry v) es) ≡ steps_of es
steps-over v [] = refl
steps-over v (e ∷ es) = ap (cons_option e.step) (steps-over v es)

pub entry-over : (joint : State) (t : TopVariables) (s : NamedState) → named_over joint t.variables ≡ s → (place : ℕ) → option_map (own_entry s.variables) (slice_get joint.history place) ≡ slice_get s.history place
entry-over joint t s is place =
    ap (λ (u : NamedState). option_map (own_entry u.variables) (slice_get joint.history place)) (sym is)
    ∙ sym (got-over t.variables joint.history place)
    ∙ ap (λ (u : NamedState). slice_get u.history place) is

-- ---- an entry more

-- What a book keeps whose book beneath took an entry, and whose variables are those behind it.
pub entered : (joint after : State) (t u : TopVariables) (e : Entry) → IsOver joint t → IsReached after
    → NamesRightly (named_over joint t.variables) e.seat e.call → after ≡ after_entry joint (entry_beneath (named_over joint t.variables) e)
    → u.top ≡ t.top → u.variables ≡ variables_behind (named_over joint t.variables) e.seat e.call
    → IsOver after u × (named_over after u.variables ≡ after_named (named_over joint t.variables) e)
entered joint after t u e over reached names is top given =
    let s : NamedState = named_over joint t.variables in
    let same : after ≡ after_entry (beneath s) (entry_beneath s e) = is ∙ ap (λ (j : State). after_entry j (entry_beneath s e)) (sym over.below) in
    let legal = taken_beneath_is_legal s e over.reached names (subst IsReached same reached) in
    let on = legal_enters s e over.reached legal in
    let whole : named_over after u.variables ≡ after_named s e = (λ i. named_over (same i) (given i)) ∙ on.over in (
      record {
        top = top ∙ over.top ∙ ap (λ (j : State). j.formula.variables) (sym is);
        reached = subst IsNamedReached (sym whole) on.reached;
        below = ap beneath whole ∙ on.joint ∙ sym same;
      },
      whole,
    )

-- the same by the answer of a call beneath that gives out no variable
module _ {A : Type 0} (r : Result A Refusal) (joint after : State) (t : TopVariables) (e : Entry) (over : IsOver joint t) (reached : IsReached after)
    (names : OnOk r (NamesRightly (named_over joint t.variables) e.seat e.call)) (behind : variables_behind (named_over joint t.variables) e.seat e.call ≡ t.variables)
    (ok : OnOk r (after ≡ after_entry joint (entry_beneath (named_over joint t.variables) e))) (err : OnErr r (after ≡ joint)) where
  pub over_answered : IsOver after t
  over_answered = go r names ok err
    where
      go : (q : Result A Refusal) → OnOk q (NamesRightly (named_over joint t.variables) e.seat e.call) → OnOk q (after ≡ after_entry joint (entry_beneath (named_over joint t.variables) e)) → OnErr q (after ≡ joint) → IsOver after t
      go (Ok x) n k none = (entered joint after t t e over reached n k refl (sym behind)).0
      go (Err x) n k same = subst (λ (j : State). IsOver j t) (sym same) over

  pub left_answered : OnOk r (named_over after t.variables ≡ after_named (named_over joint t.variables) e)
  left_answered = go r names ok
    where
      go : (q : Result A Refusal) → OnOk q (NamesRightly (named_over joint t.variables) e.seat e.call) → OnOk q (after ≡ after_entry joint (entry_beneath (named_over joint t.variables) e)) → OnOk q (named_over after t.variables ≡ after_named (named_over joint t.variables) e)
      go (Ok x) n k = (entered joint after t t e over reached n k refl (sym behind)).1
      go (Err x) n k = tt

-- ---- takes

map-stays : {A : Type 0} (f : A → A) → ((x : A) → f x ≡ x) → (xs : List A) → map f xs ≡ xs
map-stays f same [] = refl
map-stays f same (x ∷ xs) = λ i. same x i ∷ map-stays f same xs i

pair_stays : (p : Pair) → pair_image fin.empty p ≡ p
pair_stays p = λ i. record { joint = p.joint; clause = renaming_laws.nothing p.clause i }

hinted_stays : (g : Pair × List Pair) → hinted_image fin.empty g ≡ g
hinted_stays g = λ i. (pair_stays g.0 i, map-stays (pair_image fin.empty) pair_stays g.1 i)

-- a take in whose renaming no variable is
pub take_stays : (r : Result CaseValue Refusal) → take_image fin.empty r ≡ r
take_stays (Ok c) = λ i. Ok (record {
  seat = c.seat;
  own = c.own;
  lemma = c.lemma;
  hints = map-stays (pair_image fin.empty) pair_stays c.hints i;
  groups = map-stays (hinted_image fin.empty) hinted_stays c.groups i;
})
take_stays (Err e) = refl

module _ (joint : State) (t : TopVariables) (s : NamedState) (over : IsOver joint t) (is : named_over joint t.variables ≡ s) (seat : ℕ) (a : Addition) where
  pub take_renamed : take_image (inverse (renaming_of t.variables seat)) (take_reply joint seat a) ≡ named_take s seat a
  take_renamed = let below = under joint t s over is in λ i. take_image (inverse (names_of (is i) seat)) (take_reply (below i) seat a)

  pub take_unmoved : inverse (renaming_of t.variables seat) ≡ fin.empty → take_reply joint seat a ≡ named_take s seat a
  take_unmoved none = sym (take_stays (take_reply joint seat a)) ∙ ap (λ (m : Renaming). take_image m (take_reply joint seat a)) (sym none) ∙ take_renamed

  pub take_refused : (e : Refusal) → IsRefusal e (take_reply joint seat a) → IsRefusal e (named_take s seat a)
  take_refused e = refusal_passes e (take_reply joint seat a) (named_take s seat a) (λ x h. sym take_renamed ∙ ap (take_image (inverse (renaming_of t.variables seat))) h)

-- ---- adoptions

not_false : (b : Bool) → not b ≡ false → b ≡ true
not_false true h = refl
not_false false h = absurd (false≢true (sym h))

module _ (s : NamedState) (seat own joint : ℕ) where
  -- an adoption that is accepted beneath names rightly
  pub own_live : (place : ℕ) → is_private s seat (fin.get (live (beneath s)) joint) ≡ false → adopt_reply (beneath s) seat own joint ≡ Ok place → IsOwnLive s seat (fin.get (live (beneath s)) joint)
  own_live place private ok = by (fin.get (live (beneath s)) joint) (free_refusal (beneath s) seat own) private ok
    where
      by : (o : Option LiteralSet) (f : Option Refusal) → is_private s seat o ≡ false → if_free f (if is_some o then Ok (length (beneath s).history) else Err NoSuchClause) ≡ Ok place → IsOwnLive s seat o
      by None None h e = absurd (let no : ⊥ = cc in no)
      by None (Some x) h e = absurd (let no : ⊥ = cc in no)
      by (Some c) f h e = not_false (is_own (top_of s) s.variables seat c) h

-- ---- imports

or_named : (o : Option Refusal) → or_private o true ≡ o
or_named None = refl
or_named (Some e) = refl

module _ (s : NamedState) (seat own : ℕ) (c : LiteralSet) where
  pub named_so : (d : LiteralSet) → is_named (top_of s) (names_of s seat) c ≡ true → image (names_of s seat) c ≡ d → import_reply (beneath s) seat own d ≡ named_import s seat own c
  named_so d named is =
      let f : Option Refusal = free_refusal (beneath s) seat own in
      let free : f ≡ import_refusal s seat own c = sym (or_named f) ∙ ap (or_private f) (sym named) in
      let back : d ≡ image (names_of s seat) c = sym is in
      λ i. if_free (free i) (imported (beneath s) (found (beneath s) (back i)))

  pub within_named : IsNamedReached s → names_up_to (top_of s) c ≡ true → (is_named (top_of s) (names_of s seat) c ≡ true) × (image (names_of s seat) c ≡ c)
  within_named reached within = renaming_laws.unmoved (top_of s) (names_of s seat) c ((rules_reached s reached).variables.one_to_one seat) within

  pub refused_so : (e : Refusal) → import_refusal s seat own c ≡ Some e → named_import s seat own c ≡ Err e
  refused_so e is = ap (λ (o : Option Refusal). if_free o (imported (beneath s) (found (beneath s) (image (names_of s seat) c)))) is

-- ---- at the opening

pub opening_over : (f : FormulaValue) (seats max : ℕ) (joint : State) (t : TopVariables) → 0 < seats → joint ≡ opening f seats max → t ≡ variables_at f.variables (no_variables f.variables seats) → IsOver joint t
opening_over f seats max joint t some is given =
    let first : IsOver (opening f seats max) (variables_at f.variables (no_variables f.variables seats)) =
    record { top = refl; reached = record { seats = seats; some_seat = some; legal = tt; leads = refl }; below = refl } in
    subst (λ (j : State). IsOver j t) (sym is) (subst (λ (u : TopVariables). IsOver (opening f seats max) u) (sym given) first)

pub opened : (f : FormulaValue) (seats max : ℕ) (joint : State) (t : TopVariables) → joint ≡ opening f seats max → t ≡ variables_at f.variables (no_variables f.variables seats) → named_over joint t.variables ≡ named_opening f seats max
opened f seats max joint t is given = (λ i. named_over (is i) (given i).variables) ∙ refl

-- ---- answers

pub on_ok : {A : Type 0} {P : Type 0} (r : Result A Refusal) → P → OnOk r P
on_ok (Ok x) p = p
on_ok (Err e) p = tt

-- a refusal that is the reply is answered so
pub is_refusal : {A : Type 0} (e : Refusal) (r : Result A Refusal) → r ≡ Err e → IsRefusal e r
is_refusal (refusals.NoMemory m) r is = tt
is_refusal refusals.SeatGone r is = is
is_refusal refusals.NumberTaken r is = is
is_refusal (refusals.UnknownNumber n) r is = is
is_refusal (refusals.GroupRepeated n) r is = is
is_refusal (refusals.HintNotUnit n) r is = is
is_refusal refusals.EmptyOpen r is = is
is_refusal (refusals.MissingGroup n) r is = is
is_refusal (refusals.GroupStuck n place) r is = is
is_refusal (refusals.GroupOpen n) r is = is
is_refusal (refusals.Stale n) r is = is
is_refusal refusals.PrivateVariable r is = is
is_refusal refusals.NoSuchClause r is = is
is_refusal refusals.Full r is = is
is_refusal refusals.NoVariableLeft r is = is

-- a refusal that is passed on
pub passed_on : {A : Type 0} (r : Result A Refusal) (e : Refusal) (reply : Result A Refusal) → IsErrAnd r (λ y. y ≡ e) → IsRefusal e reply → IsReply r reply
passed_on (Ok x) e reply h is = absurd h
passed_on (Err y) e reply h is = subst (λ (x : Refusal). IsRefusal x reply) (sym h) is

-- what an adoption that was accepted beneath names
pub own_answered : (s : NamedState) (seat own joint : ℕ) (r : Result ℕ Refusal) → is_private s seat (fin.get (live (beneath s)) joint) ≡ false → IsReply r (adopt_reply (beneath s) seat own joint) → OnOk r (IsOwnLive s seat (fin.get (live (beneath s)) joint))
own_answered s seat own joint (Ok place) private is = own_live s seat own joint place private is
own_answered s seat own joint (Err e) private is = tt

-- ---- refusals of imports

pub unrefused_named : (s : NamedState) (seat own : ℕ) (c : LiteralSet) → import_refusal s seat own c ≡ None → is_named (top_of s) (names_of s seat) c ≡ true
unrefused_named s seat own c none = by (free_refusal (beneath s) seat own) (is_named (top_of s) (names_of s seat) c) none
  where
    by : (o : Option Refusal) (b : Bool) → or_private o b ≡ None → b ≡ true
    by (Some e) b h = absurd (let no : ⊥ = cc in no)
    by None true h = refl
    by None false h = absurd (let no : ⊥ = cc in no)

-- What an import is answered by the book beneath, by what its clause is there.
module _ (joint : State) (t : TopVariables) (s : NamedState) (over : IsOver joint t) (is : named_over joint t.variables ≡ s) (seat own : ℕ) (c d : LiteralSet)
    (named : is_named (top_of s) (names_of s seat) c ≡ true) (same : image (names_of s seat) c ≡ d) where
  pub import_alike : import_reply joint seat own d ≡ named_import s seat own c
  import_alike = ap (λ (j : State). import_reply j seat own d) (under joint t s over is) ∙ named_so s seat own c d named same

  named_there : is_named (top_of (named_over joint t.variables)) (names_of (named_over joint t.variables) seat) c ≡ true
  named_there = subst (λ (u : NamedState). is_named (top_of u) (names_of u seat) c ≡ true) (sym is) named

  image_there : image (names_of (named_over joint t.variables) seat) c ≡ d
  image_there = subst (λ (u : NamedState). image (names_of u seat) c ≡ d) (sym is) same

  -- the step that it takes
  pub step_alike : import_step joint d ≡ (named_import_entry s seat own c).step
  step_alike = (λ i. import_step (under joint t s over is i) (sym same i)) ∙ refl

  module _ {A : Type 0} (r : Result A Refusal) (after : State) (legal : IsReached after) (ok : OnOk r (after ≡ after_entry joint (import_entry joint seat own d))) (err : OnErr r (after ≡ joint)) where
    entered_so : OnOk r (after ≡ after_entry joint (entry_beneath (named_over joint t.variables) (named_import_entry (named_over joint t.variables) seat own c)))
    entered_so = on_ok_weaker r (λ e. e ∙ (λ i. after_entry joint (import_entry (sym over.below i) seat own (sym image_there i)))) ok

    pub import_over : IsOver after t
    import_over = over_answered r joint after t (named_import_entry (named_over joint t.variables) seat own c) over legal (on_ok r named_there) refl entered_so err

    pub import_left : OnOk r (named_over after t.variables ≡ after_named s (named_import_entry s seat own c))
    import_left = on_ok_weaker r (λ e. e ∙ ap (λ (u : NamedState). after_named u (named_import_entry u seat own c)) is) (left_answered r joint after t (named_import_entry (named_over joint t.variables) seat own c) over legal (on_ok r named_there) refl entered_so err)

-- What an adoption is answered by the book beneath, where its clause is the seat's own.
module _ (joint : State) (t : TopVariables) (s : NamedState) (over : IsOver joint t) (is : named_over joint t.variables ≡ s) (seat own number : ℕ)
    (private : is_private s seat (fin.get (live (beneath s)) number) ≡ false) where
  module _ (r : Result ℕ Refusal) (after : State) (legal : IsReached after) (reply : IsReply r (adopt_reply joint seat own number)) (ok : OnOk r (after ≡ after_entry joint (adopt_entry seat own number))) (err : OnErr r (after ≡ joint)) where
    lives : OnOk r (IsOwnLive (named_over joint t.variables) seat (fin.get (live (beneath (named_over joint t.variables))) number))
    lives = subst (λ (u : NamedState). OnOk r (IsOwnLive u seat (fin.get (live (beneath u)) number))) (sym is)
        (own_answered s seat own number r private (subst (λ (j : State). IsReply r (adopt_reply j seat own number)) (under joint t s over is) reply))

    pub adopt_over : IsOver after t
    adopt_over = over_answered r joint after t (adopt_entry seat own number) over legal lives refl ok err
