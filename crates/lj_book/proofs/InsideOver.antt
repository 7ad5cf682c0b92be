-- An addition inside by the book in joint variables, and by the one over it.
use Rattle.std.proofs.Common.{◌≡◌, ap, refl, sym, ◌∙◌, subst, ℕ, ◌+◌, ◌<◌, ◌≤◌, Bool, cond, true, false, length}
use Rattle.std.specs.Prelude.{nat_le, Some, None, OnOk, OnErr, Result, Ok, Err}
use Rattle.std.proofs.lemmas.Bool.{and_parts, le-leb}
use Rattle.std.proofs.lemmas.Result.{on_ok_weaker, on_err_weaker}
use Rattle.lj_clause.specs.declared.lit.TheConstants.{MAX_VARIABLE}
use Rattle.lj_clause.specs.LiteralSet.{LiteralSet}
use Rattle.lj_clause.specs.Lemma.{IsLemma}
use Rattle.lj_clause.specs.ClauseMap.{IsFormula}
use Rattle.lj_clause.specs.Renaming.{is_named}
use Rattle.lj_text.specs.declared.line.Addition.{Addition}
use Rattle.lj_book.specs.declared.entry.Added.{Added}
use Rattle.lj_book.specs.declared.entry.Entry.{Entry}
use Rattle.lj_book.specs.declared.refusal.Refusal.{Refusal}
use Rattle.lj_book.specs.Variables.{Variables, IsVariables, renaming_of, given}
use Rattle.lj_book.specs.State.{State}
use Rattle.lj_book.specs.History.{after_entry, IsReached}
use Rattle.lj_book.specs.declared.entry.Call.TheVariants as calls
use Rattle.lj_book.specs.Calls.{take_reply, free_refusal}
use Rattle.lj_book.specs.Inside.{inside_reply, inside_step, inside_entry}
use Rattle.lj_book.specs.Named.{NamedState, beneath, named_over, given_in, has_variables_for, after_named}
use Rattle.lj_book.specs.NamedReplies.{named_inside_after, named_inside}
use Rattle.lj_book.specs.NamedViews.{addition_beneath}
use Rattle.lj_book.specs.NamedInside.{if_left, named_inside_entry}
use Rattle.lj_book.specs.inner.VariableTables.{TopVariables, variables_at, variables_before, are_left}
use Rattle.lj_book.specs.inner.JointForms.{joint_form, with_call, is_unmoved, is_settled}
use Rattle.lj_book.specs.inner.Limits.{limit_reply}
use Rattle.lj_book.specs.inner.Over.{IsOver, IsOverAfter}
use Rattle.lj_book.proofs.TableLaws.{here_in_range}
use Rattle.lj_book.proofs.BindingLaws.{can_bind}
use Rattle.lj_book.proofs.InsideLaws.{taken_refused}
use Rattle.lj_book.proofs.GivenBack.{given_taken_back}
use Rattle.lj_book.proofs.GivenLaws.{named_gives_nothing}
use Rattle.lj_book.proofs.JointFormLaws.{unmoved_form}
use Rattle.lj_book.proofs.NamedLaws.{rules_reached}
use Rattle.lj_book.proofs.NamedInsideLaws.{replies_are_beneath}
use Rattle.lj_book.proofs.LimitReplies.{replied_at_limit}
use Rattle.lj_book.proofs.OverLaws.{entered}

-- ---- by what the book beneath answers

module _ (joint : State) (t : TopVariables) (over : IsOver joint t) (seat : ℕ) (a : Addition) (lemma : IsLemma a.lemma) where
  abbrev s : NamedState
  s = named_over joint t.variables

  abbrev below : Addition
  below = addition_beneath s seat a

  rules : IsVariables t.top t.variables
  rules = subst (λ (n : ℕ). IsVariables n t.variables) (sym over.top) (rules_reached s over.reached).variables

  -- where enough are left, the reply is that of the book beneath
  pub same_reply : has_variables_for s seat a.lemma.clause ≡ true → inside_reply joint seat below ≡ named_inside s seat a
  same_reply enough =
      ap (λ (j : State). inside_reply j seat below) (sym over.below)
      ∙ left (inside_reply (beneath s) seat below)
      ∙ sym (ap (λ b. if_left b (inside_reply (beneath s) seat below)) enough)
      ∙ sym (replies_are_beneath s seat a)
    where
      left : (r : Result Added Refusal) → r ≡ if_left true r
      left (Ok x) = refl
      left (Err e) = refl

  -- where too few are left, it is that of the limit
  pub same_limit : IsFormula joint.formula → has_variables_for s seat a.lemma.clause ≡ false → limit_reply joint t seat a ≡ named_inside s seat a
  same_limit is none =
      (λ i. limit_reply (sym over.below i) (variables_at (over.top i) t.variables) seat a)
      ∙ sym (replied_at_limit s is over.reached seat a lemma none)

  pub entered_so : (after : State) (u : TopVariables) → has_variables_for s seat a.lemma.clause ≡ true → IsReached after → after ≡ after_entry joint (inside_entry joint seat below)
      → u.top ≡ t.top → u.variables ≡ given_in s seat a.lemma.clause → IsOverAfter s (named_inside_entry s seat a) after u
  entered_so after u enough reached is top given =
      let both = entered joint after t u (named_inside_entry s seat a) over reached (lemma, enough)
      (is ∙ ap (λ (j : State). after_entry joint (inside_entry j seat below)) (sym over.below)) top given in
      record { over = both.0; leaves = both.1 }

  -- a lemma whose variables stay
  abbrev Settled : Type 0
  Settled = is_settled t.top (renaming_of t.variables seat) a.lemma.clause ≡ true

  pub settled_so : Settled → (below ≡ a) × (given_in s seat a.lemma.clause ≡ t.variables)
  settled_so settled =
      let parts = and_parts (is_named t.top (renaming_of t.variables seat) a.lemma.clause) (is_unmoved (renaming_of t.variables seat) a.lemma.clause) settled in
      let none : given_in s seat a.lemma.clause ≡ t.variables = (λ i. given (sym over.top i) t.variables seat a.lemma.clause) ∙ named_gives_nothing t.top t.variables seat a.lemma.clause parts.0 in
      ((λ i. joint_form (none i) seat a) ∙ unmoved_form t.variables seat a lemma parts.1, none)

  pub settled_enough : Settled → t.variables.next ≤ MAX_VARIABLE + 1 → has_variables_for s seat a.lemma.clause ≡ true
  settled_enough settled few = ap (λ (v : Variables). nat_le v.next (MAX_VARIABLE + 1)) (settled_so settled).1 ∙ le-leb t.variables.next (MAX_VARIABLE + 1) few

  pub settled_reply : Settled → t.variables.next ≤ MAX_VARIABLE + 1 → inside_reply joint seat a ≡ named_inside s seat a
  settled_reply settled few = ap (inside_reply joint seat) (sym (settled_so settled).0) ∙ same_reply (settled_enough settled few)

  pub settled_entry : Settled → inside_entry joint seat a ≡ named_inside_entry s seat a
  settled_entry settled =
      ap (inside_entry joint seat) (sym (settled_so settled).0)
      ∙ (λ i. record { seat = seat; call = calls.Add a.number ((settled_so settled).0 i).lemma; step = inside_step (sym over.below i) (take_reply (sym over.below i) seat below) })

  pub settled_entered : (after : State) → Settled → t.variables.next ≤ MAX_VARIABLE + 1 → IsReached after → after ≡ after_entry joint (inside_entry joint seat a) → IsOverAfter s (named_inside_entry s seat a) after t
  settled_entered after settled few reached is =
      entered_so after t (settled_enough settled few) reached (is ∙ ap (λ (b : Addition). after_entry joint (inside_entry joint seat b)) (sym (settled_so settled).0)) refl (sym (settled_so settled).1)

  -- what the table gives
  as_left : (b : Bool) → b ≡ are_left t.top t.variables seat a.lemma.clause → has_variables_for s seat a.lemma.clause ≡ b
  as_left b e = sym (e ∙ ap (λ n. are_left n t.variables seat a.lemma.clause) over.top)

  -- what it leaves, by the answer that it gave for a clause that is the lemma's
  module _ (u : TopVariables) (c : LiteralSet) (left : Bool) (is : c ≡ a.lemma.clause) (are : left ≡ are_left t.top t.variables seat c)
      (gives : u ≡ cond left (variables_at t.top (given t.top t.variables seat c)) t) where
    pub given_out : left ≡ true → (has_variables_for s seat a.lemma.clause ≡ true) × (u ≡ variables_at t.top (given t.top t.variables seat a.lemma.clause))
    given_out on = (
      as_left true (sym on ∙ are ∙ ap (are_left t.top t.variables seat) is),
      gives ∙ (λ i. cond (on i) (variables_at t.top (given t.top t.variables seat (is i))) t),
    )

    pub none_given : left ≡ false → (has_variables_for s seat a.lemma.clause ≡ false) × (u ≡ t)
    none_given off = (
      as_left false (sym off ∙ are ∙ ap (are_left t.top t.variables seat) is),
      gives ∙ ap (λ (b : Bool). cond b (variables_at t.top (given t.top t.variables seat c)) t) off,
    )

  module _ (u : TopVariables) (enough : has_variables_for s seat a.lemma.clause ≡ true) (gave : u ≡ variables_at t.top (given t.top t.variables seat a.lemma.clause)) where
    given_is : u.variables ≡ given_in s seat a.lemma.clause
    given_is = ap (λ (w : TopVariables). w.variables) gave ∙ ap (λ n. given n t.variables seat a.lemma.clause) over.top

    pub form_is : joint_form u.variables seat a ≡ below
    form_is = ap (λ (v : Variables). joint_form v seat a) given_is

    pub given_reply : inside_reply joint seat (joint_form u.variables seat a) ≡ named_inside s seat a
    given_reply = ap (inside_reply joint seat) form_is ∙ same_reply enough

    pub given_entry : with_call (calls.Add a.number a.lemma) (inside_entry joint seat (joint_form u.variables seat a)) ≡ named_inside_entry s seat a
    given_entry =
        ap (λ (b : Addition). with_call (calls.Add a.number a.lemma) (inside_entry joint seat b)) form_is
        ∙ ap (λ (j : State). with_call (calls.Add a.number a.lemma) (inside_entry j seat below)) (sym over.below)

    pub given_entered : (after : State) → IsReached after → after ≡ after_entry joint (inside_entry joint seat (joint_form u.variables seat a)) → IsOverAfter s (named_inside_entry s seat a) after u
    given_entered after reached is =
        entered_so after u enough reached (is ∙ ap (λ (b : Addition). after_entry joint (inside_entry joint seat b)) form_is) (ap (λ (w : TopVariables). w.top) gave) given_is

    pub taken_back : (before : ℕ) (w : TopVariables) → before ≡ t.variables.next → w ≡ variables_at u.top (variables_before before u.variables) → w ≡ t
    taken_back before w next is =
        is ∙ (λ i. variables_at (gave i).top (variables_before (next i) (gave i).variables))
        ∙ ap (variables_at t.top) (given_taken_back t.top t.variables seat a.lemma.clause rules)

  -- what a number that isn't free is refused by
  pub refused_at_once : (e : Refusal) → free_refusal joint seat a.number ≡ Some e → named_inside s seat a ≡ Err e
  refused_at_once e is = ap (named_inside_after s seat) (taken_refused (beneath s) seat a e (ap (λ (j : State). free_refusal j seat a.number) over.below ∙ is))

  -- a seat whose number is free is one that may be given variables
  pub seat_within : free_refusal joint seat a.number ≡ None → seat < length t.variables.of_seats
  seat_within free = subst (λ n. seat < n) (sym (rules_reached s over.reached).seats) (here_in_range joint.tables seat (can_bind joint seat a.number free).here)

-- ---- a book by its parts

module _ {A : Type 0} (r : Result A Refusal) (j k : State) (t u : TopVariables) (e : Entry) (over : IsOver j t)
    (ok : OnOk r (IsOverAfter (named_over j t.variables) e k u)) (err : OnErr r ((k ≡ j) × (u ≡ t))) where
  pub over_either : IsOver k u
  over_either = go r ok err
    where
      go : (q : Result A Refusal) → OnOk q (IsOverAfter (named_over j t.variables) e k u) → OnErr q ((k ≡ j) × (u ≡ t)) → IsOver k u
      go (Ok x) after same = after.over
      go (Err x) after same = subst (λ (v : TopVariables). IsOver k v) (sym same.1) (subst (λ (i : State). IsOver i t) (sym same.0) over)

  pub left_either : OnOk r (named_over k u.variables ≡ after_named (named_over j t.variables) e)
  left_either = on_ok_weaker r (λ (after : IsOverAfter (named_over j t.variables) e k u). after.leaves) ok

  pub same_either : OnErr r (named_over k u.variables ≡ named_over j t.variables)
  same_either = on_err_weaker r (λ (same : (k ≡ j) × (u ≡ t)). (λ i. named_over (same.0 i) (same.1 i).variables)) err
