-- An addition that closes by what its seat sees, by the book in joint variables and by the one over it.
use Rattle.std.proofs.Common.{◌≡◌, ap, refl, sym, ◌∙◌, subst, ℕ, ◌<◌, ◌≤◌, Bool, cond, true, false, length, arith}
use Rattle.std.specs.Prelude.{nat_lt, [], Ok, Err}
use Rattle.std.proofs.lemmas.Bool.Decides.{nat_tests}
use Rattle.lj_clause.specs.Lemma.{IsLemma}
use Rattle.lj_clause.specs.ClauseMap.{IsFormula}
use Rattle.lj_text.specs.declared.line.Addition.{Addition}
use Rattle.lj_book.specs.declared.refusal.Refusal.{Refusal}
use Rattle.lj_book.specs.declared.refusal.Refusal.TheVariants.{Full, NoVariableLeft}
use Rattle.lj_book.specs.Variables.{renaming_of, given}
use Rattle.lj_book.specs.State.{State, addition_count, next, live}
use Rattle.lj_book.specs.History.{IsReached}
use Rattle.lj_book.specs.Calls.{IsRefusal, commit_told}
use Rattle.lj_book.specs.Inside.{inside_reply}
use Rattle.lj_book.specs.Solo.{view_of}
use Rattle.lj_book.specs.Views.{IsClosedAlone}
use Rattle.lj_book.specs.Named.{NamedState, named_over, has_variables_for}
use Rattle.lj_book.specs.NamedReplies.{named_inside}
use Rattle.lj_book.specs.NamedViews.{named_view, addition_beneath}
use Rattle.lj_book.specs.NamedInside.{if_left}
use Rattle.lj_book.specs.inner.JointLines.{addition_of_parts}
use Rattle.lj_book.specs.inner.JointForms.{joint_form, is_settled}
use Rattle.lj_book.specs.inner.VariableTables.{TopVariables, variables_at}
use Rattle.lj_book.specs.inner.Over.{IsOver}
use Rattle.lj_book.proofs.HistoryLaws.{IsSound, IsSound-reached}
use Rattle.lj_book.proofs.InsideLaws.{parts_passed, line_replied, inside_refused}
use Rattle.lj_book.proofs.ClosedLemmas.{IsClosedHere, closed_here, closed_full}
use Rattle.lj_book.proofs.NamedLaws.{beneath_is_reached}
use Rattle.lj_book.proofs.NamedInsideLaws.{replies_are_beneath}
use Rattle.lj_book.proofs.DecidedBeneath.{closed_so}
use Rattle.lj_book.proofs.OverLaws.{is_refusal}
use Rattle.lj_book.proofs.InsideOver.{settled_so, form_is, seat_within}

-- ---- the reply to an addition that closes

closed_told : (s : State) (seat : ℕ) (a : Addition) (read : ℕ) → IsSound s → IsClosedHere s seat a read → inside_reply s seat a ≡ cond (nat_lt (addition_count s.history) s.max_steps) (Ok (commit_told s)) (Err Full)
closed_told s seat a read sound here = by (nat_lt (addition_count s.history) s.max_steps) refl
  where
    below : (n m : ℕ) → nat_lt n m ≡ true → n < m
    below n m e = grind (arith, nat_tests)

    above : (n m : ℕ) → nat_lt n m ≡ false → m ≤ n
    above n m e = grind (arith, nat_tests)

    by : (b : Bool) → nat_lt (addition_count s.history) s.max_steps ≡ b → inside_reply s seat a ≡ cond b (Ok (commit_told s)) (Err Full)
    by true e =
        let step : Addition = addition_of_parts (next s) a.lemma (here.hints, []) in
        line_replied s seat a step sound (parts_passed (live s) s seat a step refl here.free here.tested (below (addition_count s.history) s.max_steps e))
    by false e = inside_refused s seat a Full sound (closed_full s seat a read here (above (addition_count s.history) s.max_steps e))

-- ---- by what the seat sees

module _ (joint : State) (t : TopVariables) (over : IsOver joint t) (seat : ℕ) (a : Addition) (lemma : IsLemma a.lemma)
    (is : IsFormula joint.formula) (read : ℕ) (closed : IsClosedAlone (named_view (named_over joint t.variables) seat) seat a read) where
  abbrev s : NamedState
  s = named_over joint t.variables

  abbrev below : Addition
  below = addition_beneath s seat a

  -- it closes in the book beneath
  closed_below : IsClosedAlone (view_of joint seat) seat below read
  closed_below = subst (λ (j : State). IsClosedAlone (view_of j seat) seat below read) over.below ((closed_so s seat a read is over.reached).0 closed)

  sound : IsSound joint
  sound = IsSound-reached joint (subst (λ (j : State). IsReached j) over.below (beneath_is_reached s over.reached))

  here_below : IsClosedHere joint seat below read
  here_below = closed_here joint seat below read sound closed_below

  pub closed_settled : is_settled t.top (renaming_of t.variables seat) a.lemma.clause ≡ true → IsClosedAlone (view_of joint seat) seat a read
  closed_settled settled = subst (λ (b : Addition). IsClosedAlone (view_of joint seat) seat b read) (settled_so joint t over seat a lemma settled).0 closed_below

  pub closed_seat : seat < length t.variables.of_seats
  closed_seat = seat_within joint t over seat a lemma here_below.free

  pub closed_given : (u : TopVariables) → has_variables_for s seat a.lemma.clause ≡ true → u ≡ variables_at t.top (given t.top t.variables seat a.lemma.clause) → IsClosedAlone (view_of joint seat) seat (joint_form u.variables seat a) read
  closed_given u enough gave = subst (λ (b : Addition). IsClosedAlone (view_of joint seat) seat b read) (sym (form_is joint t over seat a lemma u enough gave)) closed_below

  -- where too few joint variables are left
  pub closed_limit : (e : Refusal) → has_variables_for s seat a.lemma.clause ≡ false → e ≡ cond (nat_lt (addition_count joint.history) joint.max_steps) NoVariableLeft Full → IsRefusal e (named_inside s seat a)
  closed_limit e none which =
      is_refusal e (named_inside s seat a)
      (replies_are_beneath s seat a
      ∙ (λ i. if_left (none i) (inside_reply (over.below i) seat below))
      ∙ ap (if_left false) (closed_told joint seat below read sound here_below)
      ∙ by (nat_lt (addition_count joint.history) joint.max_steps)
      ∙ ap Err (sym which))
    where
      by : (b : Bool) → if_left false (cond b (Ok (commit_told joint)) (Err Full)) ≡ Err (cond b NoVariableLeft Full)
      by true = refl
      by false = refl
