-- The reply to an addition that needs more joint variables than are left.
use Rattle.std.proofs.Common.{◌≡◌, ap, refl, sym, ◌∙◌, subst, ℕ, ◌<◌, Bool, cond, true, false, length}
use Rattle.std.specs.Prelude.{nat_lt, List, [], ◌∷◌, Option, Some, None, Result, Ok, Err}
use Rattle.lj_clause.specs.Lemma.{LemmaValue, IsLemma}
use Rattle.lj_clause.specs.ClauseMap.{IsFormula}
use Rattle.lj_clause.specs.Rat.{HintGroup}
use Rattle.lj_clause.specs.Renaming.{lemma_image}
use Rattle.lj_text.specs.declared.line.Addition.{Addition}
use Rattle.lj_text.specs.Steps.{first_propagation, recorded_form}
use Rattle.lj_book.specs.declared.refusal.Refusal.{Refusal}
use Rattle.lj_book.specs.declared.refusal.Refusal.TheVariants as refusals
use Rattle.lj_book.specs.Tables.{is_here, is_bound, joint_of}
use Rattle.lj_book.specs.Variables.{renaming_of}
use Rattle.lj_book.specs.State.{State, addition_count, next, live}
use Rattle.lj_book.specs.Calls.{repeated_after, free_refusal, if_free, unless_refused, commit_told}
use Rattle.lj_book.specs.Inside.{propagation_refusal, or_full, inside_reply}
use Rattle.lj_book.specs.Named.{NamedState, top_of, names_of, beneath, given_in, has_variables_for, IsNamedReached}
use Rattle.lj_book.specs.NamedReplies.{named_inside}
use Rattle.lj_book.specs.NamedViews.{addition_beneath}
use Rattle.lj_book.specs.NamedInside.{if_left}
use Rattle.lj_book.specs.inner.JointLines.{LineParts, if_bound, with_joint, joints_in, with_joint_group, joint_groups_in, parts_with, joint_parts, addition_of_parts, line_by}
use Rattle.lj_book.specs.inner.VariableTables.{variables_at}
use Rattle.lj_book.specs.inner.Limits.{known_lemma, closes_at_once, is_new, is_lifted, limit_refusal, whole_reply, limit_reply}
use Rattle.lj_book.proofs.TableLaws.{here_in_range}
use Rattle.lj_book.proofs.BindingLaws.{can_bind}
use Rattle.lj_book.proofs.HistoryLaws.{IsSound-reached}
use Rattle.lj_book.proofs.InsideLaws.{told_by, inside_told}
use Rattle.lj_book.proofs.NamedLaws.{rules_reached, beneath_is_reached}
use Rattle.lj_book.proofs.NamedInsideLaws.{replies_are_beneath}
use Rattle.lj_book.proofs.LimitLaws.{limited}

-- ---- what is refused before the test isn't lifted

module _ (closes new : Bool) where
  abbrev Stays : {A : Type 0} → Result A Refusal → Type 0
  Stays (Ok x) = Unit {0}
  Stays (Err e) = is_lifted closes new e ≡ false

  joints_stay : (joint : ℕ → Option ℕ) (owns : List ℕ) → Stays (joints_in joint owns)
  joints_stay joint [] = tt
  joints_stay joint (own ∷ owns) = by (joint own) (joints_in joint owns) (joints_stay joint owns)
    where
      more : (j : ℕ) (r : Result (List ℕ) Refusal) → Stays r → Stays (with_joint j r)
      more j (Ok js) h = tt
      more j (Err e) h = h

      by : (o : Option ℕ) (r : Result (List ℕ) Refusal) → Stays r → Stays (if_bound own o (λ j. with_joint j r))
      by None r h = refl
      by (Some j) r h = more j r h

  groups_stay : (joint : ℕ → Option ℕ) (gs : List HintGroup) → Stays (joint_groups_in joint gs)
  groups_stay joint [] = tt
  groups_stay joint (g ∷ gs) = by (joint g.candidate) (joints_in joint g.hints) (joints_stay joint g.hints) (joint_groups_in joint gs) (groups_stay joint gs)
    where
      more : (j : ℕ) (hs : Result (List ℕ) Refusal) → Stays hs → (r : Result (List HintGroup) Refusal) → Stays r → Stays (with_joint_group j hs r)
      more j (Err e) h r k = h
      more j (Ok hs) h (Err e) k = k
      more j (Ok hs) h (Ok gs) k = tt

      by : (o : Option ℕ) (hs : Result (List ℕ) Refusal) → Stays hs → (r : Result (List HintGroup) Refusal) → Stays r → Stays (if_bound g.candidate o (λ j. with_joint_group j hs r))
      by None hs h r k = refl
      by (Some j) hs h r k = more j hs h r k

  parts_stay : (joint : ℕ → Option ℕ) (a : Addition) → Stays (joint_parts joint a)
  parts_stay joint a = by (repeated_after joint [] a.groups) (joints_in joint a.hints) (joints_stay joint a.hints) (joint_groups_in joint a.groups) (groups_stay joint a.groups)
    where
      by : (rep : Option ℕ) (hs : Result (List ℕ) Refusal) → Stays hs → (gs : Result (List HintGroup) Refusal) → Stays gs → Stays (parts_with rep hs gs)
      by rep (Err e) h gs k = h
      by rep (Ok hs) h (Err e) k = k
      by None (Ok hs) h (Ok gs) k = tt
      by (Some own) (Ok hs) h (Ok gs) k = refl

-- ---- the reply by the lines

module _ (s : State) (closes new : Bool) (sparse dense : LemmaValue) where
  abbrev refused : LemmaValue → LineParts → Option Refusal
  refused l parts = propagation_refusal (live s) (addition_of_parts (next s) l parts) (first_propagation (live s) (addition_of_parts (next s) l parts))

  by_refusal : (step : Addition) (r : Option Refusal) (capacity : Bool) → nat_lt (addition_count s.history) s.max_steps ≡ capacity
      → unless_refused (or_full s (limit_refusal closes new r)) (commit_told s) ≡ whole_reply s closes new (unless_refused (or_full s r) step)
  by_refusal step None true e =
      ap (λ b. unless_refused (cond b None (Some refusals.Full)) (commit_told s)) e
      ∙ sym (ap (λ b. whole_reply s closes new (unless_refused (cond b None (Some refusals.Full)) step)) e)
  by_refusal step None false e =
      ap (λ b. unless_refused (cond b None (Some refusals.Full)) (commit_told s)) e
      ∙ sym (ap (λ b. whole_reply s closes new (unless_refused (cond b None (Some refusals.Full)) step)) e)
  by_refusal step (Some x) capacity e = lifted (is_lifted closes new x) refl
    where
      full : (b : Bool) → unless_refused (cond b None (Some refusals.Full)) (commit_told s) ≡ cond b (Ok (commit_told s)) (Err refusals.Full)
      full true = refl
      full false = refl

      lifted : (b : Bool) → is_lifted closes new x ≡ b → unless_refused (or_full s (limit_refusal closes new (Some x))) (commit_told s) ≡ whole_reply s closes new (Err x)
      lifted true h =
          ap (λ b. unless_refused (or_full s (cond b None (Some x))) (commit_told s)) h
          ∙ full (nat_lt (addition_count s.history) s.max_steps)
          ∙ sym (ap (λ b. cond b (cond (nat_lt (addition_count s.history) s.max_steps) (Ok (commit_told s)) (Err refusals.Full)) (Err x)) h)
      lifted false h =
          ap (λ b. unless_refused (or_full s (cond b None (Some x))) (commit_told s)) h
          ∙ sym (ap (λ b. cond b (cond (nat_lt (addition_count s.history) s.max_steps) (Ok (commit_told s)) (Err refusals.Full)) (Err x)) h)

  by_parts : (r : Result LineParts Refusal) → Stays closes new r → ((parts : LineParts) → refused sparse parts ≡ limit_refusal closes new (refused dense parts))
      → told_by s sparse r ≡ whole_reply s closes new (line_by s dense r)
  by_parts (Err e) stays go = sym (ap (λ b. cond b (cond (nat_lt (addition_count s.history) s.max_steps) (Ok (commit_told s)) (Err refusals.Full)) (Err e)) stays)
  by_parts (Ok parts) stays go =
      ap (λ o. unless_refused (or_full s o) (commit_told s)) (go parts)
      ∙ by_refusal (recorded_form (live s) (addition_of_parts (next s) dense parts)) (refused dense parts) (nat_lt (addition_count s.history) s.max_steps) refl

free_stays : (s : State) (closes new : Bool) (seat own : ℕ) (e : Refusal) → free_refusal s seat own ≡ Some e → is_lifted closes new e ≡ false
free_stays s closes new seat own e h = by (is_here s.tables seat) (is_bound s.tables seat own) h
  where
    by : (here bound : Bool) → cond here (cond bound (Some refusals.NumberTaken) None) (Some refusals.SeatGone) ≡ Some e → is_lifted closes new e ≡ false
    by true true h = let same : refusals.NumberTaken ≡ e = cc in sym (ap (is_lifted closes new) same)
    by true false h = absurd (let no : ⊥ = cc in no)
    by false bound h = let same : refusals.SeatGone ≡ e = cc in sym (ap (is_lifted closes new) same)

-- Where too few joint variables are left, the reply is told by the literals that have joint forms.
pub replied_at_limit : (s : NamedState) → IsFormula s.formula → IsNamedReached s → (seat : ℕ) (a : Addition) → IsLemma a.lemma → has_variables_for s seat a.lemma.clause ≡ false
    → named_inside s seat a ≡ limit_reply (beneath s) (variables_at (top_of s) s.variables) seat a
replied_at_limit s is reached seat a lemma none =
    replies_are_beneath s seat a
    ∙ ap (λ b. if_left b (inside_reply t seat (addition_beneath s seat a))) none
    ∙ ap (if_left false) (inside_told t seat (addition_beneath s seat a) (IsSound-reached t (beneath_is_reached s reached)) ∙ by (free_refusal t seat a.number) refl)
  where
    t : State
    t = beneath s

    closes : Bool
    closes = closes_at_once (top_of s) (names_of s seat) a.lemma.clause

    new : Bool
    new = is_new (top_of s) (names_of s seat) a.lemma.pivot

    sparse : LemmaValue
    sparse = lemma_image (renaming_of (given_in s seat a.lemma.clause) seat) a.lemma

    dense : LemmaValue
    dense = known_lemma (top_of s) (names_of s seat) a.lemma

    within : free_refusal t seat a.number ≡ None → seat < length s.variables.of_seats
    within e = subst (λ n. seat < n) (sym (rules_reached s reached).seats) (here_in_range s.tables seat (can_bind t seat a.number e).here)

    by : (o : Option Refusal) → free_refusal t seat a.number ≡ o
        → if_free (free_refusal t seat a.number) (told_by t sparse (joint_parts (joint_of s.tables seat) a))
        ≡ whole_reply t closes new (if_free (free_refusal t seat a.number) (line_by t dense (joint_parts (joint_of s.tables seat) a)))
    by (Some e) f =
        ap (λ o. if_free o (told_by t sparse (joint_parts (joint_of s.tables seat) a))) f
        ∙ sym (ap (λ b. cond b (cond (nat_lt (addition_count t.history) t.max_steps) (Ok (commit_told t)) (Err refusals.Full)) (Err e)) (free_stays t closes new seat a.number e f))
        ∙ sym (ap (λ o. whole_reply t closes new (if_free o (line_by t dense (joint_parts (joint_of s.tables seat) a)))) f)
    by None f =
        ap (λ o. if_free o (told_by t sparse (joint_parts (joint_of s.tables seat) a))) f
        ∙ by_parts t closes new sparse dense (joint_parts (joint_of s.tables seat) a) (parts_stay closes new (joint_of s.tables seat) a) (λ parts. limited s is reached seat (within f) a.lemma lemma (next t) parts)
        ∙ sym (ap (λ o. whole_reply t closes new (if_free o (line_by t dense (joint_parts (joint_of s.tables seat) a)))) f)
