-- Additions in joint variables: clauses that stay what they are, and literals that have joint forms.
use Rattle.std.proofs.Common.{◌≡◌, ap, refl, sym, ◌∙◌, inl, inr, ℕ, Bool, cond, true, false}
use Rattle.std.specs.Prelude.{ℤ, pos, negsuc, neg_ℤ, ◌==◌, nat_lt, not, if◌then◌else◌, List, [], ◌∷◌, ◌++◌, map, filter, Option, Some, None, option_map, Result, Ok, Err}
use Rattle.std.specs.List.{list_all}
use Rattle.std.proofs.lemmas.Bool.{false≢true, and_parts, or_cases, eqb-true}
use Rattle.std.specs.Ordering.{eq_by_cmp}
use Rattle.lj_clause.specs.Literal.{lit_cmp, variable_of}
use Rattle.lj_clause.specs.LiteralSet.{LiteralSet, holds, literals}
use Rattle.lj_clause.specs.Lemma.{LemmaValue, IsLemma}
use Rattle.lj_clause.specs.Renaming.{Renaming, renamed, literal_image, lemma_image}
use Rattle.lj_clause.proofs.Literals.{same_literal}
use Rattle.lj_clause.proofs.LiteralSets.{holds-literals}
use Rattle.lj_clause.proofs.Among.{among}
use Rattle.lj_clause.proofs.Images.{image-same}
use Rattle.lj_text.specs.declared.line.Addition.{Addition}
use Rattle.lj_book.specs.Variables.{Variables, renaming_of}
use Rattle.lj_book.specs.inner.JointForms.{joint_form, is_unmoved}
use Rattle.lj_book.specs.declared.refusal.Refusal.{Refusal}
use Rattle.lj_book.specs.declared.refusal.Refusal.TheVariants as refusals
use Rattle.lj_book.specs.declared.refusal.Refusal.TheVariants.{Full, NoVariableLeft}
use Rattle.lj_book.specs.State.{State, addition_count}
use Rattle.lj_book.specs.Calls.{IsRefusal, commit_told}
use Rattle.lj_book.specs.NamedInside.{if_left}
use Rattle.lj_book.specs.inner.JointLines.{inside_line}
use Rattle.lj_book.specs.inner.VariableTables.{TopVariables}
use Rattle.lj_book.specs.inner.Limits.{is_known, known_images, led_by, known_addition, closes_at_once, is_new, is_lifted, whole_reply, limit_reply}

-- ---- clauses that stay

each_of : (p : ℤ → Bool) (ls : List ℤ) → list_all p ls ≡ true → (l : ℤ) → among l ls ≡ true → p l ≡ true
each_of p [] all l m = absurd (false≢true m)
each_of p (k ∷ ls) all l m =
    let parts = and_parts (p k) (list_all p ls) all in
    elim (or_cases (eq_by_cmp lit_cmp l k) (among l ls) m) [
      | inl e ↦ ap p (same_literal l k e) ∙ parts.0
      | inr e ↦ each_of p ls parts.1 l e
    ]

literal_same : (m : Renaming) (l : ℤ) → renamed m (variable_of l) ≡ variable_of l → literal_image m l ≡ l
literal_same m (pos n) e = ap pos e
literal_same m (negsuc n) e = ap (λ x. neg_ℤ (pos x)) e

unmoved_literal : (m : Renaming) (c : LiteralSet) → is_unmoved m c ≡ true → (l : ℤ) → holds c l ≡ true → literal_image m l ≡ l
unmoved_literal m c h l held = literal_same m l (eqb-true (renamed m (variable_of l)) (variable_of l)
    (each_of (λ k. renamed m (variable_of k) == variable_of k) (literals c) h l (sym (holds-literals c l) ∙ held)))

unmoved_lemma : (m : Renaming) (lemma : LemmaValue) → IsLemma lemma → is_unmoved m lemma.clause ≡ true → lemma_image m lemma ≡ lemma
unmoved_lemma m lemma isl h = λ i. record { clause = image-same (literal_image m) lemma.clause (unmoved_literal m lemma.clause h) i; pivot = pivot lemma.pivot isl i }
  where
    pivot : (o : Option ℤ) → IsLemma (record { clause = lemma.clause; pivot = o }) → option_map (literal_image m) o ≡ o
    pivot None g = refl
    pivot (Some p) g = ap Some (unmoved_literal m lemma.clause h p g)

-- an addition whose lemma stays
pub unmoved_form : (v : Variables) (seat : ℕ) (a : Addition) → IsLemma a.lemma → is_unmoved (renaming_of v seat) a.lemma.clause ≡ true → joint_form v seat a ≡ a
unmoved_form v seat a isl h = λ i. record a { lemma = unmoved_lemma (renaming_of v seat) a.lemma isl h i }

-- ---- literals that have joint forms

module _ (top : ℕ) (m : Renaming) where
  known_append : (xs ys : List ℤ) → known_images top m (xs ++ ys) ≡ known_images top m xs ++ known_images top m ys
  known_append [] ys = refl
  known_append (x ∷ xs) ys = by (known_append xs ys) (is_known top m x)
    where
      by : known_images top m (xs ++ ys) ≡ known_images top m xs ++ known_images top m ys → (b : Bool)
          → map (literal_image m) (cond b (x ∷ filter (is_known top m) (xs ++ ys)) (filter (is_known top m) (xs ++ ys)))
          ≡ map (literal_image m) (cond b (x ∷ filter (is_known top m) xs) (filter (is_known top m) xs)) ++ known_images top m ys
      by rest true = ap (λ ls. literal_image m x ∷ ls) rest
      by rest false = rest

  -- one literal more behind the others
  pub known_more : (o : Option ℤ) (ls : List ℤ) (l : ℤ) → known_images top m (led_by o (ls ++ l ∷ [])) ≡ known_images top m (led_by o ls) ++ known_images top m (l ∷ [])
  known_more None ls l = known_append ls (l ∷ [])
  known_more (Some p) ls l = known_append (p ∷ ls) (l ∷ [])

-- ---- the reply where too few joint variables are left

-- a refusal that stays
refusal_stays : {A B : Type 0} (e : Refusal) (one : Result A Refusal) (whole : Result B Refusal) → (one ≡ Err e → whole ≡ Err e) → IsRefusal e one → IsRefusal e whole
refusal_stays (refusals.NoMemory m) one whole f h = tt
refusal_stays refusals.SeatGone one whole f h = f h
refusal_stays refusals.NumberTaken one whole f h = f h
refusal_stays (refusals.UnknownNumber n) one whole f h = f h
refusal_stays (refusals.GroupRepeated n) one whole f h = f h
refusal_stays (refusals.HintNotUnit n) one whole f h = f h
refusal_stays refusals.EmptyOpen one whole f h = f h
refusal_stays (refusals.MissingGroup n) one whole f h = f h
refusal_stays (refusals.GroupStuck n place) one whole f h = f h
refusal_stays (refusals.GroupOpen n) one whole f h = f h
refusal_stays (refusals.Stale n) one whole f h = f h
refusal_stays refusals.PrivateVariable one whole f h = f h
refusal_stays refusals.NoSuchClause one whole f h = f h
refusal_stays refusals.Full one whole f h = f h
refusal_stays refusals.NoVariableLeft one whole f h = f h

-- a refusal that is lifted is no shortage of memory
lifted_is : {A : Type 0} (closes new : Bool) (e : Refusal) (one : Result A Refusal) → is_lifted closes new e ≡ true → IsRefusal e one → one ≡ Err e
lifted_is closes new (refusals.NoMemory m) one h is = absurd (false≢true h)
lifted_is closes new refusals.SeatGone one h is = is
lifted_is closes new refusals.NumberTaken one h is = is
lifted_is closes new (refusals.UnknownNumber n) one h is = is
lifted_is closes new (refusals.GroupRepeated n) one h is = is
lifted_is closes new (refusals.HintNotUnit n) one h is = is
lifted_is closes new refusals.EmptyOpen one h is = is
lifted_is closes new (refusals.MissingGroup n) one h is = is
lifted_is closes new (refusals.GroupStuck n place) one h is = is
lifted_is closes new (refusals.GroupOpen n) one h is = is
lifted_is closes new (refusals.Stale n) one h is = is
lifted_is closes new refusals.PrivateVariable one h is = is
lifted_is closes new refusals.NoSuchClause one h is = is
lifted_is closes new refusals.Full one h is = is
lifted_is closes new refusals.NoVariableLeft one h is = is

module _ (s : State) (v : TopVariables) (seat : ℕ) (a : Addition) (closes new : Bool) (propagate : closes ≡ closes_at_once v.top (renaming_of v.variables seat) a.lemma.clause) (pivot : new ≡ is_new v.top (renaming_of v.variables seat) a.lemma.pivot) where
  limit_by : (r : Result Addition Refusal) → inside_line s seat (known_addition v seat a) ≡ r → limit_reply s v seat a ≡ if_left false (whole_reply s closes new r)
  limit_by r is = λ i. if_left false (whole_reply s (sym propagate i) (sym pivot i) (is i))

  pub limit_passed : (step : Addition) → inside_line s seat (known_addition v seat a) ≡ Ok step → limit_reply s v seat a ≡ Err NoVariableLeft
  limit_passed step is = limit_by (Ok step) is

  pub limit_refused : (e : Refusal) → is_lifted closes new e ≡ false → IsRefusal e (inside_line s seat (known_addition v seat a)) → IsRefusal e (limit_reply s v seat a)
  limit_refused e stays = refusal_stays e (inside_line s seat (known_addition v seat a)) (limit_reply s v seat a)
      (λ is. limit_by (Err e) is ∙ ap (λ b. if_left false (cond b (if nat_lt (addition_count s.history) s.max_steps then Ok (commit_told s) else Err Full) (Err e))) stays)

  limit_lifted : (e : Refusal) (full : Bool) → is_lifted closes new e ≡ true → full ≡ not (nat_lt (addition_count s.history) s.max_steps) → IsRefusal e (inside_line s seat (known_addition v seat a)) → limit_reply s v seat a ≡ Err (if full then Full else NoVariableLeft)
  limit_lifted e full lifts is refused =
      limit_by (Err e) (lifted_is closes new e (inside_line s seat (known_addition v seat a)) lifts refused)
      ∙ ap (λ b. if_left false (cond b (if nat_lt (addition_count s.history) s.max_steps then Ok (commit_told s) else Err Full) (Err e))) lifts
      ∙ by (nat_lt (addition_count s.history) s.max_steps) full is
    where
      by : (capacity b : Bool) → b ≡ not capacity → if_left false (if capacity then Ok (commit_told s) else Err Full) ≡ Err (if b then Full else NoVariableLeft)
      by true b h = ap (λ x. Err (if x then Full else NoVariableLeft)) (sym h)
      by false b h = ap (λ x. Err (if x then Full else NoVariableLeft)) (sym h)

  pub limit_full : (e : Refusal) (full : Bool) → is_lifted closes new e ≡ true → full ≡ true → full ≡ not (nat_lt (addition_count s.history) s.max_steps) → IsRefusal e (inside_line s seat (known_addition v seat a)) → limit_reply s v seat a ≡ Err Full
  limit_full e full lifts on is refused = limit_lifted e full lifts is refused ∙ ap (λ x. Err (if x then Full else NoVariableLeft)) on

  pub limit_none : (e : Refusal) (full : Bool) → is_lifted closes new e ≡ true → full ≡ false → full ≡ not (nat_lt (addition_count s.history) s.max_steps) → IsRefusal e (inside_line s seat (known_addition v seat a)) → limit_reply s v seat a ≡ Err NoVariableLeft
  limit_none e full lifts off is refused = limit_lifted e full lifts is refused ∙ ap (λ x. Err (if x then Full else NoVariableLeft)) off
