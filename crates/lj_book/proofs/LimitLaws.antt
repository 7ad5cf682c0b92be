-- The test of an addition that needs more joint variables than are left is told by that of the literals that have joint forms.
use Rattle.std.proofs.Common.{◌≡◌, ap, refl, sym, ◌∙◌, subst, ⊎_elim, ℕ, zero, suc, ◌<◌, ◌≤◌, Bool, cond, true, false, length, arith}
use Rattle.std.specs.Prelude.{ℤ, pos, negsuc, neg_ℤ, not, ◌&&◌, ◌||◌, nat_lt, nat_le, List, [], ◌∷◌, map, filter, Option, Some, None, IfSome, is_some, option_map, unwrap_or, slice_get}
use Rattle.std.specs.List.{AllByRecursion}
use Rattle.std.specs.Ordering.{eq_by_cmp}
use Rattle.std.specs.Cmp.{both_ways}
use Rattle.std.proofs.lemmas.Bool.{false≢true, false_from_ne_true, and_parts, and_from, or_cases, or_left, or_right, lt-ltb, le-ltb, leb-true, cases_lt}
use Rattle.std.specs.FinMap as fin
use Rattle.lj_clause.specs.Literal.{lit_cmp, variable_of}
use Rattle.lj_clause.specs.LiteralSet.{LiteralSet, no_literals, holds, with_literal, literals, from_literals, negations}
use Rattle.lj_clause.specs.Lemma.{LemmaValue, IsLemma}
use Rattle.lj_clause.specs.ClauseMap.{ClauseMap, IsFormula}
use Rattle.lj_clause.specs.Propagation.{Propagation, Closed, Open, Stuck, Hint, hints_in, is_contradictory, by_hint, propagate_over}
use Rattle.lj_clause.specs.Rat.{HintGroup, groups_in, candidates, rat_over, rat, RatAnswer, Covered, MissingGroup, GroupStuck, GroupOpen}
use Rattle.lj_clause.specs.Renaming.{Renaming, renamed, literal_image, image, lemma_image, has_name, inverse, IsOneToOne}
use Rattle.lj_clause.proofs.Literals.{same_literal}
use Rattle.lj_clause.proofs.LiteralSets.{holds-no_literals, holds-with_literal, holds-from_literals, holds-literals, same_set}
use Rattle.lj_clause.proofs.Among.{among, itself, any_at, any_found, kept, passed}
use Rattle.lj_clause.proofs.TruthLaws.{holds-negations}
use Rattle.lj_clause.proofs.Images.{among_image, imaged_among, holds_image, imaged}
use Rattle.lj_clause.proofs.Renaming.{all_known, inverse_gives, IsRenamer-image}
use Rattle.lj_clause.proofs.RatLaws.{candidates-get}
use Rattle.lj_hint.proofs.Contradictions.{is_contradictory-with_literal}
use Rattle.lj_text.specs.declared.line.Addition.{Addition}
use Rattle.lj_text.specs.Steps.{first_propagation}
use Rattle.lj_book.specs.declared.refusal.Refusal.{Refusal}
use Rattle.lj_book.specs.declared.refusal.Refusal.TheVariants as refusals
use Rattle.lj_book.specs.Variables.{renaming_of}
use Rattle.lj_book.specs.State.{live}
use Rattle.lj_book.specs.Inside.{open_refusal, rat_refusal, propagation_refusal}
use Rattle.lj_book.specs.Named.{NamedState, top_of, names_of, beneath, given_in, IsNamedReached}
use Rattle.lj_book.specs.inner.JointLines.{LineParts, addition_of_parts}
use Rattle.lj_book.specs.inner.Limits.{is_known, known_images, led_by, known_lemma, closes_at_once, is_new, is_lifted, limit_refusal}
use Rattle.lj_book.proofs.SoloStates.{some_clause}
use Rattle.lj_book.proofs.NamedLaws.{Rules, Grows, literal_alike, given_grows_within, rules_reached}
use Rattle.lj_book.proofs.OwnHoldings.{seats_hold_own, turned_variable}
use Rattle.lj_book.proofs.PrivateClauses.{holder, live_held, seen_with}
use Rattle.lj_book.proofs.PrivateCandidates.{new_pivots_have_none}
use Rattle.lj_book.proofs.NewLiterals.{HasMore, IsKnown, AreKnownHints, AreKnownGroups, AreKnownEntries, EndsAlike, walks_alike, negations_more, rats_alike}

-- ---- refusals

unlifted : (e : Refusal) → is_lifted false false e ≡ false
unlifted refusals.SeatGone = refl
unlifted refusals.NumberTaken = refl
unlifted (refusals.UnknownNumber n) = refl
unlifted (refusals.GroupRepeated n) = refl
unlifted (refusals.HintNotUnit n) = refl
unlifted refusals.EmptyOpen = refl
unlifted (refusals.MissingGroup n) = refl
unlifted (refusals.GroupStuck n place) = refl
unlifted (refusals.GroupOpen n) = refl
unlifted (refusals.Stale n) = refl
unlifted refusals.PrivateVariable = refl
unlifted refusals.NoSuchClause = refl
unlifted refusals.Full = refl
unlifted refusals.NoVariableLeft = refl
unlifted (refusals.NoMemory e) = refl

-- where nothing is lifted the refusal stays
same_refusal : (r : Option Refusal) → limit_refusal false false r ≡ r
same_refusal None = refl
same_refusal (Some e) = ap (λ b. cond b None (Some e)) (unlifted e)

-- what an open propagation leads to is lifted where the propagation closes or the pivot is new
lifted_rat : (closes : Bool) (r : RatAnswer) → limit_refusal closes true (rat_refusal r) ≡ None
lifted_rat true (Covered groups) = refl
lifted_rat true (MissingGroup n) = refl
lifted_rat true (GroupStuck n place) = refl
lifted_rat true (GroupOpen n) = refl
lifted_rat false (Covered groups) = refl
lifted_rat false (MissingGroup n) = refl
lifted_rat false (GroupStuck n place) = refl
lifted_rat false (GroupOpen n) = refl

lifted_closed : (new : Bool) (r : RatAnswer) → limit_refusal true new (rat_refusal r) ≡ None
lifted_closed new (Covered groups) = refl
lifted_closed new (MissingGroup n) = refl
lifted_closed new (GroupStuck n place) = refl
lifted_closed new (GroupOpen n) = refl

lifted_open : (p : ClauseMap) (a : Addition) (left : LiteralSet) (o : Option ℤ) → limit_refusal false true (open_refusal p a left o) ≡ None
lifted_open p a left None = refl
lifted_open p a left (Some q) = lifted_rat false (rat p left q a.groups)

lifted_walk : (new : Bool) (p : ClauseMap) (a : Addition) (o : Option ℤ) (w : Propagation) → a.lemma.pivot ≡ o → limit_refusal true new (propagation_refusal p a w) ≡ None
lifted_walk new p a o (Closed used) e = refl
lifted_walk new p a o (Stuck place) e = refl
lifted_walk new p a None (Open left) e = ap (λ o. limit_refusal true new (open_refusal p a left o)) e
lifted_walk new p a (Some q) (Open left) e = ap (λ o. limit_refusal true new (open_refusal p a left o)) e ∙ lifted_closed new (rat p left q a.groups)

closed_at_once : (a : LiteralSet) (hs : List Hint) → is_contradictory a ≡ true → propagate_over a hs ≡ Closed []
unfolding propagate_over
closed_at_once a [] c = ap (λ b. cond b (Closed []) (Open a)) c
closed_at_once a (h ∷ hs) c = ap (λ b. cond b (Closed []) (by_hint h.number h.clause a (λ l. propagate_over (with_literal a l) hs))) c

none_covered : (a : LiteralSet) (pivot : ℤ) (p : ClauseMap) (gs : List HintGroup) → candidates p pivot ≡ [] → rat_refusal (rat p a pivot gs) ≡ None
unfolding rat_over
none_covered a pivot p gs e = ap (λ es. rat_refusal (rat_over a pivot (groups_in p gs) es)) e

-- ---- the literals of a lemma

-- the empty clause has none
no_lits : (ls : List ℤ) → ((l : ℤ) → among l ls ≡ true → ⊥) → ls ≡ []
no_lits [] none = refl
no_lits (l ∷ ls) none = absurd (none l (or_left (eq_by_cmp lit_cmp l l) (among l ls) (itself l)))

literals-empty : (c : LiteralSet) → c ≡ no_literals → literals c ≡ []
literals-empty c e = no_lits (literals c) (λ l m. false≢true (sym (holds-no_literals l) ∙ ap (λ (d : LiteralSet). holds d l) (sym e) ∙ holds-literals c l ∙ m))

first_has : (o : Option ℤ) (ls : List ℤ) (l : ℤ) → among l ls ≡ true → among l (led_by o ls) ≡ true
first_has None ls l m = m
first_has (Some p) ls l m = or_right (eq_by_cmp lit_cmp l p) (among l ls) m

among_first : (c : LiteralSet) (o : Option ℤ) → IsLemma (record { clause = c; pivot = o }) → (l : ℤ) → among l (led_by o (literals c)) ≡ true → holds c l ≡ true
among_first c None lemma l m = holds-literals c l ∙ m
among_first c (Some p) lemma l m = ⊎_elim
    (λ e. ap (holds c) (same_literal l p e) ∙ lemma)
    (λ e. holds-literals c l ∙ e)
    (or_cases (eq_by_cmp lit_cmp l p) (among l (literals c)) m)

image_variable : (m : Renaming) (l : ℤ) → variable_of (literal_image m l) ≡ renamed m (variable_of l)
image_variable m (pos n) = refl
image_variable m (negsuc n) = turned_variable (pos (renamed m (suc n)))

-- one literal more that a set has already
held_again : (a : LiteralSet) (l : ℤ) → holds a l ≡ true → with_literal a l ≡ a
held_again a l h = same_set (with_literal a l) a (λ q. holds-with_literal a l q ∙ by q (eq_by_cmp lit_cmp q l) refl)
  where
    by : (q : ℤ) (b : Bool) → eq_by_cmp lit_cmp q l ≡ b → (b || holds a q) ≡ holds a q
    by q true e = sym (ap (holds a) (same_literal q l e) ∙ h)
    by q false e = refl

-- ---- what lives

module _ (s : NamedState) (is : IsFormula s.formula) (reached : IsNamedReached s) where
  abbrev known : ℤ → Bool
  known l = nat_lt (variable_of l) s.variables.next

  known_turns : (l : ℤ) → known (neg_ℤ l) ≡ known l
  known_turns l = ap (λ x. nat_lt x s.variables.next) (turned_variable l)

  rules : Rules s
  rules = rules_reached s reached

  within_top : (x : ℕ) → x ≤ top_of s → nat_lt x s.variables.next ≡ true
  within_top x le = let past = rules.variables.past in lt-ltb x s.variables.next (omega arith)

  given_below : (seat y : ℕ) → has_name (top_of s) (inverse (renaming_of s.variables seat)) y ≡ true → nat_lt y s.variables.next ≡ true
  given_below seat y h = ⊎_elim
      (λ low. within_top y (leb-true y (top_of s) low))
      (λ there. let got = some_clause (fin.get (inverse (renaming_of s.variables seat)) y) there in
      lt-ltb y s.variables.next (rules.variables.below seat got.0 y (inverse_gives (renaming_of s.variables seat) got.0 y got.1)))
      (or_cases (nat_le y (top_of s)) (fin.contains_key (inverse (renaming_of s.variables seat)) y) h)

  -- a live clause has no variable that wasn't given out
  live_known : (n : ℕ) (c : LiteralSet) → fin.get (live (beneath s)) n ≡ Some c → IsKnown known known_turns c
  live_known n c lives l has =
      let found = holder s.tables n (live_held (beneath s) n c lives) in
      let seen = seen_with (beneath s) n c lives found.seat found.own found.bound in
      let mine = seats_hold_own s found.seat found.own (record { joint = n; clause = c }) is reached seen in
      given_below found.seat (variable_of l) (all_known (top_of s) (inverse (renaming_of s.variables found.seat)) c mine l has)

  hint_known : (n : ℕ) (o : Option LiteralSet) → fin.get (live (beneath s)) n ≡ o → IfSome o (IsKnown known known_turns)
  hint_known n None e = tt
  hint_known n (Some c) e = live_known n c e

  hints_known : (ns : List ℕ) → AreKnownHints known known_turns (hints_in (live (beneath s)) ns)
  hints_known [] = tt
  hints_known (n ∷ ns) = (hint_known n (fin.get (live (beneath s)) n) refl, hints_known ns)

  groups_known : (gs : List HintGroup) → AreKnownGroups known known_turns (groups_in (live (beneath s)) gs)
  groups_known [] = tt
  groups_known (g ∷ gs) = (hints_known g.hints, groups_known gs)

  candidates_known : (pivot : ℤ) → AreKnownEntries known known_turns (candidates (live (beneath s)) pivot)
  candidates_known pivot = each (candidates (live (beneath s)) pivot) (candidates-get (live (beneath s)) pivot)
    where
      each : (es : List (ℕ × LiteralSet)) → AllByRecursion (λ (e : ℕ × LiteralSet). (fin.get (live (beneath s)) e.0 ≡ Some e.1) × (holds e.1 (neg_ℤ pivot) ≡ true)) es → AreKnownEntries known known_turns es
      each [] all = tt
      each (e ∷ es) all = (live_known e.0 e.1 all.0.0, each es all.1)

  -- ---- a clause whose variables are given out without a limit

  module _ (seat : ℕ) (within : seat < length s.variables.of_seats) (c : LiteralSet) where
    abbrev now : Renaming
    now = names_of s seat

    abbrev later : Renaming
    later = renaming_of (given_in s seat c) seat

    grows : Grows (top_of s) s.variables (given_in s seat c)
    grows = (given_grows_within s rules seat c within).0

    one : IsOneToOne (top_of s) later
    one = grows.rules.one_to_one seat

    named : (l : ℤ) → holds c l ≡ true → has_name (top_of s) later (variable_of l) ≡ true
    named l h = all_known (top_of s) later c (given_grows_within s rules seat c within).1 l h

    stays : (l : ℤ) → is_known (top_of s) now l ≡ true → literal_image later l ≡ literal_image now l
    stays l k = literal_alike (top_of s) now later (grows.part seat) one l k

    -- the joint form of a literal that has one was given out
    known_image : (l : ℤ) → is_known (top_of s) now l ≡ true → known (literal_image now l) ≡ true
    known_image l k = ap (λ x. nat_lt x s.variables.next) (image_variable now l) ∙ by (fin.get now (variable_of l)) refl
      where
        by : (o : Option ℕ) → fin.get now (variable_of l) ≡ o → nat_lt (unwrap_or o (variable_of l)) s.variables.next ≡ true
        by None e = ⊎_elim
            (λ low. within_top (variable_of l) (leb-true (variable_of l) (top_of s) low))
            (λ there. absurd (false≢true (sym (ap is_some e) ∙ there)))
            (or_cases (nat_le (variable_of l) (top_of s)) (fin.contains_key now (variable_of l)) k)
        by (Some y) e = lt-ltb y s.variables.next (rules.variables.below seat (variable_of l) y e)

    -- a literal that gets a new variable
    record GetsNew (l : ℤ) : Type 0 where
      joint : ℕ
      given : fin.get later (variable_of l) ≡ Some joint
      nameless : fin.get now (variable_of l) ≡ None
      new : s.variables.next ≤ joint
      above : top_of s < joint

    gets_new : (l : ℤ) → holds c l ≡ true → is_known (top_of s) now l ≡ false → GetsNew l
    gets_new l h k = by (fin.get later (variable_of l)) refl
      where
        x : ℕ
        x = variable_of l

        no_name : (o : Option ℕ) → fin.get now x ≡ o → fin.get now x ≡ None
        no_name None e = e
        no_name (Some y) e = absurd (false≢true (sym k ∙ or_right (nat_le x (top_of s)) (fin.contains_key now x) (ap is_some e)))

        earlier : (y : ℕ) → fin.get later x ≡ Some y → y < s.variables.next → ⊥
        earlier y e lt =
            let owner = rules.variables.all y (one.above x y e).1 lt in
            let still = grows.part owner.0 owner.1 y owner.2 in
            let mine : owner.0 ≡ seat = grows.rules.apart owner.0 seat owner.1 x y still e in
            let was : fin.get now owner.1 ≡ Some y = subst (λ t. fin.get (renaming_of s.variables t) owner.1 ≡ Some y) mine owner.2 in
            let same : owner.1 ≡ x = one.apart owner.1 x y (grows.part seat owner.1 y was) e in
            false≢true (sym k ∙ or_right (nat_le x (top_of s)) (fin.contains_key now x) (ap is_some (ap (fin.get now) (sym same) ∙ was)))

        by : (o : Option ℕ) → fin.get later x ≡ o → GetsNew l
        by None e = ⊎_elim
            (λ low. absurd (false≢true (sym k ∙ or_left (nat_le x (top_of s)) (fin.contains_key now x) low)))
            (λ there. absurd (false≢true (sym (ap is_some e) ∙ there)))
            (or_cases (nat_le x (top_of s)) (fin.contains_key later x) (named l h))
        by (Some y) e = record {
          joint = y;
          given = e;
          nameless = no_name (fin.get now x) refl;
          new = ⊎_elim (λ lt. absurd (earlier y e lt)) (λ le. le) (cases_lt y s.variables.next);
          above = (one.above x y e).1;
        }

    joint_variable : (l : ℤ) (n : GetsNew l) → variable_of (literal_image later l) ≡ n.joint
    joint_variable l n = image_variable later l ∙ ap (λ o. unwrap_or o (variable_of l)) n.given

    new_image : (l : ℤ) → GetsNew l → known (literal_image later l) ≡ false
    new_image l n = ap (λ x. nat_lt x s.variables.next) (joint_variable l n) ∙ le-ltb n.joint s.variables.next n.new

    turned_image : (l : ℤ) → literal_image later (neg_ℤ l) ≡ neg_ℤ (literal_image later l)
    turned_image l = (IsRenamer-image one).turns l

    -- both signs of a new variable close each propagation
    contradictory : closes_at_once (top_of s) now c ≡ true → is_contradictory (negations (image later c)) ≡ true
    contradictory closes =
        let found = any_found (λ l. not (is_known (top_of s) now l) && holds c (neg_ℤ l)) (literals c) closes in
        let parts = and_parts (not (is_known (top_of s) now found.0)) (holds c (neg_ℤ found.0)) found.2 in
        let l : ℤ = found.0 in
        let h : holds c l ≡ true = holds-literals c l ∙ found.1 in
        let n = gets_new l h (unnot (is_known (top_of s) now l) parts.0) in
        let q : ℤ = literal_image later l in
        let there : holds (negations (image later c)) q ≡ true = holds-negations (image later c) q ∙ ap (holds (image later c)) (sym (turned_image l)) ∙ holds_image (literal_image later) c (neg_ℤ l) parts.1 in
        let turned : holds (negations (image later c)) (neg_ℤ q) ≡ true = ap (holds (negations (image later c))) (sym (turned_image l)) ∙ turned_there l h in
        let some : 0 < variable_of q = (let e = joint_variable l n in let a = n.above in omega arith) in
        ap is_contradictory (sym (held_again (negations (image later c)) q there))
        ∙ is_contradictory-with_literal (negations (image later c)) q some
        ∙ or_right (is_contradictory (negations (image later c))) (holds (negations (image later c)) (neg_ℤ q)) turned
      where
        unnot : (b : Bool) → not b ≡ true → b ≡ false
        unnot true e = absurd (false≢true e)
        unnot false e = refl

        turned_there : (l : ℤ) → holds c l ≡ true → holds (negations (image later c)) (literal_image later (neg_ℤ l)) ≡ true
        turned_there l h =
            ap (holds (negations (image later c))) (turned_image l)
            ∙ holds-negations (image later c) (neg_ℤ (literal_image later l))
            ∙ ap (holds (image later c)) (twice (literal_image later l))
            ∙ holds_image (literal_image later) c l h
          where
            twice : (k : ℤ) → neg_ℤ (neg_ℤ k) ≡ k
            twice (pos zero) = refl
            twice (pos (suc n)) = refl
            twice (negsuc n) = refl

    -- ---- its literals that have joint forms

    module _ (pivot : Option ℤ) (lemma : IsLemma (record { clause = c; pivot = pivot })) where
      abbrev all_lits : List ℤ
      all_lits = led_by pivot (literals c)

      abbrev dense : LiteralSet
      dense = from_literals (known_images (top_of s) now all_lits)

      in_near : (l : ℤ) → holds c l ≡ true → is_known (top_of s) now l ≡ true → holds dense (literal_image now l) ≡ true
      in_near l h k =
          holds-from_literals (known_images (top_of s) now all_lits) (literal_image now l)
          ∙ among_image (literal_image now) l (filter (is_known (top_of s) now) all_lits)
          (kept (is_known (top_of s) now) l all_lits (first_has pivot (literals c) l (sym (holds-literals c l) ∙ h)) k)

      -- a literal that a joint form comes from
      record ComesFrom (q : ℤ) : Type 0 where
        own : ℤ
        held : holds c own ≡ true
        has_form : is_known (top_of s) now own ≡ true
        form : q ≡ literal_image now own

      from_near : (q : ℤ) → holds dense q ≡ true → ComesFrom q
      from_near q h =
          let found = imaged_among (literal_image now) q (filter (is_known (top_of s) now) all_lits) (sym (holds-from_literals (known_images (top_of s) now all_lits) q) ∙ h) in
          let parts = passed (is_known (top_of s) now) found.0 all_lits found.1 in
          record { own = found.0; held = among_first c pivot lemma found.0 parts.0; has_form = parts.1; form = found.2 }

      near_more : closes_at_once (top_of s) now c ≡ false → HasMore known known_turns dense (image later c)
      near_more parted = record { same = λ l k. both_ways _ _ (down l k) (up l); none = none; apart = λ l k h. false_from_ne_true _ (λ n. apart l k h n) }
        where
          down : (l : ℤ) → known l ≡ true → holds (image later c) l ≡ true → holds dense l ≡ true
          down l k h = let found = imaged (literal_image later) c l h in by found.0 found.1 found.2 (is_known (top_of s) now found.0) refl
            where
              by : (q : ℤ) → holds c q ≡ true → l ≡ literal_image later q → (b : Bool) → is_known (top_of s) now q ≡ b → holds dense l ≡ true
              by q h is true kq = ap (holds dense) (is ∙ stays q kq) ∙ in_near q h kq
              by q h is false kq = absurd (false≢true (sym (ap known is ∙ new_image q (gets_new q h kq)) ∙ k))

          up : (l : ℤ) → holds dense l ≡ true → holds (image later c) l ≡ true
          up l h = let from = from_near l h in ap (holds (image later c)) (from.form ∙ sym (stays from.own from.has_form)) ∙ holds_image (literal_image later) c from.own from.held

          none : (l : ℤ) → holds dense l ≡ true → known l ≡ true
          none l h = let from = from_near l h in ap known from.form ∙ known_image from.own from.has_form

          both : (q : ℤ) → holds c q ≡ true → holds c (neg_ℤ q) ≡ true → (b : Bool) → is_known (top_of s) now q ≡ b → known (literal_image later q) ≡ false → ⊥
          both q h n true kq k = false≢true (sym k ∙ ap known (stays q kq) ∙ known_image q kq)
          both q h n false kq k = false≢true (sym parted ∙ any_at (λ l. not (is_known (top_of s) now l) && holds c (neg_ℤ l)) q (literals c) (sym (holds-literals c q) ∙ h) (and_from _ _ (ap not kq) n))

          apart : (l : ℤ) → known l ≡ false → holds (image later c) l ≡ true → holds (image later c) (neg_ℤ l) ≡ true → ⊥
          apart l k h n =
              let here = imaged (literal_image later) c l h in
              let there = imaged (literal_image later) c (neg_ℤ l) n in
              let renames = IsRenamer-image one in
              let same : neg_ℤ here.0 ≡ there.0 = renames.apart (neg_ℤ here.0) there.0 (renames.negated here.0 (named here.0 here.1)) (named there.0 there.1)
              (turned_image here.0 ∙ ap neg_ℤ (sym here.2) ∙ there.2) in
              both here.0 here.1 (ap (holds c) same ∙ there.1) (is_known (top_of s) now here.0) refl (sym (ap known here.2) ∙ k)

      module _ (number : ℕ) (parts : LineParts) where
        abbrev whole : Addition
        whole = addition_of_parts number (lemma_image later (record { clause = c; pivot = pivot })) parts

        abbrev part : Addition
        part = addition_of_parts number (known_lemma (top_of s) now (record { clause = c; pivot = pivot })) parts

        abbrev near_walk : Propagation
        near_walk = propagate_over (negations dense) (hints_in (live (beneath s)) parts.0)

        abbrev far_walk : Propagation
        far_walk = propagate_over (negations (image later c)) (hints_in (live (beneath s)) parts.0)

        abbrev refusal_of : Addition → Propagation → Option Refusal
        refusal_of a w = propagation_refusal (live (beneath s)) a w

        alike : closes_at_once (top_of s) now c ≡ false → EndsAlike known known_turns near_walk far_walk
        alike parted = walks_alike known known_turns (negations dense) (negations (image later c)) (hints_in (live (beneath s)) parts.0) (negations_more known known_turns dense (image later c) (near_more parted)) (hints_known parts.0)

        -- what is left to show of open propagations
        by_ends : (new : Bool) → ((a b : LiteralSet) → HasMore known known_turns a b → refusal_of whole (Open b) ≡ limit_refusal false new (refusal_of part (Open a)))
            → (v w : Propagation) → EndsAlike known known_turns v w → refusal_of whole w ≡ limit_refusal false new (refusal_of part v)
        by_ends new go (Closed used) w e = ap (refusal_of whole) e
        by_ends new go (Stuck place) w e = ap (refusal_of whole) e
        by_ends new go (Open a) (Closed used) e = absurd e
        by_ends new go (Open a) (Stuck place) e = absurd e
        by_ends new go (Open a) (Open b) e = go a b e

        closed : closes_at_once (top_of s) now c ≡ true → (new : Bool) → refusal_of whole far_walk ≡ limit_refusal true new (refusal_of part near_walk)
        closed closes new =
            ap (refusal_of whole) (closed_at_once (negations (image later c)) (hints_in (live (beneath s)) parts.0) (contradictory closes))
            ∙ sym (lifted_walk new (live (beneath s)) part part.lemma.pivot near_walk refl)

        -- a lemma without a pivot is empty
        no_pivot : pivot ≡ None → part.lemma.pivot ≡ None → (a b : LiteralSet) → HasMore known known_turns a b → refusal_of whole (Open b) ≡ limit_refusal false false (refusal_of part (Open a))
        no_pivot none empty a b more =
            ap (λ o. open_refusal (live (beneath s)) whole b (option_map (literal_image later) o)) none
            ∙ sym (ap (λ o. limit_refusal false false (open_refusal (live (beneath s)) part a o)) empty)

        known_pivot : (p : ℤ) → pivot ≡ Some p → is_known (top_of s) now p ≡ true → part.lemma.pivot ≡ Some (literal_image now p) → (a b : LiteralSet) → HasMore known known_turns a b → refusal_of whole (Open b) ≡ limit_refusal false false (refusal_of part (Open a))
        known_pivot p has k first a b more =
            ap (λ o. open_refusal (live (beneath s)) whole b (option_map (literal_image later) o)) has
            ∙ ap (λ q. rat_refusal (rat (live (beneath s)) b q parts.1)) (stays p k)
            ∙ ap rat_refusal (rats_alike known known_turns a b (literal_image now p) (groups_in (live (beneath s)) parts.1) (candidates (live (beneath s)) (literal_image now p)) more (groups_known parts.1) (candidates_known (literal_image now p)))
            ∙ ap (open_refusal (live (beneath s)) part a) (sym first)
            ∙ sym (same_refusal (refusal_of part (Open a)))

        new_pivot : (p : ℤ) → pivot ≡ Some p → holds c p ≡ true → is_known (top_of s) now p ≡ false → (a b : LiteralSet) → HasMore known known_turns a b → refusal_of whole (Open b) ≡ limit_refusal false true (refusal_of part (Open a))
        new_pivot p has held k a b more =
            let n = gets_new p held k in
            ap (λ o. open_refusal (live (beneath s)) whole b (option_map (literal_image later) o)) has
            ∙ none_covered b (literal_image later p) (live (beneath s)) parts.1 (new_pivots_have_none s seat c p is reached (n.joint, n.given) n.nameless).0
            ∙ sym (lifted_open (live (beneath s)) part a part.lemma.pivot)

-- the refusal of the whole lemma's test, by that of the literals that have joint forms
pub limited : (s : NamedState) → IsFormula s.formula → IsNamedReached s → (seat : ℕ) → seat < length s.variables.of_seats → (lemma : LemmaValue) → IsLemma lemma → (number : ℕ) (parts : LineParts)
    → propagation_refusal (live (beneath s)) (addition_of_parts number (lemma_image (renaming_of (given_in s seat lemma.clause) seat) lemma) parts)
    (first_propagation (live (beneath s)) (addition_of_parts number (lemma_image (renaming_of (given_in s seat lemma.clause) seat) lemma) parts))
    ≡ limit_refusal (closes_at_once (top_of s) (names_of s seat) lemma.clause) (is_new (top_of s) (names_of s seat) lemma.pivot)
    (propagation_refusal (live (beneath s)) (addition_of_parts number (known_lemma (top_of s) (names_of s seat) lemma) parts)
    (first_propagation (live (beneath s)) (addition_of_parts number (known_lemma (top_of s) (names_of s seat) lemma) parts)))
limited s is reached seat within lemma isl number parts = by (closes_at_once (top_of s) (names_of s seat) lemma.clause) refl
  where
    c : LiteralSet
    c = lemma.clause

    m : Renaming
    m = names_of s seat

    propagations : Option ℤ → Bool → Bool → Type 0
    propagations o closes new = propagation_refusal (live (beneath s)) (addition_of_parts number (lemma_image (renaming_of (given_in s seat c) seat) (record { clause = c; pivot = o })) parts)
        (propagate_over (negations (image (renaming_of (given_in s seat c) seat) c)) (hints_in (live (beneath s)) parts.0))
        ≡ limit_refusal closes new (propagation_refusal (live (beneath s)) (addition_of_parts number (known_lemma (top_of s) m (record { clause = c; pivot = o })) parts)
        (propagate_over (negations (from_literals (known_images (top_of s) m (led_by o (literals c))))) (hints_in (live (beneath s)) parts.0)))

    by_pivot : (o : Option ℤ) → IsLemma (record { clause = c; pivot = o }) → closes_at_once (top_of s) m c ≡ false → propagations o false (is_new (top_of s) m o)
    by_pivot None g parted =
        by_ends s is reached seat within c None g number parts false
        (no_pivot s is reached seat within c None g number parts refl (ap (λ (ls : List ℤ). slice_get (known_images (top_of s) m ls) 0) (literals-empty c g)))
        (near_walk s is reached seat within c None g number parts) (far_walk s is reached seat within c None g number parts) (alike s is reached seat within c None g number parts parted)
    by_pivot (Some p) g parted = by_known (is_known (top_of s) m p) refl
      where
        by_known : (k : Bool) → is_known (top_of s) m p ≡ k → propagations (Some p) false (not (is_known (top_of s) m p))
        by_known true k = subst (λ b. propagations (Some p) false (not b)) (sym k)
            (by_ends s is reached seat within c (Some p) g number parts false
            (known_pivot s is reached seat within c (Some p) g number parts p refl k (ap (λ b. slice_get (map (literal_image m) (cond b (p ∷ filter (is_known (top_of s) m) (literals c)) (filter (is_known (top_of s) m) (literals c)))) 0) k))
            (near_walk s is reached seat within c (Some p) g number parts) (far_walk s is reached seat within c (Some p) g number parts) (alike s is reached seat within c (Some p) g number parts parted))
        by_known false k = subst (λ b. propagations (Some p) false (not b)) (sym k)
            (by_ends s is reached seat within c (Some p) g number parts true
            (new_pivot s is reached seat within c (Some p) g number parts p refl g k)
            (near_walk s is reached seat within c (Some p) g number parts) (far_walk s is reached seat within c (Some p) g number parts) (alike s is reached seat within c (Some p) g number parts parted))

    by : (closes : Bool) → closes_at_once (top_of s) m c ≡ closes → propagations lemma.pivot (closes_at_once (top_of s) m c) (is_new (top_of s) m lemma.pivot)
    by true e = subst (λ b. propagations lemma.pivot b (is_new (top_of s) m lemma.pivot)) (sym e) (closed s is reached seat within c lemma.pivot isl number parts e (is_new (top_of s) m lemma.pivot))
    by false e = subst (λ b. propagations lemma.pivot b (is_new (top_of s) m lemma.pivot)) (sym e) (by_pivot lemma.pivot isl e)
