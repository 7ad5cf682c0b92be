-- Literals of variables that no clause has change nothing in a propagation, where no two of them contradict each other.
use Rattle.std.proofs.Common.{◌≡◌, ap, refl, sym, ◌∙◌, subst, ⊎_elim, ℕ, ◌==◌, Bool, cond, true, false}
use Rattle.std.specs.Prelude.{ℤ, pos, neg_ℤ, int_lt, not, ◌||◌, ◌&&◌, List, [], ◌∷◌, filter, Option, Some, None, IfSome, is_some, unwrap_or}
use Rattle.std.specs.List.{AllByRecursion}
use Rattle.std.specs.Ordering.{eq_by_cmp}
use Rattle.std.specs.Cmp.{both_ways}
use Rattle.std.proofs.lemmas.Bool.{false≢true, false_from_ne_true, and_parts, and_from, or_left, or_right}
use Rattle.lj_clause.specs.Literal.{lit_cmp}
use Rattle.lj_clause.specs.LiteralSet.{LiteralSet, holds, with_literal, literals, with_negations, negations}
use Rattle.lj_clause.specs.Propagation.{Propagation, Closed, Open, Stuck, Hint, rest, is_contradictory, after_hint, by_rest, by_hint, propagate_over}
use Rattle.lj_clause.specs.Rat.{NamedGroup, group_of, others, RatAnswer, by_candidate, candidate_propagation, rat_over}
use Rattle.lj_clause.proofs.LiteralSets.{holds-with_literal, holds-literals, held_before}
use Rattle.lj_clause.proofs.Among.{among, itself, any_at, any_found, passed}
use Rattle.lj_clause.proofs.TruthLaws.{holds-negations}

-- a test that keeps the same of a list makes the same list
filter_alike : (p q : ℤ → Bool) (ls : List ℤ) → ((l : ℤ) → among l ls ≡ true → p l ≡ q l) → filter p ls ≡ filter q ls
filter_alike p q [] alike = refl
filter_alike p q (l ∷ ls) alike =
    let more = filter_alike p q ls (λ k m. alike k (or_right (eq_by_cmp lit_cmp k l) (among k ls) m)) in
    let here = alike l (or_left (eq_by_cmp lit_cmp l l) (among l ls) (itself l)) in
    λ i. cond (here i) (l ∷ more i) (more i)

-- The test says which literals the clauses may have: a literal and its negation alike.
module _ (known : ℤ → Bool) (turns : (l : ℤ) → known (neg_ℤ l) ≡ known l) where
  -- The second set has the known literals of the first, and others, no two of which contradict each other.
  pub record HasMore (a b : LiteralSet) : Type 0 where
    pub same : (l : ℤ) → known l ≡ true → holds b l ≡ holds a l
    pub none : (l : ℤ) → holds a l ≡ true → known l ≡ true
    pub apart : (l : ℤ) → known l ≡ false → holds b l ≡ true → holds b (neg_ℤ l) ≡ false

  -- the clause has known literals alone
  abbrev pub IsKnown : LiteralSet → Type 0
  IsKnown c = (l : ℤ) → holds c l ≡ true → known l ≡ true

  abbrev pub AreKnownHints : List Hint → Type 0
  AreKnownHints hs = AllByRecursion (λ h. IfSome h.clause IsKnown) hs

  negation_known : (l : ℤ) → known l ≡ true → known (neg_ℤ l) ≡ true
  negation_known l k = turns l ∙ k

  contradictory_alike : (a b : LiteralSet) → HasMore a b → is_contradictory b ≡ is_contradictory a
  contradictory_alike a b more = both_ways _ _ down up
    where
      both : (s : LiteralSet) (l : ℤ) → int_lt (pos 0) l ≡ true → holds s l ≡ true → holds s (neg_ℤ l) ≡ true → is_contradictory s ≡ true
      both s l sign h n = any_at (λ l. int_lt (pos 0) l && holds s (neg_ℤ l)) l (literals s) (sym (holds-literals s l) ∙ h) (and_from _ _ sign n)

      by : (l : ℤ) (k : Bool) → known l ≡ k → int_lt (pos 0) l ≡ true → holds b l ≡ true → holds b (neg_ℤ l) ≡ true → is_contradictory a ≡ true
      by l true k sign h n = both a l sign (sym (more.same l k) ∙ h) (sym (more.same (neg_ℤ l) (negation_known l k)) ∙ n)
      by l false k sign h n = absurd (false≢true (sym (more.apart l k h) ∙ n))

      down : is_contradictory b ≡ true → is_contradictory a ≡ true
      down c =
          let found = any_found (λ l. int_lt (pos 0) l && holds b (neg_ℤ l)) (literals b) c in
          let parts = and_parts (int_lt (pos 0) found.0) (holds b (neg_ℤ found.0)) found.2 in
          by found.0 (known found.0) refl parts.0 (holds-literals b found.0 ∙ found.1) parts.1

      up : is_contradictory a ≡ true → is_contradictory b ≡ true
      up c =
          let found = any_found (λ l. int_lt (pos 0) l && holds a (neg_ℤ l)) (literals a) c in
          let parts = and_parts (int_lt (pos 0) found.0) (holds a (neg_ℤ found.0)) found.2 in
          let held : holds a found.0 ≡ true = holds-literals a found.0 ∙ found.1 in
          let k = more.none found.0 held in
          both b found.0 parts.0 (more.same found.0 k ∙ held) (more.same (neg_ℤ found.0) (negation_known found.0 k) ∙ parts.1)

  rest_alike : (a b d : LiteralSet) → HasMore a b → IsKnown d → rest d b ≡ rest d a
  rest_alike a b d more all = filter_alike _ _ (literals d) (λ l m. ap not (more.same (neg_ℤ l) (negation_known l (all l (holds-literals d l ∙ m)))))

  -- one known literal more in both
  more_with : (a b : LiteralSet) (l : ℤ) → HasMore a b → known l ≡ true → HasMore (with_literal a l) (with_literal b l)
  more_with a b l more k = record {
    same = λ q kq. holds-with_literal b l q ∙ ap (λ h. eq_by_cmp lit_cmp q l || h) (more.same q kq) ∙ sym (holds-with_literal a l q);
    none = λ q h. ⊎_elim (λ is. ap known is ∙ k) (λ there. more.none q there) (held_before a l q h);
    apart = λ q kq h. ⊎_elim
        (λ is. absurd (false≢true (sym kq ∙ ap known is ∙ k)))
        (λ there. false_from_ne_true _ (λ n. ⊎_elim
        (λ is. false≢true (sym kq ∙ sym (turns q) ∙ ap known is ∙ k))
        (λ met. false≢true (sym (more.apart q kq there) ∙ met))
        (held_before b l (neg_ℤ q) n)))
        (held_before b l q h);
  }

  -- The propagations end alike.
  abbrev pub EndsAlike : Propagation → Propagation → Type 0
  EndsAlike (Closed used) w = w ≡ Closed used
  EndsAlike (Stuck place) w = w ≡ Stuck place
  EndsAlike (Open a) (Closed used) = ⊥
  EndsAlike (Open a) (Stuck place) = ⊥
  EndsAlike (Open a) (Open b) = HasMore a b

  after_alike : (n : ℕ) (v w : Propagation) → EndsAlike v w → EndsAlike (after_hint n v) (after_hint n w)
  after_alike n (Closed used) w e = ap (after_hint n) e
  after_alike n (Stuck place) w e = ap (after_hint n) e
  after_alike n (Open a) (Closed used) e = absurd e
  after_alike n (Open a) (Stuck place) e = absurd e
  after_alike n (Open a) (Open b) e = e

  by_rest_alike : (n : ℕ) (ls : List ℤ) (dense sparse : ℤ → Propagation) → ((l : ℤ) → among l ls ≡ true → EndsAlike (dense l) (sparse l)) → EndsAlike (by_rest n ls dense) (by_rest n ls sparse)
  by_rest_alike n [] dense sparse go = refl
  by_rest_alike n (l ∷ []) dense sparse go = after_alike n (dense l) (sparse l) (go l (or_left (eq_by_cmp lit_cmp l l) false (itself l)))
  by_rest_alike n (l ∷ k ∷ ls) dense sparse go = refl

  by_hint_alike : (n : ℕ) (d : Option LiteralSet) (a b : LiteralSet) (dense sparse : ℤ → Propagation) → HasMore a b → IfSome d IsKnown → ((l : ℤ) → known l ≡ true → EndsAlike (dense l) (sparse l)) → EndsAlike (by_hint n d a dense) (by_hint n d b sparse)
  by_hint_alike n None a b dense sparse more is go = refl
  by_hint_alike n (Some d) a b dense sparse more is go =
      let ends : EndsAlike (by_rest n (rest d a) dense) (by_rest n (rest d a) sparse) =
      by_rest_alike n (rest d a) dense sparse (λ l m. go l (is l (holds-literals d l ∙ (passed (λ k. not (holds a (neg_ℤ k))) l (literals d) m).0))) in
      subst (λ ls. EndsAlike (by_rest n (rest d a) dense) (by_rest n ls sparse)) (sym (rest_alike a b d more is)) ends

  pub walks_alike : (a b : LiteralSet) (hs : List Hint) → HasMore a b → AreKnownHints hs → EndsAlike (propagate_over a hs) (propagate_over b hs)
  unfolding propagate_over
  walks_alike a b [] more hints =
      subst (λ c. EndsAlike (propagate_over a []) (cond c (Closed []) (Open b))) (sym (contradictory_alike a b more))
      (elim (is_contradictory a) as (λ c. EndsAlike (cond c (Closed []) (Open a)) (cond c (Closed []) (Open b))) [ true ↦ refl | false ↦ more ])
  walks_alike a b (h ∷ hs) more hints =
      let dense : ℤ → Propagation = λ l. propagate_over (with_literal a l) hs in
      let sparse : ℤ → Propagation = λ l. propagate_over (with_literal b l) hs in
      subst (λ c. EndsAlike (propagate_over a (h ∷ hs)) (cond c (Closed []) (by_hint h.number h.clause b sparse))) (sym (contradictory_alike a b more))
      (elim (is_contradictory a) as (λ c. EndsAlike (cond c (Closed []) (by_hint h.number h.clause a dense)) (cond c (Closed []) (by_hint h.number h.clause b sparse))) [
        | true ↦ refl
        | false ↦ by_hint_alike h.number h.clause a b dense sparse more hints.0 (λ l k. walks_alike (with_literal a l) (with_literal b l) hs (more_with a b l more k) hints.1)
      ])

  -- ---- clauses and candidates

  pub negations_more : (a b : LiteralSet) → HasMore a b → HasMore (negations a) (negations b)
  negations_more a b more = record {
    same = λ l k. holds-negations b l ∙ more.same (neg_ℤ l) (negation_known l k) ∙ sym (holds-negations a l);
    none = λ l h. sym (turns l) ∙ more.none (neg_ℤ l) (sym (holds-negations a l) ∙ h);
    apart = λ l k h. holds-negations b (neg_ℤ l) ∙ more.apart (neg_ℤ l) (turns l ∙ k) (sym (holds-negations b l) ∙ h);
  }

  begun_more : (a b : LiteralSet) (ls : List ℤ) → HasMore a b → ((l : ℤ) → among l ls ≡ true → known l ≡ true) → HasMore (with_negations a ls) (with_negations b ls)
  begun_more a b [] more all = more
  begun_more a b (l ∷ ls) more all =
      more_with (with_negations a ls) (with_negations b ls) (neg_ℤ l)
      (begun_more a b ls more (λ k m. all k (or_right (eq_by_cmp lit_cmp k l) (among k ls) m)))
      (negation_known l (all l (or_left (eq_by_cmp lit_cmp l l) (among l ls) (itself l))))

  by_candidate_alike : (n : ℕ) (has : Bool) (v w : Propagation) (later : RatAnswer) → EndsAlike v w → by_candidate n has w later ≡ by_candidate n has v later
  by_candidate_alike n has (Closed used) w later e = ap (λ u. by_candidate n has u later) e
  by_candidate_alike n has (Stuck place) w later e = ap (λ u. by_candidate n has u later) e
  by_candidate_alike n has (Open a) (Closed used) later e = absurd e
  by_candidate_alike n has (Open a) (Stuck place) later e = absurd e
  by_candidate_alike n has (Open a) (Open b) later e = refl

  abbrev pub AreKnownGroups : List NamedGroup → Type 0
  AreKnownGroups gs = AllByRecursion (λ (g : NamedGroup). AreKnownHints g.hints) gs

  abbrev pub AreKnownEntries : List (ℕ × LiteralSet) → Type 0
  AreKnownEntries es = AllByRecursion (λ (e : ℕ × LiteralSet). IsKnown e.1) es

  group_known : (n : ℕ) (gs : List NamedGroup) → AreKnownGroups gs → AreKnownHints (unwrap_or (group_of n gs) [])
  group_known n [] all = tt
  group_known n (g ∷ gs) all = elim (g.candidate == n) as (λ b. AreKnownHints (unwrap_or (cond b (Some g.hints) (group_of n gs)) [])) [ true ↦ all.0 | false ↦ group_known n gs all.1 ]

  pub rats_alike : (a b : LiteralSet) (pivot : ℤ) (gs : List NamedGroup) (es : List (ℕ × LiteralSet)) → HasMore a b → AreKnownGroups gs → AreKnownEntries es → rat_over b pivot gs es ≡ rat_over a pivot gs es
  unfolding rat_over
  rats_alike a b pivot gs [] more groups entries = refl
  rats_alike a b pivot gs (e ∷ es) more groups entries =
      let o = group_of e.0 gs in
      ap (by_candidate e.0 (is_some o) (candidate_propagation b pivot e.1 o)) (rats_alike a b pivot gs es more groups entries.1)
      ∙ by_candidate_alike e.0 (is_some o) (candidate_propagation a pivot e.1 o) (candidate_propagation b pivot e.1 o) (rat_over a pivot gs es)
      (walks_alike (with_negations a (others e.1 (neg_ℤ pivot))) (with_negations b (others e.1 (neg_ℤ pivot))) (unwrap_or o [])
      (begun_more a b (others e.1 (neg_ℤ pivot)) more (λ l m. entries.0 l (holds-literals e.1 l ∙ (passed (λ k. not (eq_by_cmp lit_cmp k (neg_ℤ pivot))) l (literals e.1) m).0)))
      (group_known e.0 gs groups))
