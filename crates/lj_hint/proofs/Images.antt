-- Tests under a renaming of variables.
use Rattle.std.proofs.Common.{◌≡◌, ℕ, ap, refl, sym, subst, ◌∙◌, inl, inr, length, arith}
use Rattle.std.specs.Prelude.{ℤ, neg_ℤ, Bool, true, false, not, cond, T, ◌==◌, List, [], ◌∷◌, map, filter, Option, Some, None, option_map, unwrap_or, is_some, IfSome}
use Rattle.std.specs.List.{AllByRecursion, take-map}
use Rattle.std.specs.Ordering.{eq_by_cmp, nat_cmp, is_eq}
use Rattle.std.specs.Cmp.{both_ways, nat_cmp_total, tied_itself, Equal-is}
use Rattle.std.proofs.lemmas.Bool.{false≢true, or_left, or_cases}
use Rattle.std.proofs.lemmas.List.Elements.{recursion_from_All}
use Rattle.std.proofs.lemmas.List.Kept.{IsStrictlySortedBy-filter}
use lib.IntN.{neg_ℤ-neg_ℤ}
use Rattle.std.specs.FinMap as fin
use Rattle.std.specs.FinMap.Entries.{find, is_sorted}
use Rattle.lj_clause.specs.Literal.{lit_cmp}
use Rattle.lj_clause.specs.LiteralSet.{LiteralSet, holds, with_literal, literals, from_literals, with_negations, negations}
use Rattle.lj_clause.specs.Lemma.{LemmaValue, IsLemma}
use Rattle.lj_clause.specs.ClauseMap.{ClauseMap}
use Rattle.lj_clause.specs.Propagation.{Propagation, Closed, Open, Stuck, Hint, hints_in, rest, is_contradictory, after_hint, by_rest, by_hint, propagate_over, propagate}
use Rattle.lj_clause.specs.Rat.{HintGroup, NamedGroup, groups_in, group_of, candidates, others, RatAnswer, by_candidate, candidate_propagation, rat_over, rat}
use Rattle.lj_clause.specs.Renaming.{Renaming, literal_image, image, lemma_image, is_named, IsOneToOne, entry_image, clauses_image, hint_image, group_image, propagation_image, AreNamed, AreNamedHints}
use Rattle.lj_clause.proofs.Tests.{left_of, right_of}
use Rattle.lj_clause.proofs.Literals.{same_literal}
use Rattle.lj_clause.proofs.SortedEntries.{none_below}
use Rattle.lj_clause.proofs.LiteralSets.{holds-literals, held_before, literals-from_literals, from_literals-same, literals_rise}
use Rattle.lj_clause.proofs.Among.{among, itself, passed}
use Rattle.lj_clause.proofs.TruthLaws.{holds-negations, holds-with_negations}
use Rattle.lj_clause.proofs.Images.{AllKnown, image-with_literal, image-negations, holds-image, among-filter_image, image-kept_negations, length-filter_image}
use Rattle.lj_clause.proofs.Renaming.{known_by, all_known, named_by, IsRenamer-image, get-clauses_image, entries-clauses_image}
use Rattle.lj_hint.specs.declared.pair.Pair.{Pair}
use Rattle.lj_hint.specs.Hints.{named_hints, numbers}
use Rattle.lj_hint.specs.Case.{CaseValue, propagation_of}
use Rattle.lj_hint.specs.Receipt.{ReceiptValue, IsReceipt, receipt_with}
use Rattle.lj_hint.specs.Images.{pair_image, case_image, receipt_image, IsNamedCase, IsNamedReceipt}
use Rattle.lj_hint.specs.RatTest.{rat_told, rat_reply}
use Rattle.lj_hint.specs.LineTest.{line_reply, covered_reply}
use Rattle.lj_hint.specs.Laws.{TestsCommute, TestsCommuteWithRenamings, EndingOfImage}
use Rattle.lj_hint.proofs.Contradictions.{is_contradictory-image}

pub ending_image : EndingOfImage
ending_image m (Closed used) = refl
ending_image m (Open a) = refl
ending_image m (Stuck position) = refl

-- ---- steps of propagations

after-image : (m : Renaming) (n : ℕ) (w : Propagation) → after_hint n (propagation_image m w) ≡ propagation_image m (after_hint n w)
after-image m n (Closed used) = refl
after-image m n (Open a) = refl
after-image m n (Stuck position) = refl

-- what is left of an image leads on to the image, by how many literals it has and which
by_rest-image : (m : Renaming) (n : ℕ) (ks ls : List ℤ) (far near : ℤ → Propagation) → length ks ≡ length ls
    → ((q : ℤ) → among q ks ≡ among q (map (literal_image m) ls))
    → ((l : ℤ) → among l ls ≡ true → far (literal_image m l) ≡ propagation_image m (near l))
    → by_rest n ks far ≡ propagation_image m (by_rest n ls near)
by_rest-image m n [] [] far near many alike go = refl
by_rest-image m n [] (l ∷ ls) far near many alike go = absurd (omega arith)
by_rest-image m n (k ∷ ks) [] far near many alike go = absurd (omega arith)
by_rest-image m n (k ∷ []) (l ∷ []) far near many alike go =
    ap (λ x. after_hint n (far x)) (one k l (sym (alike k) ∙ or_left (eq_by_cmp lit_cmp k k) false (itself k)))
    ∙ ap (after_hint n) (go l (or_left (eq_by_cmp lit_cmp l l) false (itself l)))
    ∙ after-image m n (near l)
  where
    one : (k l : ℤ) → among k (map (literal_image m) (l ∷ [])) ≡ true → k ≡ literal_image m l
    one k l h = elim (or_cases (eq_by_cmp lit_cmp k (literal_image m l)) false h) [ inl e ↦ same_literal k (literal_image m l) e | inr e ↦ absurd (false≢true e) ]
by_rest-image m n (k ∷ []) (l ∷ o ∷ ls) far near many alike go = absurd (omega arith)
by_rest-image m n (k ∷ j ∷ ks) (l ∷ []) far near many alike go = absurd (omega arith)
by_rest-image m n (k ∷ j ∷ ks) (l ∷ o ∷ ls) far near many alike go = refl

if_open : (m : Renaming) (b : Bool) (v w : Propagation) → v ≡ propagation_image m w → cond b (Closed []) v ≡ propagation_image m (cond b (Closed []) w)
if_open m true v w e = refl
if_open m false v w e = e

module _ {v : ℕ} {m : Renaming} (one : IsOneToOne v m) where
  -- the clauses of hints are known
  abbrev KnownHints : List Hint → Type 0
  KnownHints hs = AllByRecursion (λ h. IfSome h.clause (λ c. is_named v m c ≡ true)) hs

  left_alike : (d a : LiteralSet) → AllKnown (known_by v m) d → AllKnown (known_by v m) a
      → (l : ℤ) → holds d l ≡ true → not (holds (image m a) (neg_ℤ (literal_image m l))) ≡ not (holds a (neg_ℤ l))
  left_alike d a alld alla l h =
      let is = IsRenamer-image one in
      ap not (ap (holds (image m a)) (sym (is.turns l)) ∙ holds-image is a (neg_ℤ l) alla (is.negated l (alld l h)))

  among-rest : (d a : LiteralSet) → AllKnown (known_by v m) d → AllKnown (known_by v m) a
      → (q : ℤ) → among q (rest (image m d) (image m a)) ≡ among q (map (literal_image m) (rest d a))
  among-rest d a alld alla = among-filter_image (IsRenamer-image one) d (λ l. not (holds a (neg_ℤ l))) (λ l. not (holds (image m a) (neg_ℤ l))) (left_alike d a alld alla)

  length-rest : (d a : LiteralSet) → AllKnown (known_by v m) d → AllKnown (known_by v m) a
      → length (rest (image m d) (image m a)) ≡ length (rest d a)
  length-rest d a alld alla = length-filter_image (IsRenamer-image one) d (λ l. not (holds a (neg_ℤ l))) (λ l. not (holds (image m a) (neg_ℤ l))) alld (left_alike d a alld alla)

  left : (d a : LiteralSet) → is_named v m d ≡ true → is_named v m a ≡ true
      → (from_literals (rest (image m d) (image m a)) ≡ image m (from_literals (rest d a)))
      × (length (rest (image m d) (image m a)) ≡ length (rest d a))
  left d a named there =
      let alld = all_known v m d named in
      let alla = all_known v m a there in (
        from_literals-same _ _ (among-rest d a alld alla)
            ∙ ap (λ ls. from_literals (map (literal_image m) ls)) (sym (literals-from_literals (rest d a) (IsStrictlySortedBy-filter lit_cmp (λ l. not (holds a (neg_ℤ l))) (literals d) (literals_rise d)))),
        length-rest d a alld alla,
      )

  known_more : (a : LiteralSet) (l : ℤ) → AllKnown (known_by v m) a → known_by v m l ≡ true → AllKnown (known_by v m) (with_literal a l)
  known_more a l all k q h = elim (held_before a l q h) [ inl same ↦ ap (known_by v m) same ∙ k | inr there ↦ all q there ]

  known_back : (l : ℤ) → known_by v m (neg_ℤ l) ≡ true → known_by v m l ≡ true
  known_back l k = ap (known_by v m) (sym (neg_ℤ-neg_ℤ l)) ∙ (IsRenamer-image one).negated (neg_ℤ l) k

  negations_known : (c : LiteralSet) → AllKnown (known_by v m) c → AllKnown (known_by v m) (negations c)
  negations_known c all l h = known_back l (all (neg_ℤ l) (sym (holds-negations c l) ∙ h))

  left_known : (d a : LiteralSet) (l : ℤ) → AllKnown (known_by v m) d → among l (rest d a) ≡ true → known_by v m l ≡ true
  left_known d a l all h = all l (holds-literals d l ∙ (passed (λ k. not (holds a (neg_ℤ k))) l (literals d) h).0)

  by_hint-image : (n : ℕ) (d : Option LiteralSet) (a : LiteralSet) (far near : ℤ → Propagation) → AllKnown (known_by v m) a
      → IfSome d (λ c. is_named v m c ≡ true)
      → ((l : ℤ) → known_by v m l ≡ true → far (literal_image m l) ≡ propagation_image m (near l))
      → by_hint n (option_map (image m) d) (image m a) far ≡ propagation_image m (by_hint n d a near)
  by_hint-image n None a far near all named go = refl
  by_hint-image n (Some d) a far near all named go =
      let known = all_known v m d named in
      by_rest-image m n (rest (image m d) (image m a)) (rest d a) far near (length-rest d a known all) (among-rest d a known all)
      (λ l h. go l (left_known d a l known h))

  propagate-image : (a : LiteralSet) (hs : List Hint) → AllKnown (known_by v m) a → KnownHints hs
      → propagate_over (image m a) (map (hint_image m) hs) ≡ propagation_image m (propagate_over a hs)
  unfolding propagate_over
  propagate-image a [] all known =
      ap (λ b. cond b (Closed []) (Open (image m a))) (is_contradictory-image (IsRenamer-image one) a all)
      ∙ if_open m (is_contradictory a) (Open (image m a)) (Open a) refl
  propagate-image a (h ∷ hs) all known =
      let far : ℤ → Propagation = λ l. propagate_over (with_literal (image m a) l) (map (hint_image m) hs) in
      let near : ℤ → Propagation = λ l. propagate_over (with_literal a l) hs in
      ap (λ b. cond b (Closed []) (by_hint h.number (option_map (image m) h.clause) (image m a) far)) (is_contradictory-image (IsRenamer-image one) a all)
      ∙ if_open m (is_contradictory a) (by_hint h.number (option_map (image m) h.clause) (image m a) far) (by_hint h.number h.clause a near)
      (by_hint-image h.number h.clause a far near all known.0 (λ l k.
      ap (λ s. propagate_over s (map (hint_image m) hs)) (sym (image-with_literal (literal_image m) a l))
      ∙ propagate-image (with_literal a l) hs (known_more a l all k) known.1))

  -- what an open propagation ends with is known
  abbrev KnownAtEnd : Propagation → Type 0
  KnownAtEnd (Closed used) = Unit {0}
  KnownAtEnd (Open a) = AllKnown (known_by v m) a
  KnownAtEnd (Stuck position) = Unit {0}

  after_known : (n : ℕ) (w : Propagation) → KnownAtEnd w → KnownAtEnd (after_hint n w)
  after_known n (Closed used) h = tt
  after_known n (Open a) h = h
  after_known n (Stuck position) h = tt

  rest_known : (n : ℕ) (ls : List ℤ) (near : ℤ → Propagation) → ((l : ℤ) → among l ls ≡ true → KnownAtEnd (near l)) → KnownAtEnd (by_rest n ls near)
  rest_known n [] near go = tt
  rest_known n (l ∷ []) near go = after_known n (near l) (go l (or_left (eq_by_cmp lit_cmp l l) false (itself l)))
  rest_known n (l ∷ k ∷ ls) near go = tt

  hint_known : (n : ℕ) (d : Option LiteralSet) (a : LiteralSet) (near : ℤ → Propagation) → IfSome d (λ c. is_named v m c ≡ true)
      → ((l : ℤ) → known_by v m l ≡ true → KnownAtEnd (near l)) → KnownAtEnd (by_hint n d a near)
  hint_known n None a near named go = tt
  hint_known n (Some d) a near named go = rest_known n (rest d a) near (λ l h. go l (left_known d a l (all_known v m d named) h))

  propagation_known : (a : LiteralSet) (hs : List Hint) → AllKnown (known_by v m) a → KnownHints hs → KnownAtEnd (propagate_over a hs)
  unfolding propagate_over
  propagation_known a [] all known = elim (is_contradictory a) as (λ b. KnownAtEnd (cond b (Closed []) (Open a))) [ true ↦ tt | false ↦ all ]
  propagation_known a (h ∷ hs) all known =
      elim (is_contradictory a) as (λ b. KnownAtEnd (cond b (Closed []) (by_hint h.number h.clause a (λ l. propagate_over (with_literal a l) hs)))) [
        | true ↦ tt
        | false ↦ hint_known h.number h.clause a (λ l. propagate_over (with_literal a l) hs) known.0 (λ l k. propagation_known (with_literal a l) hs (known_more a l all k) known.1)
      ]

-- ---- candidates

by_candidate-image : (m : Renaming) (n : ℕ) (has : Bool) (w : Propagation) (later : RatAnswer) → by_candidate n has (propagation_image m w) later ≡ by_candidate n has w later
by_candidate-image m n has (Closed used) later = refl
by_candidate-image m n has (Open a) later = refl
by_candidate-image m n has (Stuck position) later = refl

group_of-image : (m : Renaming) (n : ℕ) (gs : List NamedGroup) → group_of n (map (group_image m) gs) ≡ option_map (map (hint_image m)) (group_of n gs)
group_of-image m n [] = refl
group_of-image m n (g ∷ gs) = elim (g.candidate == n) as (λ b. cond b (Some (map (hint_image m) g.hints)) (group_of n (map (group_image m) gs)) ≡ option_map (map (hint_image m)) (cond b (Some g.hints) (group_of n gs))) [ true ↦ refl | false ↦ group_of-image m n gs ]

is_some-mapped : (m : Renaming) (o : Option (List Hint)) → is_some (option_map (map (hint_image m)) o) ≡ is_some o
is_some-mapped m None = refl
is_some-mapped m (Some hs) = refl

unwrapped : (m : Renaming) (o : Option (List Hint)) → unwrap_or (option_map (map (hint_image m)) o) [] ≡ map (hint_image m) (unwrap_or o [])
unwrapped m None = refl
unwrapped m (Some hs) = refl

hints_in-image : (m : Renaming) (p : ClauseMap) (ns : List ℕ) → hints_in (clauses_image m p) ns ≡ map (hint_image m) (hints_in p ns)
hints_in-image m p [] = refl
hints_in-image m p (n ∷ ns) = λ i. record { number = n; clause = get-clauses_image m p n i } ∷ hints_in-image m p ns i

groups_in-image : (m : Renaming) (p : ClauseMap) (gs : List HintGroup) → groups_in (clauses_image m p) gs ≡ map (group_image m) (groups_in p gs)
groups_in-image m p [] = refl
groups_in-image m p (g ∷ gs) = λ i. record { candidate = g.candidate; hints = hints_in-image m p g.hints i } ∷ groups_in-image m p gs i

-- what holds of each clause that a map has under a number holds of its entries
each_entry : (P : LiteralSet → Type 0) (es : List (ℕ × LiteralSet)) → T (is_sorted nat_cmp es) → ((n : ℕ) (c : LiteralSet) → find nat_cmp n es ≡ Some c → P c) → AllByRecursion (λ (e : ℕ × LiteralSet). P e.1) es
each_entry P [] sorted each = tt
each_entry P (e ∷ es) sorted each = (
  each e.0 e.1 (ap (λ b. cond b (Some e.1) (find nat_cmp e.0 es)) (ap is_eq (tied_itself nat_cmp_total e.0))),
  each_entry P es (right_of _ _ sorted) (λ n c h. each n c (elim (eq_by_cmp nat_cmp n e.0) as (λ b. eq_by_cmp nat_cmp n e.0 ≡ b → cond b (Some e.1) (find nat_cmp n es) ≡ Some c) [
    | true ↦ λ t. absurd (false≢true (sym (ap is_some (none_below e.0 es (left_of _ _ sorted))) ∙ ap is_some (ap (λ k. find nat_cmp k es) (sym (fin.nat_cmp-IsAntisymmetric n e.0 ((Equal-is (nat_cmp n e.0)).0 t))) ∙ h)))
    | false ↦ λ t. h
  ] refl)),
)

module _ {v : ℕ} {m : Renaming} (one : IsOneToOne v m) where
  -- the clauses of numbered clauses are known
  abbrev KnownEntries : List (ℕ × LiteralSet) → Type 0
  KnownEntries es = AllByRecursion (λ (e : ℕ × LiteralSet). is_named v m e.1 ≡ true) es

  entries_known : (p : ClauseMap) → AreNamed v m p → KnownEntries (fin.entries p)
  entries_known p named = each_entry (λ c. is_named v m c ≡ true) (fin.entries p) (fin.entries_sorted p) (λ n c h. named n c (fin.get-entries p n ∙ h))

  kept_known : (test : ℕ × LiteralSet → Bool) (es : List (ℕ × LiteralSet)) → KnownEntries es → KnownEntries (filter test es)
  kept_known test [] known = tt
  kept_known test (e ∷ es) known =
      elim (test e) as (λ b. KnownEntries (cond b (e ∷ filter test es) (filter test es))) [ true ↦ (known.0, kept_known test es known.1) | false ↦ kept_known test es known.1 ]

  hints_known : (p : ClauseMap) (ns : List ℕ) → AreNamed v m p → KnownHints one (hints_in p ns)
  hints_known p [] named = tt
  hints_known p (n ∷ ns) named = (go (fin.get p n) refl, hints_known p ns named)
    where
      go : (o : Option LiteralSet) → fin.get p n ≡ o → IfSome o (λ c. is_named v m c ≡ true)
      go None e = tt
      go (Some c) e = named n c e

  filter-image : (q : ℤ) (es : List (ℕ × LiteralSet)) → known_by v m q ≡ true → KnownEntries es
      → filter (λ (e : ℕ × LiteralSet). holds e.1 (literal_image m q)) (map (entry_image m) es) ≡ map (entry_image m) (filter (λ (e : ℕ × LiteralSet). holds e.1 q) es)
  filter-image q [] k known = refl
  filter-image q (e ∷ es) k known =
      ap (λ b. cond b (entry_image m e ∷ filter (λ (f : ℕ × LiteralSet). holds f.1 (literal_image m q)) (map (entry_image m) es)) (filter (λ (f : ℕ × LiteralSet). holds f.1 (literal_image m q)) (map (entry_image m) es))) (holds-image (IsRenamer-image one) e.1 q (all_known v m e.1 known.0) k)
      ∙ elim (holds e.1 q) as (λ b. cond b (entry_image m e ∷ filter (λ (f : ℕ × LiteralSet). holds f.1 (literal_image m q)) (map (entry_image m) es)) (filter (λ (f : ℕ × LiteralSet). holds f.1 (literal_image m q)) (map (entry_image m) es)) ≡ map (entry_image m) (cond b (e ∷ filter (λ (f : ℕ × LiteralSet). holds f.1 q) es) (filter (λ (f : ℕ × LiteralSet). holds f.1 q) es))) [
        | true ↦ ap (λ fs. entry_image m e ∷ fs) (filter-image q es k known.1)
        | false ↦ filter-image q es k known.1
      ]

  found : (p : ClauseMap) (pivot : ℤ) → AreNamed v m p → known_by v m pivot ≡ true
      → candidates (clauses_image m p) (literal_image m pivot) ≡ map (entry_image m) (candidates p pivot)
  found p pivot named k =
      let is = IsRenamer-image one in
      (λ i. filter (λ (e : ℕ × LiteralSet). holds e.1 (sym (is.turns pivot) i)) (entries-clauses_image m p i))
      ∙ filter-image (neg_ℤ pivot) (fin.entries p) (is.negated pivot k) (entries_known p named)

  -- what a candidate's propagation begins with
  begun : (a d : LiteralSet) (pivot : ℤ) → AllKnown (known_by v m) d → known_by v m pivot ≡ true
      → with_negations (image m a) (others (image m d) (neg_ℤ (literal_image m pivot))) ≡ image m (with_negations a (others d (neg_ℤ pivot)))
  begun a d pivot all k =
      let is = IsRenamer-image one in
      let q : ℤ = neg_ℤ pivot in
      ap (λ x. with_negations (image m a) (others (image m d) x)) (sym (is.turns pivot))
      ∙ image-kept_negations is a d (λ l. not (eq_by_cmp lit_cmp l q)) (λ l. not (eq_by_cmp lit_cmp l (literal_image m q)))
      (λ l h. ap not (both_ways _ _
      (λ e. ap (λ x. eq_by_cmp lit_cmp x q) (is.apart l q (all l h) (is.negated pivot k) (same_literal (literal_image m l) (literal_image m q) e)) ∙ itself q)
      (λ e. ap (λ x. eq_by_cmp lit_cmp (literal_image m x) (literal_image m q)) (same_literal l q e) ∙ itself (literal_image m q))))

  begun_known : (a d : LiteralSet) (pivot : ℤ) → AllKnown (known_by v m) a → AllKnown (known_by v m) d → AllKnown (known_by v m) (with_negations a (others d (neg_ℤ pivot)))
  begun_known a d pivot alla alld l h =
      let is = IsRenamer-image one in
      elim (or_cases (among (neg_ℤ l) (others d (neg_ℤ pivot))) (holds a l) (sym (holds-with_negations a (others d (neg_ℤ pivot)) l) ∙ h)) [
        | inl turned ↦ known_back one l (alld (neg_ℤ l) (holds-literals d (neg_ℤ l) ∙ (passed (λ k. not (eq_by_cmp lit_cmp k (neg_ℤ pivot))) (neg_ℤ l) (literals d) turned).0))
        | inr there ↦ alla l there
      ]

  abbrev KnownGroups : List NamedGroup → Type 0
  KnownGroups gs = AllByRecursion (λ (g : NamedGroup). KnownHints one g.hints) gs

  group_known : (n : ℕ) (gs : List NamedGroup) → KnownGroups gs → KnownHints one (unwrap_or (group_of n gs) [])
  group_known n [] known = tt
  group_known n (g ∷ gs) known = elim (g.candidate == n) as (λ b. KnownHints one (unwrap_or (cond b (Some g.hints) (group_of n gs)) [])) [ true ↦ known.0 | false ↦ group_known n gs known.1 ]

  candidate-image : (a d : LiteralSet) (pivot : ℤ) (o : Option (List Hint)) → AllKnown (known_by v m) a → AllKnown (known_by v m) d → known_by v m pivot ≡ true
      → KnownHints one (unwrap_or o [])
      → candidate_propagation (image m a) (literal_image m pivot) (image m d) (option_map (map (hint_image m)) o) ≡ propagation_image m (candidate_propagation a pivot d o)
  candidate-image a d pivot o alla alld k known =
      (λ i. propagate_over (begun a d pivot alld k i) (unwrapped m o i))
      ∙ propagate-image one (with_negations a (others d (neg_ℤ pivot))) (unwrap_or o []) (begun_known a d pivot alla alld) known

  rat-image : (a : LiteralSet) (pivot : ℤ) (gs : List NamedGroup) (es : List (ℕ × LiteralSet)) → AllKnown (known_by v m) a → known_by v m pivot ≡ true
      → KnownGroups gs → KnownEntries es
      → rat_over (image m a) (literal_image m pivot) (map (group_image m) gs) (map (entry_image m) es) ≡ rat_over a pivot gs es
  unfolding rat_over
  rat-image a pivot gs [] all k groups known = refl
  rat-image a pivot gs (e ∷ es) all k groups known =
      let o = group_of e.0 gs in
      (λ i. by_candidate e.0 (is_some (group_of-image m e.0 gs i)) (candidate_propagation (image m a) (literal_image m pivot) (image m e.1) (group_of-image m e.0 gs i)) (rat-image a pivot gs es all k groups known.1 i))
      ∙ (λ i. by_candidate e.0 (is_some-mapped m o i) (candidate-image a e.1 pivot o all (all_known v m e.1 known.0) k (group_known e.0 gs groups) i) (rat_over a pivot gs es))
      ∙ by_candidate-image m e.0 (is_some o) (candidate_propagation a pivot e.1 o) (rat_over a pivot gs es)

  groups_known : (p : ClauseMap) (gs : List HintGroup) → AreNamed v m p → KnownGroups (groups_in p gs)
  groups_known p [] named = tt
  groups_known p (g ∷ gs) named = (hints_known p g.hints named, groups_known p gs named)

  rat_in : (p : ClauseMap) (a : LiteralSet) (q : ℤ) (gs : List HintGroup) → AreNamed v m p → AllKnown (known_by v m) a → known_by v m q ≡ true
      → rat (clauses_image m p) (image m a) (literal_image m q) gs ≡ rat p a q gs
  rat_in p a q gs named all k =
      (λ i. rat_over (image m a) (literal_image m q) (groups_in-image m p gs i) (found p q named k i))
      ∙ rat-image a q (groups_in p gs) (candidates p q) all k (groups_known p gs named) (kept_known (λ e. holds e.1 (neg_ℤ q)) (fin.entries p) (entries_known p named))

  open_reply : (p : ClauseMap) (a : LiteralSet) (pivot : Option ℤ) (gs : List HintGroup) → AreNamed v m p → AllKnown (known_by v m) a
      → IfSome pivot (λ q. known_by v m q ≡ true)
      → rat_reply (clauses_image m p) (image m a) (option_map (literal_image m) pivot) (groups_in (clauses_image m p) gs) ≡ rat_reply p a pivot (groups_in p gs)
  open_reply p a None gs named all k = refl
  open_reply p a (Some q) gs named all k = ap rat_told (rat_in p a q gs named all k)

  reply-image : (p : ClauseMap) (pivot : Option ℤ) (gs : List HintGroup) (w : Propagation) → AreNamed v m p → KnownAtEnd one w
      → IfSome pivot (λ q. known_by v m q ≡ true)
      → line_reply (clauses_image m p) (option_map (literal_image m) pivot) gs (propagation_image m w) ≡ line_reply p pivot gs w
  reply-image p pivot gs (Closed used) named all k = refl
  reply-image p pivot gs (Open a) named all k = ap covered_reply (open_reply p a pivot gs named all k)
  reply-image p pivot gs (Stuck position) named all k = refl

  pivot_known : (c : LiteralSet) (pivot : Option ℤ) → AllKnown (known_by v m) c → IsLemma (record { clause = c; pivot = pivot }) → IfSome pivot (λ q. known_by v m q ≡ true)
  pivot_known c None all h = tt
  pivot_known c (Some q) all h = all q h

  line : (p : ClauseMap) (lemma : LemmaValue) (ns : List ℕ) (gs : List HintGroup) → AreNamed v m p → IsLemma lemma → is_named v m lemma.clause ≡ true
      → line_reply (clauses_image m p) (option_map (literal_image m) lemma.pivot) gs (propagate (clauses_image m p) (negations (image m lemma.clause)) ns)
      ≡ line_reply p lemma.pivot gs (propagate p (negations lemma.clause) ns)
  line p lemma ns gs named proper there =
      let all = all_known v m lemma.clause there in
      let begins = negations_known one lemma.clause all in
      let hints = hints_known p ns named in
      ap (line_reply (clauses_image m p) (option_map (literal_image m) lemma.pivot) gs)
      ((λ i. propagate_over (sym (image-negations (IsRenamer-image one) lemma.clause) i) (hints_in-image m p ns i))
      ∙ propagate-image one (negations lemma.clause) (hints_in p ns) begins hints)
      ∙ reply-image p lemma.pivot gs (propagate p (negations lemma.clause) ns) named (propagation_known one (negations lemma.clause) (hints_in p ns) begins hints) (pivot_known lemma.clause lemma.pivot all proper)

-- ---- receipts

named_hints-image : (m : Renaming) (ps : List Pair) → named_hints (map (pair_image m) ps) ≡ map (hint_image m) (named_hints ps)
named_hints-image m [] = refl
named_hints-image m (p ∷ ps) = ap (λ hs. hint_image m (record { number = p.joint; clause = Some p.clause }) ∷ hs) (named_hints-image m ps)

numbers-image : (m : Renaming) (ps : List Pair) → numbers (map (pair_image m) ps) ≡ numbers ps
numbers-image m [] = refl
numbers-image m (p ∷ ps) = ap (λ ns. p.joint ∷ ns) (numbers-image m ps)

module _ {v : ℕ} {m : Renaming} (one : IsOneToOne v m) where
  pairs_known : (ps : List Pair) → AllByRecursion (λ (p : Pair). is_named v m p.clause ≡ true) ps → KnownHints one (named_hints ps)
  pairs_known [] known = tt
  pairs_known (p ∷ ps) known = (known.0, pairs_known ps known.1)

  case-image : (c : CaseValue) → IsNamedCase v m c → propagation_of (case_image m c) ≡ propagation_image m (propagation_of c)
  case-image c named =
      (λ i. propagate_over (sym (image-negations (IsRenamer-image one) c.lemma.clause) i) (named_hints-image m c.hints i))
      ∙ propagate-image one (negations c.lemma.clause) (named_hints c.hints) (negations_known one c.lemma.clause (all_known v m c.lemma.clause named.lemma))
      (pairs_known c.hints (recursion_from_All _ c.hints named.hints))

  pub receipt-image : (r : ReceiptValue) → IsNamedReceipt v m r → IsReceipt r → IsReceipt (receipt_image m r)
  receipt-image r named is =
      (λ i. propagate_over (sym (image-negations (IsRenamer-image one) r.lemma.clause) i) (named_hints-image m r.listed i))
      ∙ propagate-image one (negations r.lemma.clause) (named_hints r.listed) (negations_known one r.lemma.clause (all_known v m r.lemma.clause named.lemma))
      (pairs_known r.listed (recursion_from_All _ r.listed named.listed))
      ∙ ap (propagation_image m) is
      ∙ ap Closed (sym (numbers-image m r.listed))

  known_groups : (gs : List NamedGroup) → AllByRecursion (λ (g : NamedGroup). AreNamedHints v m g.hints) gs → KnownGroups one gs
  known_groups [] all = tt
  known_groups (g ∷ gs) all = (recursion_from_All _ g.hints all.0, known_groups gs all.1)

  tests : TestsCommute v m
  tests = record {
    left = left one;
    propagated = λ a hs there known. propagate-image one a hs (all_known v m a there) (recursion_from_All _ hs known);
    open_named = λ a b hs there known opens. named_by v m b (subst (KnownAtEnd one) opens (propagation_known one a hs (all_known v m a there) (recursion_from_All _ hs known)));
    found = found one;
    covered = λ a pivot gs es there k groups known. rat-image one a pivot gs es (all_known v m a there) k (known_groups gs (recursion_from_All _ gs groups)) (recursion_from_All _ es known);
    covered_in = λ p a pivot gs named there k. rat_in one p a pivot gs named (all_known v m a there) k;
    line = line one;
    case = case-image;
    read = λ c count. ap (receipt_with c.seat c.own (lemma_image m c.lemma)) (take-map (pair_image m) count c.hints);
    receipt = receipt-image;
  }

pub tests_commute : TestsCommuteWithRenamings
tests_commute v m one = tests one
