-- Clause maps without the clauses whose number isn't kept.
use Rattle.std.proofs.Common.{◌≡◌, ℕ, ap, refl, sym, ◌∙◌, subst, List, [], ◌∷◌, map}
use Rattle.std.specs.Prelude.{Bool, true, false, cond, not, ◌&&◌, ◌||◌, ◌==◌, ℤ, neg_ℤ, filter, flat_map, Option, Some, None, is_some}
use Rattle.std.specs.List.{list_any, list_all, AllByRecursion, AllZip}
use Rattle.std.specs.Ordering.{nat_cmp, eq_by_cmp}
use Rattle.std.specs.Cmp.{nat_cmp_total, Equal-is}
use Rattle.std.specs.FinMap as fin
use Rattle.std.specs.FinMap.{nat_cmp-IsAntisymmetric}
use Rattle.std.specs.FinMap.Entries.{same_entries, is_sorted-where_key, find-where_key}
use Rattle.std.proofs.lemmas.Bool.{false≢true, not-true, and_parts, and_from}
use borrow.Author.Tests.{eqb-true}
use Rattle.lj_clause.specs.LiteralSet.{LiteralSet, holds, with_negations}
use Rattle.lj_clause.specs.ClauseMap.{ClauseMap}
use Rattle.lj_clause.specs.Propagation.{propagate}
use Rattle.lj_clause.specs.Rat.{HintGroup, RatAnswer, Covered, MissingGroup, GroupStuck, GroupOpen, rat, candidates, others, is_covered}
use Rattle.lj_clause.specs.Laws.{hints_given}
use Rattle.lj_clause.proofs.PropagationLaws.{propagate-agree}
use Rattle.lj_clause.proofs.RatLaws as ratlaws
use Rattle.lj_text.specs.Steps.{names, names_all, are_distinct, without}
use Rattle.lj_trim.proofs.MarkLemmas.{all-front, all-back}

-- the second map is the first without the clauses whose number isn't kept
abbrev pub Restricts : (ℕ → Bool) → ClauseMap → ClauseMap → Type 0
Restricts kept p q = (n : ℕ) → fin.get q n ≡ cond (kept n) (fin.get p n) None

same_number : (m n : ℕ) → eq_by_cmp nat_cmp m n ≡ true → m ≡ n
same_number m n e = nat_cmp-IsAntisymmetric m n ((Equal-is (nat_cmp m n)).0 e)

kept_first : (b k : Bool) (x y : Option LiteralSet) → (b ≡ true → k ≡ true) → cond b x (cond k y None) ≡ cond k (cond b x y) None
kept_first true true x y h = refl
kept_first true false x y h = absurd (false≢true (h refl))
kept_first false true x y h = refl
kept_first false false x y h = refl

lost_first : (b k : Bool) (x y : Option LiteralSet) → (b ≡ true → k ≡ false) → cond k y None ≡ cond k (cond b x y) None
lost_first true true x y h = absurd (false≢true (sym (h refl)))
lost_first true false x y h = refl
lost_first false true x y h = refl
lost_first false false x y h = refl

gone_first : (b k : Bool) (y : Option LiteralSet) → cond b None (cond k y None) ≡ cond k (cond b None y) None
gone_first true true y = refl
gone_first true false y = refl
gone_first false true y = refl
gone_first false false y = refl

-- a clause under a kept number goes into both maps
pub restricts-insert : (kept : ℕ → Bool) (p q : ClauseMap) (k : ℕ) (c : LiteralSet) → kept k ≡ true → Restricts kept p q → Restricts kept (fin.insert p k c) (fin.insert q k c)
restricts-insert kept p q k c is h n =
    fin.get-insert nat_cmp_total q k c n
    ∙ ap (λ o. cond (eq_by_cmp nat_cmp n k) (Some c) o) (h n)
    ∙ kept_first (eq_by_cmp nat_cmp n k) (kept n) (Some c) (fin.get p n) (λ e. ap kept (same_number n k e) ∙ is)
    ∙ ap (λ o. cond (kept n) o None) (sym (fin.get-insert nat_cmp_total p k c n))

-- one under another number goes into the first alone
pub restricts-lost : (kept : ℕ → Bool) (p q : ClauseMap) (k : ℕ) (c : LiteralSet) → kept k ≡ false → Restricts kept p q → Restricts kept (fin.insert p k c) q
restricts-lost kept p q k c is h n =
    h n
    ∙ lost_first (eq_by_cmp nat_cmp n k) (kept n) (Some c) (fin.get p n) (λ e. ap kept (same_number n k e) ∙ is)
    ∙ ap (λ o. cond (kept n) o None) (sym (fin.get-insert nat_cmp_total p k c n))

-- numbers leave the first map, and those of them that are kept the second
pub restricts-without : (kept : ℕ → Bool) (p q : ClauseMap) (ns : List ℕ) → Restricts kept p q → Restricts kept (without p ns) (without q (filter kept ns))
restricts-without kept p q [] h = h
restricts-without kept p q (m ∷ ms) h =
    let later = restricts-without kept p q ms h in
    elim (kept m) as (λ b. kept m ≡ b → Restricts kept (fin.remove (without p ms) m) (without q (cond b (m ∷ filter kept ms) (filter kept ms)))) [
      | true ↦ λ is n.
          fin.get-remove nat_cmp_total (without q (filter kept ms)) m n
          ∙ ap (λ o. cond (eq_by_cmp nat_cmp n m) None o) (later n)
          ∙ gone_first (eq_by_cmp nat_cmp n m) (kept n) (fin.get (without p ms) n)
          ∙ ap (λ o. cond (kept n) o None) (sym (fin.get-remove nat_cmp_total (without p ms) m n))
      | false ↦ λ is n.
          later n
          ∙ lost_first (eq_by_cmp nat_cmp n m) (kept n) None (fin.get (without p ms) n) (λ e. ap kept (same_number n m e) ∙ is)
          ∙ ap (λ o. cond (kept n) o None) (sym (fin.get-remove nat_cmp_total (without p ms) m n))
    ] refl

-- each of the numbers is kept
abbrev pub AreKept : (ℕ → Bool) → List ℕ → Type 0
AreKept kept ns = AllByRecursion (λ n. kept n ≡ true) ns

pub kept_same : (kept : ℕ → Bool) (p q : ClauseMap) (n : ℕ) → Restricts kept p q → kept n ≡ true → fin.get p n ≡ fin.get q n
kept_same kept p q n h is = sym (h n ∙ ap (λ b. cond b (fin.get p n) None) is)

pub all_same : (kept : ℕ → Bool) (p q : ClauseMap) (ns : List ℕ) → Restricts kept p q → AreKept kept ns → AllByRecursion (λ n. fin.get p n ≡ fin.get q n) ns
all_same kept p q [] h is = tt
all_same kept p q (n ∷ ns) h is = (kept_same kept p q n h is.0, all_same kept p q ns h is.1)

pub names_same : (p q : ClauseMap) (ns : List ℕ) → AllByRecursion (λ n. fin.get p n ≡ fin.get q n) ns → names_all p ns ≡ names_all q ns
names_same p q [] h = refl
names_same p q (n ∷ ns) h = λ i. is_some (h.0 i) && names_same p q ns h.1 i

-- the kept ones of numbers of the first map are in the second
pub names_kept : (kept : ℕ → Bool) (p q : ClauseMap) (ns : List ℕ) → Restricts kept p q → names_all p ns ≡ true → names_all q (filter kept ns) ≡ true
names_kept kept p q [] h e = refl
names_kept kept p q (n ∷ ns) h e =
    let parts = and_parts (names p n) (names_all p ns) e in
    let later = names_kept kept p q ns h parts.1 in
    elim (kept n) as (λ b. kept n ≡ b → names_all q (cond b (n ∷ filter kept ns) (filter kept ns)) ≡ true) [
      | true ↦ λ is. and_from (names q n) (names_all q (filter kept ns)) (ap is_some (sym (kept_same kept p q n h is)) ∙ parts.0) later
      | false ↦ λ is. later
    ] refl

-- the groups whose candidate is kept
abbrev pub kept_groups : (ℕ → Bool) → List HintGroup → List HintGroup
kept_groups kept groups = filter (λ g. kept g.candidate) groups

abbrev pub group_hints : List HintGroup → List ℕ
group_hints groups = flat_map (λ (g : HintGroup). g.hints) groups

pub groups_named : (kept : ℕ → Bool) (p q : ClauseMap) (groups : List HintGroup) → Restricts kept p q → AreKept kept (group_hints groups)
    → list_all (λ (g : HintGroup). names p g.candidate && names_all p g.hints) groups ≡ true → list_all (λ (g : HintGroup). names q g.candidate && names_all q g.hints) (kept_groups kept groups) ≡ true
groups_named kept p q [] h all e = refl
groups_named kept p q (g ∷ gs) h all e =
    let parts = and_parts (names p g.candidate && names_all p g.hints) (list_all (λ (g : HintGroup). names p g.candidate && names_all p g.hints) gs) e in
    let one = and_parts (names p g.candidate) (names_all p g.hints) parts.0 in
    let later = groups_named kept p q gs h (all-back (λ n. kept n ≡ true) g.hints (group_hints gs) all) parts.1 in
    let hints : names_all q g.hints ≡ true = sym (names_same p q g.hints (all_same kept p q g.hints h (all-front (λ n. kept n ≡ true) g.hints (group_hints gs) all))) ∙ one.1 in
    elim (kept g.candidate) as (λ b. kept g.candidate ≡ b → list_all (λ (g : HintGroup). names q g.candidate && names_all q g.hints) (cond b (g ∷ kept_groups kept gs) (kept_groups kept gs)) ≡ true) [
      | true ↦ λ is. and_from (names q g.candidate && names_all q g.hints) (list_all (λ (g : HintGroup). names q g.candidate && names_all q g.hints) (kept_groups kept gs))
          (and_from (names q g.candidate) (names_all q g.hints) (ap is_some (sym (kept_same kept p q g.candidate h is)) ∙ one.0) hints) later
      | false ↦ λ is. later
    ] refl

none_left : (a b : Bool) → (a || b) ≡ false → (a ≡ false) × (b ≡ false)
none_left true b e = absurd (false≢true (sym e))
none_left false b e = (refl, e)

still_none : (kept : ℕ → Bool) (n : ℕ) (groups : List HintGroup) → list_any (λ m. m == n) (map (λ (g : HintGroup). g.candidate) groups) ≡ false → list_any (λ m. m == n) (map (λ (g : HintGroup). g.candidate) (kept_groups kept groups)) ≡ false
still_none kept n [] e = refl
still_none kept n (g ∷ gs) e =
    let parts = none_left (g.candidate == n) (list_any (λ m. m == n) (map (λ (g : HintGroup). g.candidate) gs)) e in
    let later = still_none kept n gs parts.1 in
    elim (kept g.candidate) as (λ b. list_any (λ m. m == n) (map (λ (g : HintGroup). g.candidate) (cond b (g ∷ kept_groups kept gs) (kept_groups kept gs))) ≡ false) [
      | true ↦ ap (λ b. b || list_any (λ m. m == n) (map (λ (g : HintGroup). g.candidate) (kept_groups kept gs))) parts.0 ∙ later
      | false ↦ later
    ]

pub still_distinct : (kept : ℕ → Bool) (groups : List HintGroup) → are_distinct (map (λ (g : HintGroup). g.candidate) groups) ≡ true → are_distinct (map (λ (g : HintGroup). g.candidate) (kept_groups kept groups)) ≡ true
still_distinct kept [] e = refl
still_distinct kept (g ∷ gs) e =
    let parts = and_parts (not (list_any (λ m. m == g.candidate) (map (λ (g : HintGroup). g.candidate) gs))) (are_distinct (map (λ (g : HintGroup). g.candidate) gs)) e in
    let later = still_distinct kept gs parts.1 in
    elim (kept g.candidate) as (λ b. are_distinct (map (λ (g : HintGroup). g.candidate) (cond b (g ∷ kept_groups kept gs) (kept_groups kept gs))) ≡ true) [
      | true ↦ and_from (not (list_any (λ m. m == g.candidate) (map (λ (g : HintGroup). g.candidate) (kept_groups kept gs)))) (are_distinct (map (λ (g : HintGroup). g.candidate) (kept_groups kept gs)))
          (ap not (still_none kept g.candidate gs (not-true (list_any (λ m. m == g.candidate) (map (λ (g : HintGroup). g.candidate) gs)) parts.0))) later
      | false ↦ later
    ]

-- ---- candidates

commute_first : {X : Type 0} (s t : X → Bool) (x : X) (ys zs : List X) (a b : Bool) → s x ≡ a → t x ≡ b → filter s ys ≡ filter t zs → filter s (cond b (x ∷ ys) ys) ≡ filter t (cond a (x ∷ zs) zs)
commute_first s t x ys zs true true e f later = ap (λ b. cond b (x ∷ filter s ys) (filter s ys)) e ∙ ap (λ ws. x ∷ ws) later ∙ sym (ap (λ b. cond b (x ∷ filter t zs) (filter t zs)) f)
commute_first s t x ys zs true false e f later = later ∙ sym (ap (λ b. cond b (x ∷ filter t zs) (filter t zs)) f)
commute_first s t x ys zs false true e f later = ap (λ b. cond b (x ∷ filter s ys) (filter s ys)) e ∙ later
commute_first s t x ys zs false false e f later = later

commute : {X : Type 0} (s t : X → Bool) (xs : List X) → filter s (filter t xs) ≡ filter t (filter s xs)
commute s t [] = refl
commute s t (x ∷ xs) = commute_first s t x (filter t xs) (filter s xs) (s x) (t x) refl refl (commute s t xs)

-- the entries of the second map are those of the first whose number is kept
entries_kept : (kept : ℕ → Bool) (p q : ClauseMap) → Restricts kept p q → fin.entries q ≡ filter (λ e. kept e.0) (fin.entries p)
entries_kept kept p q h =
    same_entries nat_cmp nat_cmp_total nat_cmp-IsAntisymmetric (fin.entries q) (filter (λ e. kept e.0) (fin.entries p)) (fin.entries_sorted q) (is_sorted-where_key nat_cmp kept (fin.entries p) (fin.entries_sorted p))
    (λ n. sym (fin.get-entries q n) ∙ h n ∙ ap (λ o. cond (kept n) o None) (fin.get-entries p n) ∙ sym (find-where_key nat_cmp kept n (λ x t. ap kept (sym (nat_cmp-IsAntisymmetric n x t))) (fin.entries p)))

candidates_kept : (kept : ℕ → Bool) (p q : ClauseMap) (pivot : ℤ) → Restricts kept p q → candidates q pivot ≡ filter (λ e. kept e.0) (candidates p pivot)
candidates_kept kept p q pivot h =
    ap (filter (λ e. holds e.1 (neg_ℤ pivot))) (entries_kept kept p q h)
    ∙ commute (λ e. holds e.1 (neg_ℤ pivot)) (λ e. kept e.0) (fin.entries p)

-- the hints given for a kept candidate are those given before
same_given : (kept : ℕ → Bool) (n : ℕ) (groups : List HintGroup) → kept n ≡ true → hints_given n (kept_groups kept groups) ≡ hints_given n groups
same_given kept n [] is = refl
same_given kept n (g ∷ gs) is =
    let later = same_given kept n gs is in
    elim (kept g.candidate) as (λ b. kept g.candidate ≡ b → hints_given n (cond b (g ∷ kept_groups kept gs) (kept_groups kept gs)) ≡ cond (g.candidate == n) g.hints (hints_given n gs)) [
      | true ↦ λ _. ap (λ hs. cond (g.candidate == n) g.hints hs) later
      | false ↦ λ lost. elim (g.candidate == n) as (λ b. (g.candidate == n) ≡ b → hints_given n (kept_groups kept gs) ≡ cond b g.hints (hints_given n gs)) [
        | true ↦ λ here. absurd (false≢true (sym lost ∙ ap kept (eqb-true g.candidate n here) ∙ is))
        | false ↦ λ _. later
      ] refl
    ] refl

given_kept : (kept : ℕ → Bool) (n : ℕ) (groups : List HintGroup) → AreKept kept (group_hints groups) → AreKept kept (hints_given n groups)
given_kept kept n [] h = tt
given_kept kept n (g ∷ gs) h =
    elim (g.candidate == n) as (λ b. AreKept kept (cond b g.hints (hints_given n gs))) [
      | true ↦ all-front (λ n. kept n ≡ true) g.hints (group_hints gs) h
      | false ↦ given_kept kept n gs (all-back (λ n. kept n ≡ true) g.hints (group_hints gs) h)
    ]

recorded_kept : (kept : ℕ → Bool) (p q : ClauseMap) (s : LiteralSet) (pivot : ℤ) (groups : List HintGroup) (es : List (ℕ × LiteralSet)) (gs : List HintGroup) → Restricts kept p q → AreKept kept (group_hints groups)
    → AllZip (ratlaws.IsRecorded p s pivot groups) es gs → AllZip (ratlaws.IsRecorded q s pivot (kept_groups kept groups)) (filter (λ e. kept e.0) es) (kept_groups kept gs)
recorded_kept kept p q s pivot groups [] [] h all z = tt
recorded_kept kept p q s pivot groups [] (g ∷ gs) h all z = absurd z
recorded_kept kept p q s pivot groups (e ∷ es) [] h all z = absurd z
recorded_kept kept p q s pivot groups (e ∷ es) (g ∷ gs) h all z =
    let R : ℕ × LiteralSet → HintGroup → Type 0 = ratlaws.IsRecorded q s pivot (kept_groups kept groups) in
    let later : AllZip R (filter (λ e. kept e.0) es) (kept_groups kept gs) = recorded_kept kept p q s pivot groups es gs h all z.1 in
    let t : LiteralSet = with_negations s (others e.1 (neg_ℤ pivot)) in
    elim (kept e.0) as (λ b. kept e.0 ≡ b → AllZip R (cond b (e ∷ filter (λ e. kept e.0) es) (filter (λ e. kept e.0) es)) (cond (kept g.candidate) (g ∷ kept_groups kept gs) (kept_groups kept gs))) [
      | true ↦ λ is. subst (λ b. AllZip R (e ∷ filter (λ e. kept e.0) es) (cond b (g ∷ kept_groups kept gs) (kept_groups kept gs))) (sym (ap kept z.0.number ∙ is)) (
        record {
          number = z.0.number;
          closes = ap (propagate q t) (same_given kept e.0 groups is) ∙ sym (propagate-agree p q t (hints_given e.0 groups) (all_same kept p q (hints_given e.0 groups) h (given_kept kept e.0 groups all))) ∙ z.0.closes;
        },
        later,
      )
      | false ↦ λ lost. subst (λ b. AllZip R (filter (λ e. kept e.0) es) (cond b (g ∷ kept_groups kept gs) (kept_groups kept gs))) (sym (ap kept z.0.number ∙ lost)) later
    ] refl

covered_groups : (r : RatAnswer) → is_covered r ≡ true → (gs : List HintGroup) × (r ≡ Covered gs)
covered_groups (Covered gs) e = (gs, refl)
covered_groups (MissingGroup n) e = absurd (false≢true e)
covered_groups (GroupStuck n index) e = absurd (false≢true e)
covered_groups (GroupOpen n) e = absurd (false≢true e)

-- a pivot that is covered in the first map is covered in the second by the groups of kept candidates
pub covered_kept : (kept : ℕ → Bool) (p q : ClauseMap) (s : LiteralSet) (pivot : ℤ) (groups : List HintGroup) → Restricts kept p q → AreKept kept (group_hints groups) → is_covered (rat p s pivot groups) ≡ true → is_covered (rat q s pivot (kept_groups kept groups)) ≡ true
covered_kept kept p q s pivot groups h all e =
    let found = covered_groups (rat p s pivot groups) e in
    ap is_covered (ratlaws.rat-recorded q s pivot (kept_groups kept groups) (kept_groups kept found.0)
    (subst (λ es. AllZip (ratlaws.IsRecorded q s pivot (kept_groups kept groups)) es (kept_groups kept found.0)) (sym (candidates_kept kept p q pivot h))
    (recorded_kept kept p q s pivot groups (candidates p pivot) found.0 h all (ratlaws.recorded-rat p s pivot groups found.0 found.1))))
