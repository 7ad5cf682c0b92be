-- The test of candidates, one after the other.
use Rattle.std.proofs.Common.{◌≡◌, ap, refl, sym, ◌∙◌, ℕ, zero, suc, ◌+◌, ◌<◌, ◌≤◌, Bool, true, false, cond, arith, add-one, append_assoc, get_or, drop, drop-cons, length, subst}
use Rattle.std.proofs.lemmas.List.{drop_all, append-nil, get_or-map, length-map}
use Rattle.std.proofs.lemmas.Bool.Decides.{nat_tests}
use Rattle.std.specs.Prelude.{ℤ, neg_ℤ, List, [], ◌∷◌, ◌++◌, map, filter, Option, Some, None, option_map, is_some, slice_get, Vec, ◌==◌, if◌then◌else◌, Result, Ok, Err}
use Rattle.std.specs.declared.alloc.Global.{Global}
use Rattle.std.specs.List.{AllByRecursion}
use Rattle.std.specs.FinMap as fin
use Rattle.lj_clause.specs.LiteralSet.{LiteralSet, holds}
use Rattle.lj_clause.specs.ClauseMap.{ClauseMap}
use Rattle.lj_clause.specs.Propagation.{Propagation, Closed, Open, Stuck, Hint}
use Rattle.lj_clause.specs.Rat.{HintGroup, NamedGroup, RatAnswer, candidates, Covered, MissingGroup, GroupStuck, GroupOpen, group_of, by_candidate, candidate_propagation, rat_over}
use Rattle.lj_clause.proofs.RatLaws.{candidates-get}
use Rattle.lj_hint.specs.declared.rat_refusal.RatRefusal.{RatRefusal}
use Rattle.lj_hint.specs.declared.rat_refusal.RatRefusal.TheVariants as refusals
use Rattle.lj_hint.specs.declared.rat_refusal.RatRefusal.TheVariants.{EmptyOpen}
use Rattle.lj_hint.specs.declared.pair.Pair.{Pair}
use Rattle.lj_hint.specs.Hints.{named_hints}
use Rattle.lj_hint.specs.Case.{groups_of}
use Rattle.lj_hint.specs.RatTest.{named_groups, rat_told, IsRatRefusal}
use Rattle.lj_hint.specs.inner.Groups.{no_group, group_in, group_at, before, candidate_told, IsCandidateRefusal}

-- ---- groups by their candidates

-- the groups from an index on begin with the one there
pub next_group : (gs : List NamedGroup) (k : ℕ) → k < length gs → drop k gs ≡ group_in gs k ∷ drop (k + 1) gs
next_group gs k lt = drop-cons gs k no_group lt ∙ ap (λ (n : ℕ). group_in gs k ∷ drop n gs) (sym (add-one k))

pub there : (gs : List NamedGroup) (k : ℕ) → k < length gs → slice_get gs k ≡ Some (group_in gs k)
there [] k lt = absurd (omega arith)
there (h ∷ gs) zero lt = refl
there (h ∷ gs) (suc k) lt = there gs k (omega arith)

-- the place of a group's candidate, where those after it are known
pub group_placed : (gs : List NamedGroup) (k n : ℕ) (later : Option ℕ) (b : Bool) → k < length gs → b ≡ ((group_in gs k).candidate == n) → group_at gs later ≡ group_of n (drop (k + 1) gs) → group_at gs (cond b (Some k) later) ≡ group_of n (drop k gs)
group_placed gs k n later b lt tied before =
    placed b tied
    ∙ sym (ap (group_of n) (next_group gs k lt))
  where
    g : NamedGroup
    g = group_in gs k

    placed : (b : Bool) → b ≡ (g.candidate == n) → group_at gs (cond b (Some k) later) ≡ group_of n (g ∷ drop (k + 1) gs)
    placed true e = ap (option_map (λ (h : NamedGroup). h.hints)) (there gs k lt) ∙ ap (λ c. if c then Some g.hints else group_of n (drop (k + 1) gs)) e
    placed false e = before ∙ ap (λ c. if c then Some g.hints else group_of n (drop (k + 1) gs)) e

-- the group of a candidate, where it is the first of those that are left
pub group_here : (gs : List NamedGroup) (k n : ℕ) → k < length gs → (group_in gs k).candidate ≡ n → group_at gs (before (k + 1)) ≡ group_of n (drop k gs)
group_here gs k n lt is =
    ap (λ (m : ℕ). group_at gs (before m)) (add-one k)
    ∙ ap (option_map (λ (h : NamedGroup). h.hints)) (there gs k lt)
    ∙ ap (λ c. if c then Some (group_in gs k).hints else group_of n (drop (k + 1) gs)) (sym (tested (group_in gs k).candidate n is))
    ∙ sym (ap (group_of n) (next_group gs k lt))
  where
    tested : (a b : ℕ) → a ≡ b → (a == b) ≡ true
    tested a b e = grind (arith, nat_tests)

-- a case has as many groups with named hints as groups
pub pairs_counted : (gs : List (Pair × Vec Pair Global)) → length (named_groups (groups_of gs)) ≡ length gs
pairs_counted gs = length-map (groups_of gs) (λ (h : Pair × List Pair). record { candidate = h.0.joint; hints = named_hints h.1 }) ∙ length-map gs (λ (h : Pair × Vec Pair Global). (h.0, h.1.items))

-- the group of a case at an index
pub pair_group : (gs : List (Pair × Vec Pair Global)) (k : ℕ) (g : Pair × Vec Pair Global) → k < length gs → group_in (named_groups (groups_of gs)) k ≡ record { candidate = (get_or gs k g).0.joint; hints = named_hints (get_or gs k g).1.items }
pair_group gs k g lt =
    let listed : Pair × Vec Pair Global → Pair × List Pair = λ h. (h.0, h.1.items) in
    let named : Pair × List Pair → NamedGroup = λ h. record { candidate = h.0.joint; hints = named_hints h.1 } in
    get_or-map named (groups_of gs) k (listed g) no_group (omega (arith, lt, length-map gs listed))
    ∙ ap named (get_or-map listed gs k g (listed g) lt)

-- ---- the candidates, each in turn

-- the reply with these groups in front
abbrev pub behind_groups : List HintGroup → Result (List HintGroup) RatRefusal → Result (List HintGroup) RatRefusal
behind_groups front (Ok later) = Ok (front ++ later)
behind_groups front (Err e) = Err e

-- the reply for a candidate before that for those after it
abbrev with_first : Result HintGroup RatRefusal → Result (List HintGroup) RatRefusal → Result (List HintGroup) RatRefusal
with_first (Ok g) (Ok gs) = Ok (g ∷ gs)
with_first (Ok g) (Err e) = Err e
with_first (Err e) later = Err e

told_first : (n : ℕ) (has : Bool) (w : Propagation) (later : RatAnswer) → rat_told (by_candidate n has w later) ≡ with_first (candidate_told n has w) (rat_told later)
told_first n has (Closed used) (Covered gs) = refl
told_first n has (Closed used) (MissingGroup m) = refl
told_first n has (Closed used) (GroupStuck m position) = refl
told_first n has (Closed used) (GroupOpen m) = refl
told_first n true (Open a) later = refl
told_first n false (Open a) later = refl
told_first n true (Stuck position) later = refl
told_first n false (Stuck position) later = refl

behind-with_first : (front : List HintGroup) (g : HintGroup) (later : Result (List HintGroup) RatRefusal) → behind_groups front (with_first (Ok g) later) ≡ behind_groups (front ++ g ∷ []) later
behind-with_first front g (Ok gs) = ap Ok (sym (append_assoc front (g ∷ []) gs))
behind-with_first front g (Err e) = refl

-- A candidate at its place.
pub record IsCandidate (es : List (ℕ × LiteralSet)) (i n : ℕ) (d : LiteralSet) : Type 0 where
  pub next : drop i es ≡ (n, d) ∷ drop (i + 1) es

-- the reply for one candidate
abbrev pub at_one : LiteralSet → ℤ → List NamedGroup → ℕ → LiteralSet → Result HintGroup RatRefusal
at_one a q named n d = candidate_told n (is_some (group_of n named)) (candidate_propagation a q d (group_of n named))

over_next : (a : LiteralSet) (q : ℤ) (named : List NamedGroup) (n : ℕ) (d : LiteralSet) (es : List (ℕ × LiteralSet)) → rat_told (rat_over a q named ((n, d) ∷ es)) ≡ with_first (at_one a q named n d) (rat_told (rat_over a q named es))
unfolding rat_over
over_next a q named n d es = told_first n (is_some (group_of n named)) (candidate_propagation a q d (group_of n named)) (rat_over a q named es)

over_none : (a : LiteralSet) (q : ℤ) (named : List NamedGroup) → rat_over a q named [] ≡ Covered []
unfolding rat_over
over_none a q named = refl

-- a candidate that is covered
pub candidate_covered : (a : LiteralSet) (q : ℤ) (named : List NamedGroup) (es : List (ℕ × LiteralSet)) (i n : ℕ) (d : LiteralSet) (front : List HintGroup) (g : HintGroup) → IsCandidate es i n d → at_one a q named n d ≡ Ok g → behind_groups (front ++ g ∷ []) (rat_told (rat_over a q named (drop (i + 1) es))) ≡ behind_groups front (rat_told (rat_over a q named (drop i es)))
candidate_covered a q named es i n d front g is told =
    sym
    (ap (λ fs. behind_groups front (rat_told (rat_over a q named fs))) is.next
    ∙ ap (behind_groups front) (over_next a q named n d (drop (i + 1) es) ∙ ap (λ r. with_first r (rat_told (rat_over a q named (drop (i + 1) es)))) told)
    ∙ behind-with_first front g (rat_told (rat_over a q named (drop (i + 1) es))))

-- and one that isn't
pub candidate_refused : (a : LiteralSet) (q : ℤ) (named : List NamedGroup) (es : List (ℕ × LiteralSet)) (i n : ℕ) (d : LiteralSet) (front : List HintGroup) (e : RatRefusal) → IsCandidate es i n d → at_one a q named n d ≡ Err e → behind_groups front (rat_told (rat_over a q named (drop i es))) ≡ Err e
candidate_refused a q named es i n d front e is told =
    ap (λ fs. behind_groups front (rat_told (rat_over a q named fs))) is.next
    ∙ ap (behind_groups front) (over_next a q named n d (drop (i + 1) es) ∙ ap (λ r. with_first r (rat_told (rat_over a q named (drop (i + 1) es)))) told)

-- after the last
pub all_covered : (a : LiteralSet) (q : ℤ) (named : List NamedGroup) (es : List (ℕ × LiteralSet)) (i : ℕ) (front : List HintGroup) → length es ≤ i → behind_groups front (rat_told (rat_over a q named (drop i es))) ≡ Ok front
all_covered a q named es i front le =
    ap (λ fs. behind_groups front (rat_told (rat_over a q named fs))) (drop_all i es le)
    ∙ ap (λ r. behind_groups front (rat_told r)) (over_none a q named)
    ∙ ap Ok (append-nil front)

-- the candidate whose number stands at a place, and its clause
pub candidate_at : (P : ℕ × LiteralSet → Type 0) (es : List (ℕ × LiteralSet)) (i n : ℕ) → i < length es → n ≡ get_or (map (λ (e : ℕ × LiteralSet). e.0) es) i 0 → AllByRecursion P es → (d : LiteralSet) × IsCandidate es i n d × P (n, d)
candidate_at P [] i n lt is all = absurd (omega arith)
candidate_at P (e ∷ es) zero n lt is all =
    let same : e ≡ (n, e.1) = λ i. (sym is i, e.1) in
    (e.1, record { next = ap (λ (f : ℕ × LiteralSet). f ∷ es) same }, subst P same all.0)
candidate_at P (e ∷ es) (suc i) n lt is all =
    let found = candidate_at P es i n (omega arith) is all.1 in
    let step : suc (i + 1) ≡ suc i + 1 = omega arith in
    (found.0, record { next = found.1.next ∙ ap (λ (m : ℕ). (n, found.0) ∷ drop m (e ∷ es)) step }, found.2)

-- the numbers of the clauses that hold a pivot's negation are the candidates'
pub candidate_numbers : (live : ClauseMap) (q l : ℤ) (ns : List ℕ) → l ≡ neg_ℤ q → ns ≡ map (λ (e : ℕ × LiteralSet). e.0) (filter (λ (e : ℕ × LiteralSet). holds e.1 l) (fin.entries live))
    → ns ≡ map (λ (e : ℕ × LiteralSet). e.0) (candidates live q)
candidate_numbers live q l ns is are = are ∙ ap (λ (m : ℤ). map (λ (e : ℕ × LiteralSet). e.0) (filter (λ (e : ℕ × LiteralSet). holds e.1 m) (fin.entries live))) is

-- the candidate whose number stands at a place is the clause that lives there
pub candidate_is : (live : ClauseMap) (q : ℤ) (i n : ℕ) (d : LiteralSet) → i < length (candidates live q) → n ≡ get_or (map (λ (e : ℕ × LiteralSet). e.0) (candidates live q)) i 0 → Some d ≡ fin.get live n
    → IsCandidate (candidates live q) i n d
candidate_is live q i n d within number lives =
    let es = candidates live q in
    let found = candidate_at (λ (e : ℕ × LiteralSet). (fin.get live e.0 ≡ Some e.1) × (holds e.1 (neg_ℤ q) ≡ true)) es i n within number (candidates-get live q) in
    let clauses : Some d ≡ Some found.0 = lives ∙ found.2.0 in
    let same : found.0 ≡ d = cc in
    subst (IsCandidate es i n) same found.1

-- a refusal of one candidate is that of all
pub refusal_told : (e : RatRefusal) (one : Result HintGroup RatRefusal) (whole : Result (List HintGroup) RatRefusal) → ((x : RatRefusal) → one ≡ Err x → whole ≡ Err x) → IsCandidateRefusal e one → IsRatRefusal e whole
refusal_told EmptyOpen one whole f h = f EmptyOpen h
refusal_told (refusals.MissingGroup n) one whole f h = f (refusals.MissingGroup n) h
refusal_told (refusals.GroupStuck n position) one whole f h = f (refusals.GroupStuck n position) h
refusal_told (refusals.GroupOpen n) one whole f h = f (refusals.GroupOpen n) h
refusal_told (refusals.NoMemory e) one whole f h = tt

-- whether there is a group, and its hints
pub has_hints : {H : Type 0} (f : H → List Hint) (o : Option H) → is_some (option_map f o) ≡ is_some o
has_hints f None = refl
has_hints f (Some h) = refl
