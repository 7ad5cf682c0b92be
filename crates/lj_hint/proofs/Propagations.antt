-- A propagation, told from the hints that it has read and what is left.
use Rattle.std.proofs.Common.{◌≡◌, ℕ, suc, ◌+◌, ◌<◌, ◌≤◌, ap, refl, sym, subst, ◌∙◌, length, take, drop, get_or, arith, add-one, length-append, drop-cons}
use Rattle.std.specs.Prelude.{ℤ, neg_ℤ, Bool, true, false, not, cond, All, List, [], ◌∷◌, ◌++◌, Option, Some, None, filter}
use Rattle.std.proofs.lemmas.List.{take_more, length-take-le, length-map, drop_all, map-append}
use Rattle.std.proofs.lemmas.List.Elements.{All-head, filter_passes}
use Rattle.std.proofs.lemmas.Bool.{not-true}
use Rattle.std.specs.Ordering.{eq_by_cmp}
use Rattle.lj_clause.specs.LiteralSet.{LiteralSet, with_literal, holds, literals, from_literals, with_negations}
use Rattle.lj_clause.specs.Propagation.{Propagation, Closed, Open, Stuck, Hint, rest, is_contradictory, after_hint, by_rest, by_hint, propagate_over}
use Rattle.lj_clause.specs.Rat.{others}
use Rattle.lj_clause.specs.Literal.{lit_cmp}
use Rattle.lj_hint.specs.declared.propagate.Rest.TheVariants.{Nothing, One, More}
use Rattle.lj_hint.specs.declared.propagate.Ending.TheVariants.{ClosedAfter, StuckAt}
use Rattle.lj_hint.specs.inner.Hints.{no_hint, hint_number, clause_at, hint_numbers}
use Rattle.lj_hint.specs.inner.Trail.{Extends}
use Rattle.lj_hint.specs.inner.Rest.{rest_seen}
use Rattle.lj_hint.specs.Ending.{ending_of}

-- the end of a propagation that read the hints of these numbers first
abbrev pub after_hints : List ℕ → Propagation → Propagation
after_hints [] w = w
after_hints (n ∷ ns) w = after_hint n (after_hints ns w)

after_hints-append : (ms : List ℕ) (n : ℕ) (w : Propagation) → after_hints (ms ++ n ∷ []) w ≡ after_hints ms (after_hint n w)
after_hints-append [] n w = refl
after_hints-append (m ∷ ms) n w = ap (after_hint m) (after_hints-append ms n w)

after_hints-Closed : (ns used : List ℕ) → after_hints ns (Closed used) ≡ Closed (ns ++ used)
after_hints-Closed [] used = refl
after_hints-Closed (n ∷ ns) used = ap (after_hint n) (after_hints-Closed ns used)

after_hints-Open : (ns : List ℕ) (a : LiteralSet) → after_hints ns (Open a) ≡ Open a
after_hints-Open [] a = refl
after_hints-Open (n ∷ ns) a = ap (after_hint n) (after_hints-Open ns a)

after_hints-Stuck : (ns : List ℕ) (position : ℕ) → after_hints ns (Stuck position) ≡ Stuck (length ns + position)
after_hints-Stuck [] position = ap Stuck (omega arith)
after_hints-Stuck (n ∷ ns) position = let e : suc (length ns + position) ≡ suc (length ns) + position = omega arith in ap (after_hint n) (after_hints-Stuck ns position) ∙ ap Stuck e

-- the propagation of a over the hints from this index on, after those before it
abbrev pub propagate_from : LiteralSet → List Hint → ℕ → Propagation
propagate_from a hs i = after_hints (hint_numbers (take i hs)) (propagate_over a (drop i hs))

-- What a propagation from the old trail over these hints has come to before the hint of this index.
pub record HasPropagated (old now : List ℤ) (hs : List Hint) (i : ℕ) : Type 0 where
  pub propagated : propagate_over (from_literals old) hs ≡ propagate_from (from_literals now) hs i
  pub extends : Extends old now
  pub consistent : is_contradictory (from_literals now) ≡ false

pub closed_at_once : (a : LiteralSet) (hs : List Hint) → is_contradictory a ≡ true → propagate_over a hs ≡ Closed []
unfolding propagate_over
closed_at_once a [] e = ap (λ b. cond b (Closed []) (Open a)) e
closed_at_once a (h ∷ hs) e = ap (λ b. cond b (Closed []) (by_hint h.number h.clause a (λ l. propagate_over (with_literal a l) hs))) e

pub open_at_end : (a : LiteralSet) → is_contradictory a ≡ false → propagate_over a [] ≡ Open a
unfolding propagate_over
open_at_end a e = ap (λ b. cond b (Closed []) (Open a)) e

at_hint : (a : LiteralSet) (h : Hint) (hs : List Hint) → is_contradictory a ≡ false → propagate_over a (h ∷ hs) ≡ by_hint h.number h.clause a (λ l. propagate_over (with_literal a l) hs)
unfolding propagate_over
at_hint a h hs e = ap (λ b. cond b (Closed []) (by_hint h.number h.clause a (λ l. propagate_over (with_literal a l) hs))) e

count_read : (hs : List Hint) (i : ℕ) → i ≤ length hs → length (hint_numbers (take i hs)) ≡ i
count_read hs i le = length-map (take i hs) (λ (h : Hint). h.number) ∙ length-take-le i hs le

-- a contradictory set closes the propagation before the next hint
pub ends_contradictory : (a : LiteralSet) (hs : List Hint) (i : ℕ) → is_contradictory a ≡ true → i ≤ length hs → ClosedAfter i ≡ ending_of (propagate_from a hs i)
ends_contradictory a hs i e le =
    sym
    (ap (λ w. ending_of (after_hints (hint_numbers (take i hs)) w)) (closed_at_once a (drop i hs) e)
    ∙ ap ending_of (after_hints-Closed (hint_numbers (take i hs)) [])
    ∙ ap ClosedAfter (length-append (hint_numbers (take i hs)) [] ∙ omega (arith, count_read hs i le)))

-- after the last hint a propagation whose set isn't contradictory is open
pub ends_open : (a : LiteralSet) (hs : List Hint) (i : ℕ) → is_contradictory a ≡ false → length hs ≤ i → propagate_from a hs i ≡ Open a
ends_open a hs i e le =
    ap (λ qs. after_hints (hint_numbers (take i hs)) (propagate_over a qs)) (drop_all i hs le)
    ∙ ap (after_hints (hint_numbers (take i hs))) (open_at_end a e)
    ∙ after_hints-Open (hint_numbers (take i hs)) a

-- A step of a propagation at a hint that it reads.
pub record Reads (a : LiteralSet) (hs : List Hint) (i : ℕ) (clause : Option LiteralSet) : Type 0 where
  pub is : clause ≡ clause_at hs i
  pub within : i < length hs
  pub open_yet : is_contradictory a ≡ false

abbrev onward : LiteralSet → List Hint → ℕ → ℤ → Propagation
onward a hs i l = propagate_over (with_literal a l) (drop (i + 1) hs)

at_index : (a : LiteralSet) (hs : List Hint) (i : ℕ) (clause : Option LiteralSet) → Reads a hs i clause → propagate_from a hs i ≡ after_hints (hint_numbers (take i hs)) (by_hint (hint_number hs i) clause a (onward a hs i))
at_index a hs i clause r =
    let cut : drop i hs ≡ get_or hs i no_hint ∷ drop (i + 1) hs = rw add-one (drop-cons hs i no_hint r.within) in
    ap (λ qs. after_hints (hint_numbers (take i hs)) (propagate_over a qs)) cut
    ∙ ap (after_hints (hint_numbers (take i hs))) (at_hint a (get_or hs i no_hint) (drop (i + 1) hs) r.open_yet)
    ∙ ap (λ c. after_hints (hint_numbers (take i hs)) (by_hint (hint_number hs i) c a (onward a hs i))) (sym r.is)

-- one number more
pub numbers_more : (hs : List Hint) (i : ℕ) → i < length hs → hint_numbers (take i hs) ++ hint_number hs i ∷ [] ≡ hint_numbers (take (i + 1) hs)
numbers_more hs i lt =
    sym (map-append (λ (h : Hint). h.number) (take i hs) (get_or hs i no_hint ∷ []))
    ∙ ap hint_numbers (sym (take_more hs i no_hint lt))

left_nothing : (ls : List ℤ) → Nothing ≡ rest_seen ls → ls ≡ []
left_nothing [] e = refl
left_nothing (l ∷ []) e = cc
left_nothing (l ∷ m ∷ ls) e = cc

left_one : (ls : List ℤ) (l : ℤ) → One l ≡ rest_seen ls → ls ≡ l ∷ []
left_one [] l e = cc
left_one (k ∷ []) l e = let same : l ≡ k = cc in ap (λ m. m ∷ []) (sym same)
left_one (k ∷ m ∷ ls) l e = cc

-- the negation of the one literal that is left isn't held
pub left_unopposed : (a d : LiteralSet) (l : ℤ) → One l ≡ rest_seen (rest d a) → holds a (neg_ℤ l) ≡ false
left_unopposed a d l e =
    let passes : ℤ → Bool = λ m. not (holds a (neg_ℤ m)) in
    not-true (holds a (neg_ℤ l)) (All-head (λ m. passes m ≡ true) l [] (subst (All (λ m. passes m ≡ true)) (left_one (rest d a) l e) (filter_passes passes (literals d))))

left_more : (ls : List ℤ) (n : ℕ) (onward : ℤ → Propagation) → More ≡ rest_seen ls → by_rest n ls onward ≡ Stuck 1
left_more [] n onward e = cc
left_more (l ∷ []) n onward e = cc
left_more (l ∷ m ∷ ls) n onward e = refl

-- a false clause closes the propagation at its hint
pub ends_closed : (a : LiteralSet) (hs : List Hint) (i : ℕ) (d : LiteralSet) → Reads a hs i (Some d) → Nothing ≡ rest_seen (rest d a) → ClosedAfter (i + 1) ≡ ending_of (propagate_from a hs i)
ends_closed a hs i d r e =
    sym
    (ap ending_of (at_index a hs i (Some d) r ∙ ap (λ ls. after_hints (hint_numbers (take i hs)) (by_rest (hint_number hs i) ls (onward a hs i))) (left_nothing (rest d a) e) ∙ after_hints-Closed (hint_numbers (take i hs)) (hint_number hs i ∷ []))
    ∙ ap ClosedAfter (length-append (hint_numbers (take i hs)) (hint_number hs i ∷ []) ∙ (let n : length (hint_numbers (take i hs)) ≡ i = count_read hs i (omega (arith, r.within)) in omega arith)))

stuck_here : (a : LiteralSet) (hs : List Hint) (i : ℕ) → i < length hs → propagate_from a hs i ≡ after_hints (hint_numbers (take i hs)) (Stuck 1) → StuckAt (i + 1) ≡ ending_of (propagate_from a hs i)
stuck_here a hs i lt e =
    sym
    (ap ending_of (e ∙ after_hints-Stuck (hint_numbers (take i hs)) 1)
    ∙ ap StuckAt (let n : length (hint_numbers (take i hs)) ≡ i = count_read hs i (omega (arith, lt)) in omega arith))

-- a clause with two literals left stops it there
pub ends_stuck : (a : LiteralSet) (hs : List Hint) (i : ℕ) (d : LiteralSet) → Reads a hs i (Some d) → More ≡ rest_seen (rest d a) → StuckAt (i + 1) ≡ ending_of (propagate_from a hs i)
ends_stuck a hs i d r e =
    stuck_here a hs i r.within (at_index a hs i (Some d) r ∙ ap (after_hints (hint_numbers (take i hs))) (left_more (rest d a) (hint_number hs i) (onward a hs i) e))

-- and so does a hint that names no clause
pub ends_nowhere : (a : LiteralSet) (hs : List Hint) (i : ℕ) → Reads a hs i None → StuckAt (i + 1) ≡ ending_of (propagate_from a hs i)
ends_nowhere a hs i r = stuck_here a hs i r.within (at_index a hs i None r)

-- a unit clause makes its literal true, and the propagation goes on
pub goes_on : (a : LiteralSet) (hs : List Hint) (i : ℕ) (d : LiteralSet) (l : ℤ) → Reads a hs i (Some d) → One l ≡ rest_seen (rest d a) → propagate_from a hs i ≡ propagate_from (with_literal a l) hs (i + 1)
goes_on a hs i d l r e =
    at_index a hs i (Some d) r
    ∙ ap (λ ls. after_hints (hint_numbers (take i hs)) (by_rest (hint_number hs i) ls (onward a hs i))) (left_one (rest d a) l e)
    ∙ sym (after_hints-append (hint_numbers (take i hs)) (hint_number hs i) (propagate_over (with_literal a l) (drop (i + 1) hs)))
    ∙ ap (λ ns. after_hints ns (propagate_over (with_literal a l) (drop (i + 1) hs))) (numbers_more hs i r.within)

-- ---- candidates

-- what a candidate's propagation begins with: the negations of its literals other than the pivot's
pub with_others : (a new d : LiteralSet) (q l : ℤ) (ls : List ℤ) → l ≡ neg_ℤ q → ls ≡ literals d → new ≡ with_negations a (filter (λ (m : ℤ). not (eq_by_cmp lit_cmp m l)) ls)
    → new ≡ with_negations a (others d (neg_ℤ q))
with_others a new d q l ls is all told = told ∙ (λ i. with_negations a (filter (λ (m : ℤ). not (eq_by_cmp lit_cmp m (is i))) (all i)))
