-- Literals on a trail, and their stamps.
use Rattle.std.proofs.Common.{◌≡◌, ap, refl, sym, ◌∙◌, inl, inr, ℕ, ◌+◌, ◌<◌, ◌≤◌, Bool, true, false, arith, get_or, take, length, length-append, append_assoc}
use Rattle.std.specs.Prelude.{ℤ, pos, neg_ℤ, ◌==◌, ◌||◌, ◌⊎◌, List, [], ◌∷◌, ◌++◌, if◌then◌else◌}
use Rattle.std.specs.List.{list_any}
use Rattle.std.specs.Ordering.{eq_by_cmp}
use Rattle.std.specs.Cmp.{unsigned_tied}
use Rattle.std.proofs.lemmas.Bool.Decides.{nat_tests}
use Rattle.std.proofs.lemmas.List.{take-append-le, append-nil}
use Rattle.std.proofs.Math.ListN.{get_or-append}
use Rattle.std.proofs.Math.Seq.{take-append_seam, get_or-append_seam}
use Rattle.std.proofs.lemmas.Bool.{eqb-true}
use lib.IntN.{neg_ℤ-neg_ℤ}
use Rattle.lj_clause.specs.Literal.{lit_cmp, index_of, variable_of}
use Rattle.lj_clause.specs.LiteralSet.{LiteralSet, holds, with_literal, from_literals}
use Rattle.lj_clause.proofs.Literals.{same_literal}
use Rattle.lj_clause.proofs.LiteralSets.{same_set, holds-from_literals, holds-with_literal, holds-no_literals}
use Rattle.lj_clause.specs.Propagation.{is_contradictory}
use Rattle.lj_hint.proofs.Contradictions.{is_contradictory-unopposed}
use Rattle.lj_hint.specs.inner.Stamps.{Stamped, stamp_at, AreAssigned}
use Rattle.lj_hint.specs.inner.Trail.{with_assigned, Extends}

-- two literals are the same where their places are
pub tied : (l m : ℤ) → eq_by_cmp lit_cmp l m ≡ (index_of l == index_of m)
tied l m = unsigned_tied (index_of l) (index_of m)

any_push : (f : ℤ → Bool) (ls : List ℤ) (l : ℤ) → list_any f (ls ++ l ∷ []) ≡ (f l || list_any f ls)
any_push f [] l = refl
any_push f (m ∷ ls) l = ap (λ b. f m || b) (any_push f ls l) ∙ swapped (f m) (f l) (list_any f ls)
  where
    swapped : (a b c : Bool) → (a || (b || c)) ≡ (b || (a || c))
    swapped true true c = refl
    swapped true false c = refl
    swapped false b c = refl

-- what a trail with one literal more holds
pub holds-push : (ls : List ℤ) (l q : ℤ) → holds (from_literals (ls ++ l ∷ [])) q ≡ (index_of q == index_of l || holds (from_literals ls) q)
holds-push ls l q =
    holds-from_literals (ls ++ l ∷ []) q
    ∙ any_push (eq_by_cmp lit_cmp q) ls l
    ∙ (λ i. tied q l i || sym (holds-from_literals ls q) i)

pub from_literals-push : (ls : List ℤ) (l : ℤ) → from_literals (ls ++ l ∷ []) ≡ with_literal (from_literals ls) l
from_literals-push ls l = same_set _ _ (λ q.
    holds-push ls l q
    ∙ ap (λ b. b || holds (from_literals ls) q) (sym (tied q l))
    ∙ sym (holds-with_literal (from_literals ls) l q))

-- a literal that is there already changes nothing
pub with_literal-there : (s : LiteralSet) (l : ℤ) → holds s l ≡ true → with_literal s l ≡ s
with_literal-there s l h = same_set _ _ (λ q.
    holds-with_literal s l q
    ∙ elim (eq_by_cmp lit_cmp q l) as (λ b. eq_by_cmp lit_cmp q l ≡ b → (b || holds s q) ≡ holds s q) [
      | true ↦ λ e. sym (ap (holds s) (same_literal q l e) ∙ h)
      | false ↦ λ e. refl
    ] refl)

-- ---- the stamps of a trail

lower : (k n : ℕ) → k < n + 1 → (k == n) ≡ false → k < n
lower k n lt e = grind (arith, nat_tests)

itself : (a : ℕ) → (a == a) ≡ true
itself a = grind (arith, nat_tests)

-- two negations are the same where the literals are
neg_tied : (q l : ℤ) → (index_of (neg_ℤ q) == index_of (neg_ℤ l)) ≡ (index_of q == index_of l)
neg_tied q l = elim (index_of q == index_of l) as (λ b. (index_of q == index_of l) ≡ b → (index_of (neg_ℤ q) == index_of (neg_ℤ l)) ≡ b) [
  | true ↦ λ e. ap (λ k. index_of (neg_ℤ k) == index_of (neg_ℤ l)) (same_literal q l (tied q l ∙ e)) ∙ itself (index_of (neg_ℤ l))
  | false ↦ λ e. elim (index_of (neg_ℤ q) == index_of (neg_ℤ l)) as (λ b. (index_of (neg_ℤ q) == index_of (neg_ℤ l)) ≡ b → b ≡ false) [
    | true ↦ λ f. sym (back (same_literal (neg_ℤ q) (neg_ℤ l) (tied (neg_ℤ q) (neg_ℤ l) ∙ f))) ∙ e
    | false ↦ λ f. refl
  ] refl
] refl
  where
    back : neg_ℤ q ≡ neg_ℤ l → (index_of q == index_of l) ≡ true
    back e = ap (λ k. index_of k == index_of l) (sym (neg_ℤ-neg_ℤ q) ∙ ap neg_ℤ e ∙ neg_ℤ-neg_ℤ l) ∙ itself (index_of l)

-- where each stamp is below the new one, no literal has it
pub fresh_propagator : (stamps : Stamped) (stamp : ℕ) → ((index : ℕ) → stamp_at stamps index < stamp) → AreAssigned stamps stamp []
fresh_propagator stamps stamp below = record {
  some = let h = below 0 in omega arith;
  greatest = λ index. let h = below index in omega arith;
  marked = λ l. older (stamp_at stamps (index_of (neg_ℤ l))) stamp (below (index_of (neg_ℤ l))) ∙ sym (holds-no_literals l);
  once = λ k lt. absurd (omega arith);
}
  where
    older : (a b : ℕ) → a < b → (a == b) ≡ false
    older a b lt = grind (arith, nat_tests)

pub pushed_marks : (stamps others : Stamped) (stamp : ℕ) (trail : List ℤ) (l : ℤ) → holds (from_literals trail) l ≡ false → ((index : ℕ) → stamp_at others index ≡ (if index == index_of (neg_ℤ l) then stamp else stamp_at stamps index)) → AreAssigned stamps stamp trail → AreAssigned others stamp (trail ++ l ∷ [])
pushed_marks stamps others stamp trail l new is m = record {
  some = m.some;
  greatest = λ index. highest (stamp_at others index) (index == index_of (neg_ℤ l)) (stamp_at stamps index) (is index) (m.greatest index);
  marked = λ q. ap (λ n. n == stamp) (is (index_of (neg_ℤ q))) ∙ chosen (index_of (neg_ℤ q) == index_of (neg_ℤ l)) (stamp_at stamps (index_of (neg_ℤ q))) (holds (from_literals trail) q) (m.marked q) ∙ ap (λ b. b || holds (from_literals trail) q) (neg_tied q l) ∙ sym (holds-push trail l q);
  once = λ k lt. elim (less_or_last k (length trail) (omega (arith, length-append trail (l ∷ [])))) [
    | inl below ↦ ap (λ t. holds (from_literals t) (get_or (trail ++ l ∷ []) k (pos 0))) (take-append-le k trail (l ∷ []) (omega arith)) ∙ ap (holds (from_literals (take k trail))) (get_or-append trail (l ∷ []) (pos 0) k below) ∙ m.once k below
    | inr last ↦ (λ i. holds (from_literals ((ap (λ n. take n (trail ++ l ∷ [])) last ∙ take-append_seam trail (l ∷ [])) i)) ((ap (λ n. get_or (trail ++ l ∷ []) n (pos 0)) last ∙ get_or-append_seam trail l [] (pos 0)) i)) ∙ new
  ];
}
  where
    highest : (n : ℕ) (b : Bool) (old : ℕ) → n ≡ (if b then stamp else old) → old ≤ stamp → n ≤ stamp
    highest n true old e h = omega arith
    highest n false old e h = omega arith

    chosen : (b : Bool) (old : ℕ) (h : Bool) → (old == stamp) ≡ h → ((if b then stamp else old) == stamp) ≡ (b || h)
    chosen true old h e = itself stamp
    chosen false old h e = e

    less_or_last : (k n : ℕ) → k < n + 1 → (k < n) ⊎ (k ≡ n)
    less_or_last k n lt = elim (k == n) as (λ b. (k == n) ≡ b → (k < n) ⊎ (k ≡ n)) [ true ↦ λ e. inr (eqb-true k n e) | false ↦ λ e. inl (lower k n lt e) ] refl

-- where the last literal is taken out, its stamp is
pub popped_marks : (stamps others : Stamped) (stamp : ℕ) (trail : List ℤ) (l : ℤ) → ((index : ℕ) → stamp_at others index ≡ (if index == index_of (neg_ℤ l) then 0 else stamp_at stamps index)) → AreAssigned stamps stamp (trail ++ l ∷ []) → AreAssigned others stamp trail
popped_marks stamps others stamp trail l is m = record {
  some = m.some;
  greatest = λ index. lower_or_none (stamp_at others index) (index == index_of (neg_ℤ l)) (stamp_at stamps index) (is index) (m.greatest index);
  marked = λ q. ap (λ n. n == stamp) (is (index_of (neg_ℤ q))) ∙ chosen q (index_of (neg_ℤ q) == index_of (neg_ℤ l)) refl;
  once = λ k lt.
      (λ i. holds (from_literals (sym (take-append-le k trail (l ∷ []) (omega arith)) i)) (sym (get_or-append trail (l ∷ []) (pos 0) k lt) i))
      ∙ m.once k (omega (arith, length-append trail (l ∷ [])));
}
  where
    lower_or_none : (n : ℕ) (b : Bool) (old : ℕ) → n ≡ (if b then 0 else old) → old ≤ stamp → n ≤ stamp
    lower_or_none n true old e h = omega arith
    lower_or_none n false old e h = omega arith

    gone : holds (from_literals trail) l ≡ false
    gone =
        (λ i. holds (from_literals (sym (take-append_seam trail (l ∷ [])) i)) (sym (get_or-append_seam trail l [] (pos 0)) i))
        ∙ m.once (length trail) (omega (arith, length-append trail (l ∷ [])))

    not_none : (n : ℕ) → 0 < n → (0 == n) ≡ false
    not_none n lt = grind (arith, nat_tests)

    chosen : (q : ℤ) (b : Bool) → (index_of (neg_ℤ q) == index_of (neg_ℤ l)) ≡ b → ((if b then 0 else stamp_at stamps (index_of (neg_ℤ q))) == stamp) ≡ holds (from_literals trail) q
    chosen q true e = not_none stamp m.some ∙ sym (ap (holds (from_literals trail)) (same_literal q l (tied q l ∙ sym (neg_tied q l) ∙ e)) ∙ gone)
    chosen q false e = m.marked q ∙ holds-push trail l q ∙ ap (λ b. b || holds (from_literals trail) q) (sym (neg_tied q l) ∙ e)

-- ---- how a trail grows

pub from_literals-with_assigned : (trail : List ℤ) (l : ℤ) → from_literals (with_assigned trail l) ≡ with_literal (from_literals trail) l
from_literals-with_assigned trail l =
    elim (holds (from_literals trail) l) as (λ b. holds (from_literals trail) l ≡ b → from_literals (if b then trail else trail ++ l ∷ []) ≡ with_literal (from_literals trail) l) [
      | true ↦ λ e. sym (with_literal-there (from_literals trail) l e)
      | false ↦ λ e. from_literals-push trail l
    ] refl

pub Extends-refl : (trail : List ℤ) → Extends trail trail
Extends-refl trail = ([], sym (append-nil trail))

pub Extends-trans : (a b c : List ℤ) → Extends a b → Extends b c → Extends a c
Extends-trans a b c h k = (h.0 ++ k.0, k.1 ∙ ap (λ ls. ls ++ k.0) h.1 ∙ append_assoc a h.0 k.0)

pub Extends-with_assigned : (trail : List ℤ) (l : ℤ) → Extends trail (with_assigned trail l)
Extends-with_assigned trail l = elim (holds (from_literals trail) l) as (λ b. Extends trail (if b then trail else trail ++ l ∷ [])) [
  | true ↦ Extends-refl trail
  | false ↦ (l ∷ [], refl)
]

-- a literal whose negation isn't there makes no trail contradictory
pub pushed_unopposed : (trail new : List ℤ) (l : ℤ) → new ≡ trail ++ l ∷ [] → 0 < variable_of l → holds (from_literals trail) (neg_ℤ l) ≡ false → is_contradictory (from_literals new) ≡ is_contradictory (from_literals trail)
pushed_unopposed trail new l is nonzero e = ap is_contradictory (ap from_literals is ∙ from_literals-push trail l) ∙ is_contradictory-unopposed (from_literals trail) l nonzero e
