-- Truth of literals, of clauses, and of clause maps as they change.
use Rattle.std.proofs.Common.{◌≡◌, ◌≢◌, ℕ, zero, suc, ap, refl, sym, ◌∙◌}
use Rattle.std.specs.Prelude.{ℤ, pos, negsuc, neg_ℤ, Bool, true, false, not, cond, ◌||◌, List, [], ◌∷◌, Some, None}
use Rattle.std.specs.Ordering.{eq_by_cmp, nat_cmp}
use Rattle.std.specs.Cmp.{nat_cmp_total}
use Rattle.std.proofs.lemmas.Bool.{false≢true, both_ways, false_from_ne_true}
use lib.IntN.{neg_ℤ-neg_ℤ}
use Rattle.std.specs.FinMap as map
use Rattle.lj_clause.specs.Literal.{lit_cmp}
use Rattle.lj_clause.specs.LiteralSet.{LiteralSet, holds, literals, no_literals, with_negations, negations}
use Rattle.lj_clause.specs.ClauseMap.{ClauseMap}
use Rattle.lj_clause.specs.Truth.{Assignment, is_true, satisfies, SatisfiesAll}
use Rattle.lj_clause.proofs.Literals.{same_literal}
use Rattle.lj_clause.proofs.LiteralSets.{holds-no_literals, holds-with_literal, holds-literals}
use Rattle.lj_clause.proofs.Among.{among, itself, any_at, any_found}

pub not-both : (b : Bool) → b ≡ true → not b ≡ true → ⊥
not-both true e f = false≢true f
not-both false e f = false≢true e

-- a literal other than 0 is true exactly where its negation isn't
pub is_true-neg_ℤ : (a : Assignment) (l : ℤ) → l ≢ pos 0 → is_true a (neg_ℤ l) ≡ not (is_true a l)
is_true-neg_ℤ a (pos zero) h = absurd (h refl)
is_true-neg_ℤ a (pos (suc n)) h = refl
is_true-neg_ℤ a (negsuc n) h = twice (a (suc n))
  where
    twice : (b : Bool) → b ≡ not (not b)
    twice true = refl
    twice false = refl

-- a true literal isn't 0
pub true_nonzero : (a : Assignment) (l : ℤ) → is_true a l ≡ true → l ≢ pos 0
true_nonzero a l t e = false≢true (ap (is_true a) (sym e) ∙ t)

-- nor is the negation of one that isn't 0
pub neg_nonzero : (l : ℤ) → l ≢ pos 0 → neg_ℤ l ≢ pos 0
neg_nonzero l h e = h (sym (neg_ℤ-neg_ℤ l) ∙ ap neg_ℤ e)

-- one true literal satisfies a clause
pub satisfies_by : (a : Assignment) (c : LiteralSet) (l : ℤ) → holds c l ≡ true → is_true a l ≡ true → satisfies a c ≡ true
satisfies_by a c l h t = any_at (is_true a) l (literals c) (sym (holds-literals c l) ∙ h) t

-- a satisfied clause has a true literal
pub true_literal : (a : Assignment) (c : LiteralSet) → satisfies a c ≡ true → (l : ℤ) × (holds c l ≡ true) × (is_true a l ≡ true)
true_literal a c h = let found = any_found (is_true a) (literals c) h in (found.0, holds-literals c found.0 ∙ found.1, found.2)

-- a clause that isn't satisfied has none
pub false_literal : (a : Assignment) (c : LiteralSet) (l : ℤ) → satisfies a c ≡ false → holds c l ≡ true → is_true a l ≡ false
false_literal a c l f h = false_from_ne_true (is_true a l) (λ t. both_ways (satisfies a c) f (satisfies_by a c l h t))

neg_tied : (q l : ℤ) → eq_by_cmp lit_cmp q (neg_ℤ l) ≡ eq_by_cmp lit_cmp (neg_ℤ q) l
neg_tied q l = tied (eq_by_cmp lit_cmp q (neg_ℤ l)) (eq_by_cmp lit_cmp (neg_ℤ q) l) (λ e. ap (λ k. eq_by_cmp lit_cmp k l) (ap neg_ℤ (same_literal q (neg_ℤ l) e) ∙ neg_ℤ-neg_ℤ l) ∙ itself l) (λ e. ap (λ k. eq_by_cmp lit_cmp q (neg_ℤ k)) (sym (same_literal (neg_ℤ q) l e)) ∙ ap (eq_by_cmp lit_cmp q) (neg_ℤ-neg_ℤ q) ∙ itself q)
  where
    tied : (s t : Bool) → (s ≡ true → t ≡ true) → (t ≡ true → s ≡ true) → s ≡ t
    tied true t f g = sym (f refl)
    tied false true f g = g refl
    tied false false f g = refl

or_assoc : (a b c : Bool) → (a || (b || c)) ≡ ((a || b) || c)
or_assoc true b c = refl
or_assoc false b c = refl

or_comm : (a b : Bool) → (a || b) ≡ (b || a)
or_comm true true = refl
or_comm true false = refl
or_comm false true = refl
or_comm false false = refl

-- what a set and the negations of a list hold
pub holds-with_negations : (s : LiteralSet) (ls : List ℤ) (q : ℤ) → holds (with_negations s ls) q ≡ (among (neg_ℤ q) ls || holds s q)
holds-with_negations s [] q = refl
holds-with_negations s (l ∷ ls) q =
    holds-with_literal (with_negations s ls) (neg_ℤ l) q
    ∙ ap (λ b. b || holds (with_negations s ls) q) (neg_tied q l)
    ∙ ap (λ b. eq_by_cmp lit_cmp (neg_ℤ q) l || b) (holds-with_negations s ls q)
    ∙ or_assoc (eq_by_cmp lit_cmp (neg_ℤ q) l) (among (neg_ℤ q) ls) (holds s q)

-- the negations of a clause hold what it holds negated
pub holds-negations : (c : LiteralSet) (q : ℤ) → holds (negations c) q ≡ holds c (neg_ℤ q)
holds-negations c q =
    holds-with_negations no_literals (literals c) q
    ∙ or_comm (among (neg_ℤ q) (literals c)) (holds no_literals q)
    ∙ ap (λ b. b || among (neg_ℤ q) (literals c)) (holds-no_literals q)
    ∙ sym (holds-literals c (neg_ℤ q))

-- one satisfied clause more keeps a map satisfied
pub SatisfiesAll-insert : (a : Assignment) (p : ClauseMap) (n : ℕ) (c : LiteralSet) → SatisfiesAll a p → satisfies a c ≡ true → SatisfiesAll a (map.insert p n c)
SatisfiesAll-insert a p n c all h q d e =
    elim (eq_by_cmp nat_cmp q n) as (λ b. cond b (Some c) (map.get p q) ≡ Some d → satisfies a d ≡ true) [
      | true ↦ λ is. let same : c ≡ d = cc in ap (satisfies a) (sym same) ∙ h
      | false ↦ λ is. all q d is
    ] (sym (map.get-insert nat_cmp_total p n c q) ∙ e)

-- so does one clause less
pub SatisfiesAll-remove : (a : Assignment) (p : ClauseMap) (n : ℕ) → SatisfiesAll a p → SatisfiesAll a (map.remove p n)
SatisfiesAll-remove a p n all q d e =
    elim (eq_by_cmp nat_cmp q n) as (λ b. cond b None (map.get p q) ≡ Some d → satisfies a d ≡ true) [
      | true ↦ λ is. cc
      | false ↦ λ is. all q d is
    ] (sym (map.get-remove nat_cmp_total p n q) ∙ e)

-- nothing satisfies the empty clause
pub satisfies-no_literals : (a : Assignment) → satisfies a no_literals ≡ false
satisfies-no_literals a = false_from_ne_true (satisfies a no_literals) (λ h. let found = true_literal a no_literals h in both_ways (holds no_literals found.0) (holds-no_literals found.0) found.1)

pub satisfies-empty : (a : Assignment) (c : LiteralSet) → map.len c ≡ 0 → satisfies a c ≡ false
satisfies-empty a c e = ap (satisfies a) (map.empty_of_len c e) ∙ satisfies-no_literals a

-- where a map holds a clause that no assignment satisfies, nothing satisfies the map
pub unsatisfiable : (a : Assignment) (p : ClauseMap) (n : ℕ) (c : LiteralSet) → SatisfiesAll a p → map.get p n ≡ Some c → satisfies a c ≡ false → ⊥
unsatisfiable a p n c all got f = both_ways (satisfies a c) f (all n c got)
