-- What an ordered set holds after an insertion.
use Rattle.std.proofs.Common.{◌≡◌, ℕ, ◌+◌, ◌<◌, ap, sym, ◌∙◌, refl, take, get_or, length}
use Rattle.std.proofs.lemmas.List.{take_more, append-nil}
use Rattle.std.proofs.lemmas.List.Elements.{filter-append}
use Rattle.std.specs.Prelude.{ℤ, neg_ℤ, Bool, true, false, cond, ◌||◌, List, [], ◌∷◌, ◌++◌, filter}
use Rattle.std.specs.Ordering.{eq_by_cmp}
use Rattle.lj_clause.specs.Literal.{lit_cmp}
use Rattle.lj_clause.specs.LiteralSet.{LiteralSet, holds, with_literal, with_negations}
use Rattle.lj_clause.proofs.LiteralSets.{same_set, holds-with_literal}

or-swap : (a b c : Bool) → (a || (b || c)) ≡ (b || (a || c))
or-swap true true c = refl
or-swap true false c = refl
or-swap false b c = refl

-- two literals go in in either order
with_literal-swap : (s : LiteralSet) (l m : ℤ) → with_literal (with_literal s l) m ≡ with_literal (with_literal s m) l
with_literal-swap s l m =
    same_set _ _ (λ q.
    holds-with_literal (with_literal s l) m q
    ∙ ap (λ b. eq_by_cmp lit_cmp q m || b) (holds-with_literal s l q)
    ∙ or-swap (eq_by_cmp lit_cmp q m) (eq_by_cmp lit_cmp q l) (holds s q)
    ∙ ap (λ b. eq_by_cmp lit_cmp q l || b) (sym (holds-with_literal s m q))
    ∙ sym (holds-with_literal (with_literal s m) l q))

with_negations-push : (s : LiteralSet) (ls : List ℤ) (l : ℤ) → with_negations s (ls ++ l ∷ []) ≡ with_literal (with_negations s ls) (neg_ℤ l)
with_negations-push s [] l = refl
with_negations-push s (m ∷ ls) l = ap (λ t. with_literal t (neg_ℤ m)) (with_negations-push s ls l) ∙ with_literal-swap (with_negations s ls) (neg_ℤ l) (neg_ℤ m)

-- one negation more
pub with_negations-more : (s : LiteralSet) (ls : List ℤ) (i : ℕ) (l : ℤ) → l ≡ get_or ls i l → i < length ls → with_literal (with_negations s (take i ls)) (neg_ℤ l) ≡ with_negations s (take (i + 1) ls)
with_negations-more s ls i l is lt =
    sym (with_negations-push s (take i ls) l) ∙ ap (with_negations s) (ap (λ m. take i ls ++ m ∷ []) is ∙ sym (take_more ls i l lt))

filter-more : (p : ℤ → Bool) (ls : List ℤ) (i : ℕ) (l : ℤ) → l ≡ get_or ls i l → i < length ls → filter p (take (i + 1) ls) ≡ filter p (take i ls) ++ cond (p l) (l ∷ []) []
filter-more p ls i l is lt =
    ap (filter p) (take_more ls i l lt ∙ ap (λ m. take i ls ++ m ∷ []) (sym is))
    ∙ filter-append p (take i ls) (l ∷ [])

-- one negation more of those that pass a test
pub with_negations-passed : (s : LiteralSet) (p : ℤ → Bool) (ls : List ℤ) (i : ℕ) (l : ℤ) → l ≡ get_or ls i l → i < length ls → p l ≡ true → with_literal (with_negations s (filter p (take i ls))) (neg_ℤ l) ≡ with_negations s (filter p (take (i + 1) ls))
with_negations-passed s p ls i l is lt h =
    sym (ap (with_negations s) (filter-more p ls i l is lt ∙ ap (λ b. filter p (take i ls) ++ cond b (l ∷ []) []) h) ∙ with_negations-push s (filter p (take i ls)) l)

-- and one that doesn't
pub with_negations-skipped : (s : LiteralSet) (p : ℤ → Bool) (ls : List ℤ) (i : ℕ) (l : ℤ) → l ≡ get_or ls i l → i < length ls → p l ≡ false → with_negations s (filter p (take i ls)) ≡ with_negations s (filter p (take (i + 1) ls))
with_negations-skipped s p ls i l is lt h =
    sym (ap (with_negations s) (filter-more p ls i l is lt ∙ ap (λ b. filter p (take i ls) ++ cond b (l ∷ []) []) h ∙ append-nil (filter p (take i ls))))
