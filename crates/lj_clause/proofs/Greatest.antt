-- The greatest variable of a list of literals in strict order is the last one's.
use Rattle.std.proofs.Common.{◌≡◌, ℕ, zero, suc, ◌+◌, ◌-◌, ◌*◌, ◌<◌, ◌≤◌, ap, refl, sym, subst, ◌∙◌, length, arith}
use Rattle.std.specs.Prelude.{ℤ, pos, negsuc, Bool, true, false, ◌&&◌, nat_le, List, [], ◌∷◌, Some, slice_get}
use Rattle.std.specs.List.{list_all, AllByRecursion}
use Rattle.std.specs.List.Sorted.{IsStrictlySortedBy}
use Rattle.std.specs.Ordering.{nat_cmp}
use Rattle.std.specs.declared.cmp.Ordering.TheVariants.{Less}
use Rattle.std.proofs.lemmas.Bool.Decides.{nat_tests}
use Rattle.lj_clause.specs.Literal.{lit_cmp, variable_of}
use Rattle.lj_clause.specs.LiteralSet.{LiteralSet, literals}
use Rattle.lj_clause.specs.ClauseMap.{names_up_to}
use Rattle.lj_clause.proofs.LiteralSets.{literals_rise}

below : (x y : ℕ) → nat_cmp x y ≡ Less → x < y
below x y e = grind arith

-- an earlier literal has no greater variable
pub earlier_up_to : (m k : ℤ) → lit_cmp m k ≡ Less → variable_of m ≤ variable_of k
earlier_up_to (pos m) (pos k) e = omega (arith, below (2 * m) (2 * k) e)
earlier_up_to (pos m) (negsuc k) e = omega (arith, below (2 * m) (2 * k + 3) e)
earlier_up_to (negsuc m) (pos k) e = omega (arith, below (2 * m + 3) (2 * k) e)
earlier_up_to (negsuc m) (negsuc k) e = omega (arith, below (2 * m + 3) (2 * k + 3) e)

all_at : (P : ℤ → Type 0) (ls : List ℤ) (i : ℕ) (l : ℤ) → AllByRecursion P ls → slice_get ls i ≡ Some l → P l
all_at P [] i l all e = cc
all_at P (k ∷ ls) zero l all e = let same : k ≡ l = cc in subst P same all.0
all_at P (k ∷ ls) (suc i) l all e = all_at P ls i l all.1 e

greater : (x y v : ℕ) → x ≤ y → (nat_le x v && nat_le y v) ≡ nat_le y v
greater x y v le = grind (arith, nat_tests)

alone : (b : Bool) → (b && true) ≡ b
alone true = refl
alone false = refl

last_up_to : (v : ℕ) (ls : List ℤ) (i : ℕ) (l : ℤ) → IsStrictlySortedBy lit_cmp ls → suc i ≡ length ls → slice_get ls i ≡ Some l
    → list_all (λ k. nat_le (variable_of k) v) ls ≡ nat_le (variable_of l) v
unfolding IsStrictlySortedBy
last_up_to v [] i l rise n e = cc
last_up_to v (k ∷ []) zero l rise n e =
    let same : k ≡ l = cc in alone (nat_le (variable_of k) v) ∙ ap (λ x. nat_le (variable_of x) v) same
last_up_to v (k ∷ []) (suc i) l rise n e = absurd (omega arith)
last_up_to v (k ∷ j ∷ ls) zero l rise n e = absurd (omega arith)
last_up_to v (k ∷ j ∷ ls) (suc i) l rise n e =
    ap (λ b. nat_le (variable_of k) v && b) (last_up_to v (j ∷ ls) i l rise.1 (omega arith) e)
    ∙ greater (variable_of k) (variable_of l) v (earlier_up_to k l (all_at (λ y. lit_cmp k y ≡ Less) (j ∷ ls) i l rise.0 e))

-- a set names up to what its last literal's variable is up to
pub greatest : (c : LiteralSet) (ls : List ℤ) (l : ℤ) (x : ℕ) → ls ≡ literals c → Some l ≡ slice_get ls (length ls - 1) → x ≡ variable_of l
    → (v : ℕ) → names_up_to v c ≡ nat_le x v
greatest c [] l x e last is v = cc
greatest c (k ∷ ls) l x e last is v =
    ap (list_all (λ k. nat_le (variable_of k) v)) (sym e)
    ∙ last_up_to v (k ∷ ls) (length (k ∷ ls) - 1) l (subst (IsStrictlySortedBy lit_cmp) (sym e) (literals_rise c)) (omega arith) (sym last)
    ∙ ap (λ y. nat_le y v) (sym is)
