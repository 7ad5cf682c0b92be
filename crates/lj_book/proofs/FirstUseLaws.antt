-- First uses of variables, as clauses come and go.
use Rattle.std.proofs.Common.{◌≡◌, ap, refl, sym, ◌∙◌, subst, ℕ, zero, suc, ◌+◌, ◌<◌, ◌≤◌, ◌*◌, ◌-◌, arith, length}
use Rattle.std.proofs.lemmas.Bool.{false≢true, or_cases}
use Rattle.std.proofs.lemmas.Bool.Decides.{nat_tests}
use Rattle.std.specs.declared.cmp.Ordering.TheVariants.{Less}
use Rattle.std.specs.List.Sorted.{IsStrictlySortedBy}
use Rattle.std.specs.Prelude.{ℤ, pos, negsuc, Bool, true, false, cond, List, [], ◌∷◌, None, Some, is_some, slice_get, nat_le, ◌⊎◌, ◌&&◌}
use Rattle.std.proofs.Common.{inl, inr}
use Rattle.std.specs.List.{AllByRecursion, list_any, list_all}
use Rattle.std.specs.Ordering.{nat_cmp, eq_by_cmp}
use Rattle.std.specs.Cmp.{nat_cmp_total}
use Rattle.std.specs.FinMap as fin
use Rattle.lj_clause.specs.Literal.{variable_of, lit_cmp}
use Rattle.lj_clause.specs.LiteralSet.{LiteralSet, literals, holds}
use Rattle.lj_clause.specs.ClauseMap.{ClauseMap, FormulaValue, formula_map, names_up_to, IsFormula}
use Rattle.lj_clause.proofs.Literals.{same_literal}
use Rattle.lj_clause.proofs.LiteralSets.{holds-literals}
use Rattle.lj_clause.proofs.Formulas.{clause_zero, clause_at}
use Rattle.lj_book.specs.declared.first_uses.FirstUse.{FirstUse}
use Rattle.lj_book.specs.declared.first_uses.FirstUses.{FirstUses}
use Rattle.lj_book.specs.inner.FirstUses.{IsSince, AreAfter, IsFirstUse, AreFirstUses}

-- ---- literals of a clause

-- the variables of these literals are at most this one
abbrev pub AreUpTo : ℕ → List ℤ → Type 0
AreUpTo v ls = AllByRecursion (λ (l : ℤ). variable_of l ≤ v) ls

pub up_to_one : (v : ℕ) (ls : List ℤ) (l : ℤ) → AreUpTo v ls → list_any (eq_by_cmp lit_cmp l) ls ≡ true → variable_of l ≤ v
up_to_one v [] l all is = absurd (false≢true is)
up_to_one v (m ∷ ls) l all is = by (up_to_one v ls l all.1) (or_cases (eq_by_cmp lit_cmp l m) (list_any (eq_by_cmp lit_cmp l) ls) is)
  where
    by : (list_any (eq_by_cmp lit_cmp l) ls ≡ true → variable_of l ≤ v) → (eq_by_cmp lit_cmp l m ≡ true) ⊎ (list_any (eq_by_cmp lit_cmp l) ls ≡ true) → variable_of l ≤ v
    by later (inl e) = subst (λ (k : ℤ). variable_of k ≤ v) (sym (same_literal l m e)) all.0
    by later (inr e) = later e

-- those of a clause, by its literals
pub up_to_all : (v : ℕ) (c : LiteralSet) (ls : List ℤ) → ls ≡ literals c → AreUpTo v ls → (l : ℤ) → holds c l ≡ true → variable_of l ≤ v
up_to_all v c ls are all l is = up_to_one v ls l all (ap (list_any (eq_by_cmp lit_cmp l)) are ∙ sym (holds-literals c l) ∙ is)

below : (x y : ℕ) → nat_cmp x y ≡ Less → x < y
below x y e = grind arith

-- an earlier literal has no greater variable
earlier_up_to : (m k : ℤ) → lit_cmp m k ≡ Less → variable_of m ≤ variable_of k
earlier_up_to (pos m) (pos k) e = omega (arith, below (2 * m) (2 * k) e)
earlier_up_to (pos m) (negsuc k) e = omega (arith, below (2 * m) (2 * k + 3) e)
earlier_up_to (negsuc m) (pos k) e = omega (arith, below (2 * m + 3) (2 * k) e)
earlier_up_to (negsuc m) (negsuc k) e = omega (arith, below (2 * m + 3) (2 * k + 3) e)

less_one : (n : ℕ) → suc n - 1 ≡ n
less_one n = omega arith

-- literals in order have variables up to that of the last
pub up_to_last : (ls : List ℤ) (l : ℤ) → IsStrictlySortedBy lit_cmp ls → slice_get ls (length ls - 1) ≡ Some l → AreUpTo (variable_of l) ls
unfolding IsStrictlySortedBy
up_to_last [] l rise e = tt
up_to_last (m ∷ []) l rise e = (let it : m ≡ l = cc in subst (λ (k : ℤ). variable_of m ≤ variable_of k) it (omega arith), tt)
up_to_last (m ∷ k ∷ ls) l rise e =
    let n : ℕ = length ls in
    let at : slice_get (m ∷ k ∷ ls) (suc n) ≡ Some l = sym (ap (slice_get (m ∷ k ∷ ls)) (less_one (suc n))) ∙ e in
    let rest = up_to_last (k ∷ ls) l rise.1 (ap (slice_get (k ∷ ls)) (less_one n) ∙ at) in
    (omega (arith, earlier_up_to m k rise.0.0, rest.0), rest)

some_last : (m : ℤ) (ls : List ℤ) → is_some (slice_get (m ∷ ls) (length ls)) ≡ true
some_last m [] = refl
some_last m (k ∷ ls) = some_last k ls

pub up_to_none : (v : ℕ) (ls : List ℤ) → slice_get ls (length ls - 1) ≡ None → AreUpTo v ls
up_to_none v [] e = tt
up_to_none v (m ∷ ls) e = absurd (false≢true (sym (ap is_some e) ∙ ap (λ (i : ℕ). is_some (slice_get (m ∷ ls) i)) (less_one (length ls)) ∙ some_last m ls))

pub up_to_more : (v w : ℕ) (ls : List ℤ) → v ≤ w → AreUpTo v ls → AreUpTo w ls
up_to_more v w [] le all = tt
up_to_more v w (l ∷ ls) le all = (omega (arith, all.0), up_to_more v w ls le all.1)

-- ---- what a map with a clause more or less has

-- a clause of the map with one more is that one or an old one
pub one_more : (p : ClauseMap) (k n : ℕ) (c d : LiteralSet) → fin.get (fin.insert p k d) n ≡ Some c → ((n ≡ k) × (d ≡ c)) ⊎ (fin.get p n ≡ Some c)
one_more p k n c d is = by (eq_by_cmp nat_cmp n k) refl (sym (fin.get-insert nat_cmp_total p k d n) ∙ is)
  where
    same : (a b : ℕ) → eq_by_cmp nat_cmp a b ≡ true → a ≡ b
    same a b e = grind arith

    by : (b : Bool) → eq_by_cmp nat_cmp n k ≡ b → cond b (Some d) (fin.get p n) ≡ Some c → ((n ≡ k) × (d ≡ c)) ⊎ (fin.get p n ≡ Some c)
    by true e at = inl (same n k e, let it : d ≡ c = cc in it)
    by false e at = inr at

-- ---- first uses

-- of a map with fewer clauses
pub since_fewer : (p q : ClauseMap) (l : ℤ) (from : ℕ) → ((n : ℕ) (c : LiteralSet) → fin.get q n ≡ Some c → fin.get p n ≡ Some c) → IsSince p l from → IsSince q l from
since_fewer p q l from fewer is n c at has = is n c (fewer n c at) has

each_fewer : (p q : ClauseMap) (last next : ℕ) (us : List FirstUse) → last ≤ next → ((n : ℕ) (c : LiteralSet) → fin.get q n ≡ Some c → fin.get p n ≡ Some c) → AllByRecursion (IsFirstUse p last) us → AllByRecursion (IsFirstUse q next) us
each_fewer p q last next [] le fewer are = tt
each_fewer p q last next (u ∷ us) le fewer are = (
  record { after = λ l above. since_fewer p q l u.from fewer (are.0.after l above); given = omega (arith, are.0.given, le) },
  each_fewer p q last next us le fewer are.1,
)

pub uses_fewer : (p q : ClauseMap) (last : ℕ) (uses : FirstUses) → ((n : ℕ) (c : LiteralSet) → fin.get q n ≡ Some c → fin.get p n ≡ Some c) → AreFirstUses p last uses → AreFirstUses q last uses
uses_fewer p q last uses fewer are = record {
  within = λ n c l at has. are.within n c l (fewer n c at) has;
  each = each_fewer p q last last uses.list.items (omega arith) fewer are.each;
}

-- of a map with a clause more, whose number is beyond all others
since_more : (p : ClauseMap) (k last : ℕ) (d : LiteralSet) (l : ℤ) (from : ℕ) → from ≤ last → last < k → IsSince p l from → IsSince (fin.insert p k d) l from
since_more p k last d l from given beyond is n c at has = by (one_more p k n c d at)
  where
    by : ((n ≡ k) × (d ≡ c)) ⊎ (fin.get p n ≡ Some c) → from ≤ n
    by (inl e) = omega (arith, given, beyond, e.0)
    by (inr old) = is n c old has

pub each_more : (p : ClauseMap) (k last next : ℕ) (d : LiteralSet) (us : List FirstUse) → last < k → last ≤ next → AllByRecursion (IsFirstUse p last) us → AllByRecursion (IsFirstUse (fin.insert p k d) next) us
each_more p k last next d [] beyond le are = tt
each_more p k last next d (u ∷ us) beyond le are = (
  record { after = λ l above. since_more p k last d l u.from are.0.given beyond (are.0.after l above); given = omega (arith, are.0.given, le) },
  each_more p k last next d us beyond le are.1,
)

-- its variables are at most the greatest
pub within_more : (p : ClauseMap) (k v w : ℕ) (d : LiteralSet) → v ≤ w → ((l : ℤ) → holds d l ≡ true → variable_of l ≤ w) → ((n : ℕ) (c : LiteralSet) (l : ℤ) → fin.get p n ≡ Some c → holds c l ≡ true → variable_of l ≤ v)
    → (n : ℕ) (c : LiteralSet) (l : ℤ) → fin.get (fin.insert p k d) n ≡ Some c → holds c l ≡ true → variable_of l ≤ w
within_more p k v w d le new old n c l at has = by (one_more p k n c d at)
  where
    by : ((n ≡ k) × (d ≡ c)) ⊎ (fin.get p n ≡ Some c) → variable_of l ≤ w
    by (inl e) = new l (ap (λ (x : LiteralSet). holds x l) e.1 ∙ has)
    by (inr before) = let lt = old n c l before has in omega (arith, lt, le)

-- variables above all others are used from it on
pub after_more : (p : ClauseMap) (k v : ℕ) (d : LiteralSet) → ((n : ℕ) (c : LiteralSet) (l : ℤ) → fin.get p n ≡ Some c → holds c l ≡ true → variable_of l ≤ v) → AreAfter (fin.insert p k d) v k
after_more p k v d old l above n c at has = by (one_more p k n c d at)
  where
    by : ((n ≡ k) × (d ≡ c)) ⊎ (fin.get p n ≡ Some c) → k ≤ n
    by (inl e) = omega (arith, e.0)
    by (inr before) = absurd (let lt = old n c l before has in let no : ⊥ = omega (arith, lt, above) in no)

-- ---- those of a formula

pub name_at : (v : ℕ) (cs : List LiteralSet) (i : ℕ) (c : LiteralSet) → list_all (names_up_to v) cs ≡ true → slice_get cs i ≡ Some c → names_up_to v c ≡ true
name_at v [] i c all at = absurd (false≢true (ap is_some at))
name_at v (d ∷ cs) zero c all at = let e : d ≡ c = cc in ap (names_up_to v) (sym e) ∙ first (names_up_to v d) (list_all (names_up_to v) cs) all
  where
    first : (a b : Bool) → (a && b) ≡ true → a ≡ true
    first true b e = refl
    first false b e = absurd (false≢true e)
name_at v (d ∷ cs) (suc i) c all at = name_at v cs i c (second (names_up_to v d) (list_all (names_up_to v) cs) all) at
  where
    second : (a b : Bool) → (a && b) ≡ true → b ≡ true
    second true b e = e
    second false b e = absurd (false≢true e)

up_to_from : (v : ℕ) (ls : List ℤ) → list_all (λ (l : ℤ). nat_le (variable_of l) v) ls ≡ true → AreUpTo v ls
up_to_from v [] all = tt
up_to_from v (l ∷ ls) all = (within (variable_of l) v (nat_le (variable_of l) v) refl all, up_to_from v ls (rest (nat_le (variable_of l) v) (list_all (λ (m : ℤ). nat_le (variable_of m) v) ls) all))
  where
    le : (a b : ℕ) → nat_le a b ≡ true → a ≤ b
    le a b e = grind (arith, nat_tests)

    within : (a b : ℕ) (t : Bool) → nat_le a b ≡ t → (t && list_all (λ (m : ℤ). nat_le (variable_of m) v) ls) ≡ true → a ≤ b
    within a b true e h = le a b e
    within a b false e h = absurd (false≢true h)

    rest : (a b : Bool) → (a && b) ≡ true → b ≡ true
    rest true b e = e
    rest false b e = absurd (false≢true e)

formula_within : (f : FormulaValue) → IsFormula f → (n : ℕ) (c : LiteralSet) (l : ℤ) → fin.get (formula_map f) n ≡ Some c → holds c l ≡ true → variable_of l ≤ f.variables
formula_within f is zero c l at has = absurd (false≢true (ap is_some (sym (clause_zero f 0 (omega arith)) ∙ at)))
formula_within f is (suc i) c l at has =
    let there : slice_get f.clauses i ≡ Some c = sym (clause_at f (suc i) i (omega arith)) ∙ at in
    up_to_all f.variables c (literals c) refl (up_to_from f.variables (literals c) (name_at f.variables f.clauses i c is.in_range there)) l has

pub uses_opening : (f : FormulaValue) (last : ℕ) (uses : FirstUses) → IsFormula f → uses.top ≡ f.variables → uses.list.items ≡ [] → AreFirstUses (formula_map f) last uses
uses_opening f last uses is top none = record {
  within = λ n c l at has. let le = formula_within f is n c l at has in omega (arith, le, top);
  each = subst (AllByRecursion (IsFirstUse (formula_map f) last)) (sym none) tt;
}
