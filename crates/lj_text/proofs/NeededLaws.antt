-- The needed set is the least closed one.
use Rattle.std.proofs.Common.{◌≡◌, ap, refl, sym, ◌∙◌, subst, ℕ, suc, zero, ◌≤◌, arith}
use Rattle.std.specs.Prelude.{Bool, true, false, cond, ◌||◌, List, [], ◌∷◌, length, is_some, Option, Some, None}
use Rattle.std.specs.List.{AllByRecursion}
use Rattle.std.specs.Ordering.{nat_cmp, eq_by_cmp, is_eq}
use Rattle.std.specs.Cmp.{nat_cmp_total, tied_itself, Equal-is}
use Rattle.std.specs.FinMap.{nat_cmp-IsAntisymmetric}
use Rattle.std.proofs.lemmas.Bool.{false≢true, or_left, or_right}
use Rattle.std.specs.FinMap as fin
use Rattle.lj_clause.proofs.Tests.{marked}
use Rattle.lj_text.specs.declared.line.Addition.{Addition}
use Rattle.lj_text.specs.Needed.{NumberSet, has, with_numbers, up_to_empty, additions, all_hints, pick, with_other, by_pick, closure, empty_numbers, needed_numbers}
use Rattle.lj_text.specs.Laws.{NeededIsLeast}

pub has-insert : (s : NumberSet) (m n : ℕ) → has (fin.insert s m tt) n ≡ (eq_by_cmp nat_cmp n m || has s n)
has-insert s m n = ap is_some (fin.get-insert nat_cmp_total s m tt n) ∙ marked (eq_by_cmp nat_cmp n m) (fin.get s n)

-- a set has only numbers that pass a test
abbrev pub IsWhere : NumberSet → (ℕ → Bool) → Type 0
IsWhere s test = (n : ℕ) → has s n ≡ true → test n ≡ true

-- one set is part of another
abbrev pub IsPart : NumberSet → NumberSet → Type 0
IsPart s t = IsWhere s (has t)

abbrev pub HasAll : NumberSet → List ℕ → Type 0
HasAll s ns = AllByRecursion (λ n. has s n ≡ true) ns

part-with_numbers : (s : NumberSet) (ns : List ℕ) → IsPart s (with_numbers s ns)
part-with_numbers s [] n e = e
part-with_numbers s (m ∷ ms) n e = has-insert (with_numbers s ms) m n ∙ or_right (eq_by_cmp nat_cmp n m) (has (with_numbers s ms) n) (part-with_numbers s ms n e)

pub all_in_part : (s t : NumberSet) (ns : List ℕ) → IsPart s t → HasAll s ns → HasAll t ns
all_in_part s t [] part h = tt
all_in_part s t (n ∷ ns) part h = (part n h.0, all_in_part s t ns part h.1)

pub has_all-with_numbers : (s : NumberSet) (ns : List ℕ) → HasAll (with_numbers s ns) ns
has_all-with_numbers s [] = tt
has_all-with_numbers s (n ∷ ns) = (
  has-insert (with_numbers s ns) n n ∙ or_left (eq_by_cmp nat_cmp n n) (has (with_numbers s ns) n) (ap is_eq (tied_itself nat_cmp_total n)),
  all_in_part (with_numbers s ns) (with_numbers s (n ∷ ns)) ns (λ m e. has-insert (with_numbers s ns) n m ∙ or_right (eq_by_cmp nat_cmp m n) (has (with_numbers s ns) m) e) (has_all-with_numbers s ns),
)

pub with_numbers_where : (s : NumberSet) (test : ℕ → Bool) (ns : List ℕ) → IsWhere s test → AllByRecursion (λ n. test n ≡ true) ns → IsWhere (with_numbers s ns) test
with_numbers_where s test [] part h n e = part n e
with_numbers_where s test (m ∷ ms) part h n e =
    elim (eq_by_cmp nat_cmp n m) as (λ b. eq_by_cmp nat_cmp n m ≡ b → (b || has (with_numbers s ms) n) ≡ true → test n ≡ true) [
      | true ↦ λ is _. ap test (nat_cmp-IsAntisymmetric n m ((Equal-is (nat_cmp n m)).0 is)) ∙ h.0
      | false ↦ λ is later. with_numbers_where s test ms part h.1 n later
    ] refl (sym (has-insert (with_numbers s ms) m n) ∙ e)

-- the set covers an addition: with its number it has all its hints
abbrev pub Covers : NumberSet → Addition → Type 0
Covers t a = has t a.number ≡ true → HasAll t (all_hints a)

abbrev pub Found : Type 0
Found = Addition × List Addition

-- what a pick says of the list that it was made from
record Picked (t : NumberSet) (adds : List Addition) (found : Found) : Type 0 where
  shorter : length adds ≡ suc (length found.1)
  covers : Covers t found.0 → AllByRecursion (Covers t) found.1 → AllByRecursion (Covers t) adds

pub same_found : (x y : Found) → Some x ≡ Some y → x ≡ y
same_found x y e = cc

other_picked : (t : NumberSet) (x : Addition) (xs : List Addition) (o : Option Found) (found : Found) → ((f : Found) → o ≡ Some f → Picked t xs f) → with_other x o ≡ Some found → Picked t (x ∷ xs) found
other_picked t x xs None found later e = cc
other_picked t x xs (Some f) found later e =
    let was = later f refl in
    subst (Picked t (x ∷ xs)) (same_found (f.0, x ∷ f.1) found e) (record { shorter = ap suc was.shorter; covers = λ one rest. (rest.0, was.covers one rest.1) })

picked : (s t : NumberSet) (adds : List Addition) (found : Found) → pick s adds ≡ Some found → Picked t adds found
picked s t [] found e = cc
picked s t (x ∷ xs) found e =
    elim (has s x.number) as (λ b. cond b (Some (x, xs)) (with_other x (pick s xs)) ≡ Some found → Picked t (x ∷ xs) found) [
      | true ↦ λ is. subst (Picked t (x ∷ xs)) (same_found (x, xs) found is) (record { shorter = refl; covers = λ one rest. (one, rest) })
      | false ↦ λ is. other_picked t x xs (pick s xs) found (λ f e. picked s t xs f e) is
    ] e

other_none : (x : Addition) (o : Option Found) → with_other x o ≡ None → o ≡ None
other_none x None e = refl
other_none x (Some f) e = cc

none_picked : (s : NumberSet) (adds : List Addition) → pick s adds ≡ None → AllByRecursion (Covers s) adds
none_picked s [] e = tt
none_picked s (x ∷ xs) e =
    elim (has s x.number) as (λ b. has s x.number ≡ b → cond b (Some (x, xs)) (with_other x (pick s xs)) ≡ None → AllByRecursion (Covers s) (x ∷ xs)) [
      | true ↦ λ here is. cc
      | false ↦ λ here is. (λ yes. absurd (false≢true (sym here ∙ yes)), none_picked s xs (other_none x (pick s xs) is))
    ] refl e

-- what a closure holds, with enough turns
pub record Closes (s t : NumberSet) (adds : List Addition) : Type 0 where
  pub part : IsPart s t
  pub covers : AllByRecursion (Covers t) adds

pub closes : (n : ℕ) (s : NumberSet) (adds : List Addition) → length adds ≤ n → Closes s (closure n s adds) adds
closes zero s [] le = record { part = λ n e. e; covers = tt }
closes zero s (a ∷ adds) le = absurd (omega arith)
closes (suc n) s adds le =
    elim (pick s adds) as (λ o. pick s adds ≡ o → Closes s (by_pick (closure n) s o) adds) [
      | None ↦ λ is. record { part = λ n e. e; covers = none_picked s adds is }
      | Some found ↦ λ is.
          let more = with_numbers s (all_hints found.0) in
          let t = closure n more found.1 in
          let was = picked s t adds found is in
          let fewer : length found.1 ≤ n = omega (arith, was.shorter) in
          let later = closes n more found.1 fewer in
          record {
            part = λ m e. later.part m (part-with_numbers s (all_hints found.0) m e);
            covers = was.covers (λ _. all_in_part more t (all_hints found.0) later.part (has_all-with_numbers s (all_hints found.0))) later.covers;
          }
    ] refl

-- a test that an addition's hints pass if its number does
abbrev CoversBy : (ℕ → Bool) → Addition → Type 0
CoversBy test a = test a.number ≡ true → AllByRecursion (λ n. test n ≡ true) (all_hints a)

-- what a pick took, by a test that covers each addition
record Taken (s : NumberSet) (test : ℕ → Bool) (found : Found) : Type 0 where
  hints : IsWhere s test → AllByRecursion (λ n. test n ≡ true) (all_hints found.0)
  rest : AllByRecursion (CoversBy test) found.1

other_taken : (s : NumberSet) (test : ℕ → Bool) (x : Addition) (o : Option Found) (found : Found) → CoversBy test x → ((f : Found) → o ≡ Some f → Taken s test f) → with_other x o ≡ Some found → Taken s test found
other_taken s test x None found cover later e = cc
other_taken s test x (Some f) found cover later e =
    let was = later f refl in
    subst (Taken s test) (same_found (f.0, x ∷ f.1) found e) (record { hints = was.hints; rest = (cover, was.rest) })

taken : (s : NumberSet) (test : ℕ → Bool) (adds : List Addition) (found : Found) → AllByRecursion (CoversBy test) adds → pick s adds ≡ Some found → Taken s test found
taken s test [] found cover e = cc
taken s test (x ∷ xs) found cover e =
    elim (has s x.number) as (λ b. has s x.number ≡ b → cond b (Some (x, xs)) (with_other x (pick s xs)) ≡ Some found → Taken s test found) [
      | true ↦ λ here is. subst (Taken s test) (same_found (x, xs) found is) (record { hints = λ part. cover.0 (part x.number here); rest = cover.1 })
      | false ↦ λ here is. other_taken s test x (pick s xs) found cover.0 (λ f e. taken s test xs f cover.1 e) is
    ] refl e

-- where a test covers each addition, and each number of a set passes it, each number of its closure does
pub closure_where : (n : ℕ) (s : NumberSet) (test : ℕ → Bool) (adds : List Addition) → IsWhere s test → AllByRecursion (CoversBy test) adds → IsWhere (closure n s adds) test
closure_where zero s test adds part cover = part
closure_where (suc n) s test adds part cover =
    elim (pick s adds) as (λ o. pick s adds ≡ o → IsWhere (by_pick (closure n) s o) test) [
      | None ↦ λ is. part
      | Some found ↦ λ is.
          let was = taken s test adds found cover is in
          closure_where n (with_numbers s (all_hints found.0)) test found.1 (with_numbers_where s test (all_hints found.0) part (was.hints part)) was.rest
    ] refl

pub no_numbers : (test : ℕ → Bool) → IsWhere fin.empty test
no_numbers test n e = absurd (false≢true (sym (ap is_some (fin.get-empty nat_cmp n)) ∙ e))

pub needed_least : NeededIsLeast
needed_least steps =
    let adds = additions (up_to_empty steps) in
    let first = with_numbers fin.empty (empty_numbers (up_to_empty steps)) in
    let all = closes (length adds) first adds (omega arith) in (
      record {
        empty_clause = all_in_part first (needed_numbers steps) (empty_numbers (up_to_empty steps)) all.part (has_all-with_numbers fin.empty (empty_numbers (up_to_empty steps)));
        hints = all.covers;
      },
      λ s closed. closure_where (length adds) first (has s) adds (with_numbers_where fin.empty (has s) (empty_numbers (up_to_empty steps)) (no_numbers (has s)) closed.empty_clause) closed.hints,
    )
