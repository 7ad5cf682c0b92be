-- Own numbers that deletions of a run name.
use Rattle.std.proofs.Common.{◌≡◌, ap, refl, sym, ◌∙◌, subst, ℕ, ◌%◌, Bool, cond, true, false, arith}
use Rattle.std.specs.Prelude.{◌==◌, ◌||◌, List, [], ◌∷◌, ◌++◌, length, Some, None, is_some, slice_get, slice_set}
use Rattle.std.proofs.lemmas.Bool.{eqb-true, eq-eqb, false≢true}
use Rattle.std.proofs.lemmas.Option.{slice_get_within}
use Rattle.std.specs.Ordering.{nat_cmp}
use Rattle.std.specs.Cmp.{nat_cmp_total, unsigned_tied}
use Rattle.std.specs.FinMap as fin
use Rattle.lj_clause.proofs.Tests.{turned}
use Rattle.lj_book.specs.Tables.{is_among}
use Rattle.lj_share.specs.inner.Dead.{AreNone, AreWith, AreWithout, DeadValue, AreFlagged}
use Rattle.lj_share.proofs.OwnLaws.{set_at, set_apart}

pub none_dead : (d : DeadValue) → d ≡ fin.empty → AreNone d
none_dead d is n = ap (λ (k : DeadValue). fin.contains_key k n) is ∙ ap is_some (fin.get-empty nat_cmp n)

-- ---- one number more, or less

among_more : (ns : List ℕ) (own n : ℕ) → is_among (ns ++ own ∷ []) n ≡ ((n == own) || is_among ns n)
among_more [] own n = ap (λ b. b || false) (sym (turned n own))
among_more (m ∷ ns) own n = ap (λ b. (m == n) || b) (among_more ns own n) ∙ around (m == n) (n == own) (is_among ns n)
  where
    around : (a b c : Bool) → (a || (b || c)) ≡ (b || (a || c))
    around true true c = refl
    around true false c = refl
    around false b c = refl

put_at : (d : DeadValue) (own n : ℕ) → fin.contains_key (fin.insert d own tt) n ≡ ((n == own) || fin.contains_key d n)
put_at d own n = ap is_some (fin.get-insert nat_cmp_total d own tt n ∙ ap (λ b. cond b (Some tt) (fin.get d n)) (unsigned_tied n own)) ∙ by (n == own)
  where
    by : (b : Bool) → is_some (cond b (Some tt) (fin.get d n)) ≡ (b || fin.contains_key d n)
    by true = refl
    by false = refl

out_at : (d : DeadValue) (own n : ℕ) → fin.contains_key (fin.remove d own) n ≡ cond (n == own) false (fin.contains_key d n)
out_at d own n = ap is_some (fin.get-remove nat_cmp_total d own n ∙ ap (λ b. cond b None (fin.get d n)) (unsigned_tied n own)) ∙ by (n == own)
  where
    by : (b : Bool) → is_some (cond b None (fin.get d n)) ≡ cond b false (fin.contains_key d n)
    by true = refl
    by false = refl

pub with_more : (ns : List ℕ) (own : ℕ) (d e g : DeadValue) → AreWith ns d e → g ≡ fin.insert e own tt → AreWith (ns ++ own ∷ []) d g
with_more ns own d e g are is n =
    ap (λ (k : DeadValue). fin.contains_key k n) is
    ∙ put_at e own n
    ∙ ap (λ b. (n == own) || b) (are n)
    ∙ around (n == own) (is_among ns n) (fin.contains_key d n)
    ∙ sym (ap (λ b. b || fin.contains_key d n) (among_more ns own n))
  where
    around : (a b c : Bool) → (a || (b || c)) ≡ ((a || b) || c)
    around true b c = refl
    around false b c = refl

pub without_more : (ns : List ℕ) (own : ℕ) (d e g : DeadValue) → AreWithout ns d e → g ≡ fin.remove e own → AreWithout (ns ++ own ∷ []) d g
without_more ns own d e g are is n =
    ap (λ (k : DeadValue). fin.contains_key k n) is
    ∙ out_at e own n
    ∙ ap (cond (n == own) false) (are n)
    ∙ around (n == own) (is_among ns n) (fin.contains_key d n)
    ∙ sym (ap (λ b. cond b false (fin.contains_key d n)) (among_more ns own n))
  where
    around : (a b c : Bool) → cond a false (cond b false c) ≡ cond (a || b) false c
    around true b c = refl
    around false b c = refl

-- ---- flags

pub none_flagged : (flags : List Bool) (d : DeadValue) → d ≡ fin.empty → AreFlagged flags d
none_flagged flags d is n has = absurd (false≢true (sym (none_dead d is n) ∙ has))

-- a flag stays where another is made
still_flagged : (flags : List Bool) (i k : ℕ) → slice_get flags k ≡ Some true → slice_get (slice_set flags i true) k ≡ Some true
still_flagged flags i k is = by (k == i) refl
  where
    by : (b : Bool) → (k == i) ≡ b → slice_get (slice_set flags i true) k ≡ Some true
    by true e = subst (λ (j : ℕ). slice_get (slice_set flags j true) k ≡ Some true) (eqb-true k i e) (set_at flags k true (slice_get_within flags k true is))
    by false e = set_apart flags i k true (λ same. false≢true (sym e ∙ eq-eqb k i same)) ∙ is

pub flagged_more : (flags : List Bool) (own i : ℕ) (d e : DeadValue) → i ≡ own % 4096 → length flags ≡ 4096 → AreFlagged flags d → e ≡ fin.insert d own tt → AreFlagged (slice_set flags i true) e
flagged_more flags own i d e at many are is n has = by (n == own) refl
  where
    there : ((n == own) || fin.contains_key d n) ≡ true
    there = sym (put_at d own n) ∙ sym (ap (λ (k : DeadValue). fin.contains_key k n) is) ∙ has

    by : (b : Bool) → (n == own) ≡ b → slice_get (slice_set flags i true) (n % 4096) ≡ Some true
    by true e = subst (λ (k : ℕ). slice_get (slice_set flags i true) k ≡ Some true) (at ∙ ap (λ (m : ℕ). m % 4096) (sym (eqb-true n own e))) (set_at flags i true (omega (arith, at, many)))
    by false e = still_flagged flags i (n % 4096) (are n (sym (ap (λ b. b || fin.contains_key d n) e) ∙ there))
