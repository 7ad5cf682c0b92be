-- Clauses under numbers, each with its joint number.
use Rattle.std.proofs.Common.{◌≡◌, ap, refl, sym, ◌∙◌, ℕ, Bool, cond, true, false}
use Rattle.std.specs.Prelude.{◌==◌, Option, Some, None, is_some, Result, Ok, Err, OnOk, OnErr}
use Rattle.std.specs.Ordering.{nat_cmp}
use Rattle.std.specs.Cmp.{nat_cmp_total, unsigned_tied}
use Rattle.std.specs.FinMap as fin
use Rattle.std.proofs.lemmas.Bool.{eqb-true, false≢true}
use Rattle.lj_clause.specs.LiteralSet.{LiteralSet}
use Rattle.lj_clause.specs.ClauseMap.{ClauseMap}
use Rattle.lj_share.specs.inner.Bindings.{BindingsValue, AreAlike, IsSet, bound_at, pair_of, under_joint}

abbrev pub Joints : Type 0
Joints = fin.FinMap nat_cmp ℕ

put_at : {A : Type 0} (m : fin.FinMap nat_cmp A) (k : ℕ) (x : A) (n : ℕ) → fin.get (fin.insert m k x) n ≡ cond (n == k) (Some x) (fin.get m n)
put_at m k x n = fin.get-insert nat_cmp_total m k x n ∙ ap (λ b. cond b (Some x) (fin.get m n)) (unsigned_tied n k)

out_at : {A : Type 0} (m : fin.FinMap nat_cmp A) (k n : ℕ) → fin.get (fin.remove m k) n ≡ cond (n == k) None (fin.get m n)
out_at m k n = fin.get-remove nat_cmp_total m k n ∙ ap (λ b. cond b None (fin.get m n)) (unsigned_tied n k)

-- ---- no clause

pub alike_empty : (cs : ClauseMap) (js : Joints) → cs ≡ fin.empty → js ≡ fin.empty → AreAlike cs js
alike_empty cs js c j n =
    ap (λ (m : ClauseMap). is_some (fin.get m n)) c
    ∙ ap is_some (fin.get-empty nat_cmp n)
    ∙ sym (ap is_some (fin.get-empty nat_cmp n))
    ∙ sym (ap (λ (m : Joints). is_some (fin.get m n)) j)

none_of_none : (j : Option ℕ) → pair_of None j ≡ None
none_of_none None = refl
none_of_none (Some j) = refl

pub bound_empty : (b : BindingsValue) → b.clauses ≡ fin.empty → (n : ℕ) → bound_at b n ≡ None
bound_empty b c n =
    ap (λ (m : ClauseMap). pair_of (fin.get m n) (fin.get b.joints n)) c
    ∙ ap (λ (o : Option LiteralSet). pair_of o (fin.get b.joints n)) (fin.get-empty nat_cmp n)
    ∙ none_of_none (fin.get b.joints n)

-- ---- what is put

-- a clause and a joint number were put under the number
pub alike_put : (cs : ClauseMap) (js : Joints) (k j : ℕ) (c : LiteralSet) → AreAlike cs js → AreAlike (fin.insert cs k c) (fin.insert js k j)
alike_put cs js k j c alike n =
    ap is_some (put_at cs k c n) ∙ by (n == k) ∙ sym (ap is_some (put_at js k j n))
  where
    by : (b : Bool) → is_some (cond b (Some c) (fin.get cs n)) ≡ is_some (cond b (Some j) (fin.get js n))
    by true = refl
    by false = alike n

pub set_put : (b a : BindingsValue) (k j : ℕ) (c : LiteralSet) → a.clauses ≡ fin.insert b.clauses k c → a.joints ≡ fin.insert b.joints k j → IsSet b k (Some (record { joint = j; clause = c })) a
set_put b a k j c cs js n =
    ap (λ (m : ClauseMap). pair_of (fin.get m n) (fin.get a.joints n)) cs
    ∙ ap (λ (m : Joints). pair_of (fin.get (fin.insert b.clauses k c) n) (fin.get m n)) js
    ∙ (λ i. pair_of (put_at b.clauses k c n i) (put_at b.joints k j n i))
    ∙ by (n == k)
  where
    by : (t : Bool) → pair_of (cond t (Some c) (fin.get b.clauses n)) (cond t (Some j) (fin.get b.joints n)) ≡ cond t (Some (record { joint = j; clause = c })) (bound_at b n)
    by true = refl
    by false = refl

-- a joint number was put under a number that has one
pub alike_again : (cs : ClauseMap) (js : Joints) (k j : ℕ) → is_some (fin.get js k) ≡ true → AreAlike cs js → AreAlike cs (fin.insert js k j)
alike_again cs js k j has alike n = by (n == k) refl ∙ sym (ap is_some (put_at js k j n))
  where
    by : (b : Bool) → (n == k) ≡ b → is_some (fin.get cs n) ≡ is_some (cond (n == k) (Some j) (fin.get js n))
    by true e = alike n ∙ ap (λ (m : ℕ). is_some (fin.get js m)) (eqb-true n k e) ∙ has ∙ sym (ap (λ b. is_some (cond b (Some j) (fin.get js n))) e)
    by false e = alike n ∙ sym (ap (λ b. is_some (cond b (Some j) (fin.get js n))) e)

joint_over : (c : Option LiteralSet) (o : Option ℕ) (j : ℕ) → is_some o ≡ true → pair_of c (Some j) ≡ under_joint j (pair_of c o)
joint_over c None j has = absurd (false≢true has)
joint_over None (Some o) j has = refl
joint_over (Some c) (Some o) j has = refl

pub set_again : (b a : BindingsValue) (k j : ℕ) → is_some (fin.get b.joints k) ≡ true → a.clauses ≡ b.clauses → a.joints ≡ fin.insert b.joints k j → IsSet b k (under_joint j (bound_at b k)) a
set_again b a k j has cs js n =
    ap (λ (m : ClauseMap). pair_of (fin.get m n) (fin.get a.joints n)) cs
    ∙ ap (λ (m : Joints). pair_of (fin.get b.clauses n) (fin.get m n)) js
    ∙ ap (pair_of (fin.get b.clauses n)) (put_at b.joints k j n)
    ∙ by (n == k) refl
  where
    by : (t : Bool) → (n == k) ≡ t → pair_of (fin.get b.clauses n) (cond (n == k) (Some j) (fin.get b.joints n)) ≡ cond (n == k) (under_joint j (bound_at b k)) (bound_at b n)
    by true e =
        ap (λ t. pair_of (fin.get b.clauses n) (cond t (Some j) (fin.get b.joints n))) e
        ∙ ap (λ (m : ℕ). pair_of (fin.get b.clauses m) (Some j)) (eqb-true n k e)
        ∙ joint_over (fin.get b.clauses k) (fin.get b.joints k) j has
        ∙ sym (ap (λ t. cond t (under_joint j (bound_at b k)) (bound_at b n)) e)
    by false e =
        ap (λ t. pair_of (fin.get b.clauses n) (cond t (Some j) (fin.get b.joints n))) e
        ∙ sym (ap (λ t. cond t (under_joint j (bound_at b k)) (bound_at b n)) e)

-- ---- what is taken out

pub alike_out : (cs : ClauseMap) (js : Joints) (k : ℕ) → AreAlike cs js → AreAlike (fin.remove cs k) (fin.remove js k)
alike_out cs js k alike n =
    ap is_some (out_at cs k n) ∙ by (n == k) ∙ sym (ap is_some (out_at js k n))
  where
    by : (b : Bool) → is_some (cond b None (fin.get cs n)) ≡ is_some (cond b None (fin.get js n))
    by true = refl
    by false = alike n

pub set_out : (b a : BindingsValue) (k : ℕ) → a.clauses ≡ fin.remove b.clauses k → a.joints ≡ fin.remove b.joints k → IsSet b k None a
set_out b a k cs js n =
    ap (λ (m : ClauseMap). pair_of (fin.get m n) (fin.get a.joints n)) cs
    ∙ ap (λ (m : Joints). pair_of (fin.get (fin.remove b.clauses k) n) (fin.get m n)) js
    ∙ (λ i. pair_of (out_at b.clauses k n i) (out_at b.joints k n i))
    ∙ by (n == k)
  where
    by : (t : Bool) → pair_of (cond t None (fin.get b.clauses n)) (cond t None (fin.get b.joints n)) ≡ cond t None (bound_at b n)
    by true = refl
    by false = refl

-- a joint number was put and taken out again, where there was no clause
pub back_at : (cs : ClauseMap) (js : Joints) (k j : ℕ) → fin.get cs k ≡ None → AreAlike cs js → (n : ℕ) → fin.get (fin.remove (fin.insert js k j) k) n ≡ fin.get js n
back_at cs js k j none alike n = out_at (fin.insert js k j) k n ∙ ap (cond (n == k) None) (put_at js k j n) ∙ by (n == k) refl
  where
    no : (o : Option ℕ) → is_some o ≡ false → None ≡ o
    no None is = refl
    no (Some x) is = absurd (false≢true (sym is))

    by : (b : Bool) → (n == k) ≡ b → cond (n == k) None (cond (n == k) (Some j) (fin.get js n)) ≡ fin.get js n
    by true e =
        ap (λ b. cond b None (cond b (Some j) (fin.get js n))) e
        ∙ no (fin.get js n) (ap (λ (m : ℕ). is_some (fin.get js m)) (eqb-true n k e) ∙ sym (alike k) ∙ ap is_some none)
    by false e = ap (λ b. cond b None (cond b (Some j) (fin.get js n))) e

pub alike_back : (cs : ClauseMap) (js : Joints) (k j : ℕ) → fin.get cs k ≡ None → AreAlike cs js → AreAlike cs (fin.remove (fin.insert js k j) k)
alike_back cs js k j none alike n = alike n ∙ sym (ap is_some (back_at cs js k j none alike n))

pub same_back : (b a : BindingsValue) (k j : ℕ) → fin.get b.clauses k ≡ None → AreAlike b.clauses b.joints → a.clauses ≡ b.clauses → a.joints ≡ fin.remove (fin.insert b.joints k j) k → (n : ℕ) → bound_at a n ≡ bound_at b n
same_back b a k j none alike cs js n =
    ap (λ (m : ClauseMap). pair_of (fin.get m n) (fin.get a.joints n)) cs
    ∙ ap (λ (m : Joints). pair_of (fin.get b.clauses n) (fin.get m n)) js
    ∙ ap (pair_of (fin.get b.clauses n)) (back_at b.clauses b.joints k j none alike n)

-- ---- by what was found

-- the same of maps that are those
pub alike_of : (cs ds : ClauseMap) (js ks : Joints) → ds ≡ cs → ks ≡ js → AreAlike cs js → AreAlike ds ks
alike_of cs ds js ks c j alike n = ap (λ (m : ClauseMap). is_some (fin.get m n)) c ∙ alike n ∙ sym (ap (λ (m : Joints). is_some (fin.get m n)) j)

-- where there is a value already, one was put in its place
pub put_again : {A E : Type 0} (js ks : Joints) (k j : ℕ) (r : Result A E) → OnOk r (ks ≡ fin.insert js k j) → OnErr r (fin.get js k ≡ None) → is_some (fin.get js k) ≡ true → ks ≡ fin.insert js k j
put_again js ks k j (Ok x) put absent has = put
put_again js ks k j (Err e) put absent has = absurd (false≢true (ap is_some (sym absent) ∙ has))
