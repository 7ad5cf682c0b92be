-- What a seat's own numbers are bound to, by what it keeps.
use Rattle.std.proofs.Common.{◌≡◌, ap, refl, sym, ◌∙◌, subst, ℕ, zero, suc, ◌+◌, ◌-◌, ◌<◌, ◌≤◌, Bool, cond, true, false, arith}
use Rattle.std.specs.Prelude.{◌==◌, nat_lt, List, [], ◌∷◌, length, replicate, Option, Some, None, is_some, option_map, slice_get, slice_set, Result, Ok, Err, OnErr}
use Rattle.std.specs.FinMap as fin
use Rattle.std.proofs.lemmas.Bool.{eqb-true, eq-eqb, false≢true, lt-ltb, le-ltb, ltb-true, ltb-false}
use Rattle.std.proofs.lemmas.Bool.Decides.{nat_tests}
use Rattle.std.proofs.lemmas.List.{get_or-replicate, length-replicate, length-set}
use Rattle.std.proofs.lemmas.Option.{slice_get-get_or, slice_get_past}
use Rattle.lj_clause.specs.LiteralSet.{LiteralSet}
use Rattle.lj_clause.specs.ClauseMap.{FormulaValue, formula_map}
use Rattle.lj_clause.proofs.Formulas.{clause_at, clause_zero}
use Rattle.lj_hint.specs.declared.pair.Pair.{Pair}
use Rattle.lj_share.specs.inner.Bindings.{BindingsValue, IsSet, bound_at, under_joint}
use Rattle.lj_share.specs.inner.Seats.{OwnValue, own_pair, first_pair, early_pair, IsUpdated, IsJointSet}
use Rattle.lj_share.proofs.Confirming.{is_other}

pub err_then : {T E : Type 0} (r : Result T E) {P Q : Type 0} → OnErr r P → (P → Q) → OnErr r Q
err_then (Ok x) p f = tt
err_then (Err x) p f = f p

-- ---- numbers of the opening, and those behind them

pub early_is : (f : FormulaValue) (o : OwnValue) (n : ℕ) → n < length o.given_up → own_pair f o n ≡ early_pair (bound_at o.rebound n) (slice_get o.given_up n) (first_pair f n)
early_is f o n h =
    ap (λ b. cond b (early_pair (bound_at o.rebound n) (slice_get o.given_up n) (first_pair f n)) (bound_at o.late (n - length o.given_up))) (lt-ltb n (length o.given_up) h)

pub late_is : (f : FormulaValue) (o : OwnValue) (n : ℕ) → length o.given_up ≤ n → own_pair f o n ≡ bound_at o.late (n - length o.given_up)
late_is f o n h =
    ap (λ b. cond b (early_pair (bound_at o.rebound n) (slice_get o.given_up n) (first_pair f n)) (bound_at o.late (n - length o.given_up))) (le-ltb n (length o.given_up) h)

-- ---- one number changes

-- a number behind those of the opening
late_kept : (o p : OwnValue) (own : ℕ) (c : Option Pair) → length o.given_up ≤ own → p.given_up ≡ o.given_up → p.rebound ≡ o.rebound → IsSet o.late (own - length o.given_up) c p.late → IsUpdated o own c p
late_kept o p own c behind gone rebound late f n = by (nat_lt n (length o.given_up)) refl
  where
    many : length p.given_up ≡ length o.given_up
    many = ap length gone

    same : length o.given_up ≤ n → (n - length o.given_up == (own - length o.given_up)) ≡ (n == own)
    same h = grind (arith, nat_tests)

    by : (b : Bool) → nat_lt n (length o.given_up) ≡ b → own_pair f p n ≡ cond (n == own) c (own_pair f o n)
    by true e =
        let less = ltb-true n (length o.given_up) e in
        early_is f p n (omega (arith, less, many))
        ∙ ap (λ (m : BindingsValue). early_pair (bound_at m n) (slice_get p.given_up n) (first_pair f n)) rebound
        ∙ ap (λ (bs : List Bool). early_pair (bound_at o.rebound n) (slice_get bs n) (first_pair f n)) gone
        ∙ sym (ap (λ b. cond b c (own_pair f o n)) (is_other n own (λ is. let no : ⊥ = omega (arith, is, less, behind) in no)) ∙ early_is f o n less)
    by false e =
        let more = ltb-false n (length o.given_up) e in
        late_is f p n (omega (arith, more, many))
        ∙ ap (λ (k : ℕ). bound_at p.late (n - k)) many
        ∙ late (n - length o.given_up)
        ∙ ap (λ b. cond b c (bound_at o.late (n - length o.given_up))) (same more)
        ∙ sym (ap (cond (n == own) c) (late_is f o n more))

-- a number of the opening
early_kept : (f : FormulaValue) (o p : OwnValue) (own : ℕ) (c : Option Pair) → own < length o.given_up → length p.given_up ≡ length o.given_up → p.late ≡ o.late → early_pair (bound_at p.rebound own) (slice_get p.given_up own) (first_pair f own) ≡ c → ((n : ℕ) → (n ≡ own → ⊥) → bound_at p.rebound n ≡ bound_at o.rebound n) → ((n : ℕ) → (n ≡ own → ⊥) → slice_get p.given_up n ≡ slice_get o.given_up n)
    → (n : ℕ) → own_pair f p n ≡ cond (n == own) c (own_pair f o n)
early_kept f o p own c within many late here rebound gone n = by (n == own) refl
  where
    apart : (n ≡ own → ⊥) → (b : Bool) → nat_lt n (length o.given_up) ≡ b → own_pair f p n ≡ own_pair f o n
    apart other true e =
        let less = ltb-true n (length o.given_up) e in
        early_is f p n (omega (arith, less, many))
        ∙ ap (λ (x : Option Pair). early_pair x (slice_get p.given_up n) (first_pair f n)) (rebound n other)
        ∙ ap (λ (x : Option Bool). early_pair (bound_at o.rebound n) x (first_pair f n)) (gone n other)
        ∙ sym (early_is f o n less)
    apart other false e =
        let more = ltb-false n (length o.given_up) e in
        late_is f p n (omega (arith, more, many))
        ∙ ap (λ (k : ℕ). bound_at p.late (n - k)) many
        ∙ ap (λ (m : BindingsValue). bound_at m (n - length o.given_up)) late
        ∙ sym (late_is f o n more)

    by : (b : Bool) → (n == own) ≡ b → own_pair f p n ≡ cond (n == own) c (own_pair f o n)
    by true e =
        ap (own_pair f p) (eqb-true n own e)
        ∙ early_is f p own (omega (arith, within, many))
        ∙ here
        ∙ sym (ap (λ b. cond b c (own_pair f o n)) e)
    by false e =
        let other : n ≡ own → ⊥ = λ is. not_both (eq-eqb n own is) e in
        apart other (nat_lt n (length o.given_up)) refl
        ∙ sym (ap (λ b. cond b c (own_pair f o n)) e)
      where
        not_both : {b : Bool} → b ≡ true → b ≡ false → ⊥
        not_both t f = cc

-- what the number is bound to among the later bindings, where it was set, and elsewhere
set_here : (o p : BindingsValue) (own : ℕ) (c : Option Pair) → IsSet o own c p → bound_at p own ≡ c
set_here o p own c set = set own ∙ ap (λ b. cond b c (bound_at o own)) (eq-eqb own own refl)

set_elsewhere : (o p : BindingsValue) (own : ℕ) (c : Option Pair) → IsSet o own c p → (n : ℕ) → (n ≡ own → ⊥) → bound_at p n ≡ bound_at o n
set_elsewhere o p own c set n other = set n ∙ ap (λ b. cond b c (bound_at o n)) (is_other n own other)

-- ---- what the calls do

-- where a number behind those of the opening was bound or taken out
pub late_set : (o p : OwnValue) (own : ℕ) (c : Option Pair) → length o.given_up ≤ own → p.given_up ≡ o.given_up → p.rebound ≡ o.rebound → IsSet o.late (own - length o.given_up) c p.late → IsUpdated o own c p
late_set o p own c behind gone rebound late = late_kept o p own c behind gone rebound late

pub set_at : {A : Type 0} (xs : List A) (i : ℕ) (x : A) → i < length xs → slice_get (slice_set xs i x) i ≡ Some x
set_at [] i x h = absurd (omega arith)
set_at (y ∷ xs) zero x h = refl
set_at (y ∷ xs) (suc i) x h = set_at xs i x (omega arith)

pub set_apart : {A : Type 0} (xs : List A) (i k : ℕ) (x : A) → (k ≡ i → ⊥) → slice_get (slice_set xs i x) k ≡ slice_get xs k
set_apart [] i k x h = refl
set_apart (y ∷ xs) zero zero x h = absurd (h refl)
set_apart (y ∷ xs) zero (suc k) x h = refl
set_apart (y ∷ xs) (suc i) zero x h = refl
set_apart (y ∷ xs) (suc i) (suc k) x h = set_apart xs i k x (λ e. h (ap suc e))

-- where a number of the opening was bound or taken out
pub early_set : (o p : OwnValue) (own : ℕ) (c : Option Pair) → own < length o.given_up → p.given_up ≡ slice_set o.given_up own true → p.late ≡ o.late → IsSet o.rebound own c p.rebound → IsUpdated o own c p
early_set o p own c within gone late set f =
    early_kept f o p own c within (ap length gone ∙ length-set o.given_up own true) late
    (ap (λ (x : Option Bool). early_pair (bound_at p.rebound own) x (first_pair f own)) (ap (λ (bs : List Bool). slice_get bs own) gone ∙ set_at o.given_up own true within)
    ∙ set_here o.rebound p.rebound own c set)
    (set_elsewhere o.rebound p.rebound own c set)
    (λ n other. ap (λ (bs : List Bool). slice_get bs n) gone ∙ set_apart o.given_up own n true other)

-- ---- where the joint number was set

pub late_joint : (o p : OwnValue) (own j : ℕ) → length o.given_up ≤ own → p.given_up ≡ o.given_up → p.rebound ≡ o.rebound → IsSet o.late (own - length o.given_up) (under_joint j (bound_at o.late (own - length o.given_up))) p.late → IsJointSet o own j p
late_joint o p own j behind gone rebound late f c is n =
    late_kept o p own _ behind gone rebound late f n
    ∙ ap (λ (x : Option Pair). cond (n == own) (under_joint j x) (own_pair f o n)) (sym (late_is f o own behind) ∙ is)

-- no clause of the formula has the number 0
no_zero : (f : FormulaValue) (own : ℕ) (c : LiteralSet) → first_pair f own ≡ Some (record { joint = 0; clause = c }) → ⊥
no_zero f own c is = go (fin.get (formula_map f) own) refl is
  where
    joint_in : Option Pair → ℕ
    joint_in None = 0
    joint_in (Some p) = p.joint

    named : LiteralSet → Pair
    named d = record { joint = own; clause = d }

    go : (x : Option LiteralSet) → fin.get (formula_map f) own ≡ x → option_map named x ≡ Some (record { joint = 0; clause = c }) → ⊥
    go None at e = false≢true (ap is_some e)
    go (Some d) at e =
        let nought : own ≡ 0 = ap joint_in e in
        false≢true (ap is_some (sym (clause_zero f own (omega (arith, nought))) ∙ at))

-- a number of the opening that has the joint number 0 was bound later
bound_later : (f : FormulaValue) (own j : ℕ) (c : LiteralSet) (later : Option Pair) (given : Option Bool) → early_pair later given (first_pair f own) ≡ Some (record { joint = 0; clause = c }) → early_pair (under_joint j later) given (first_pair f own) ≡ Some (record { joint = j; clause = c })
bound_later f own j c later (Some false) is = absurd (no_zero f own c is)
bound_later f own j c later (Some true) is = ap (under_joint j) is
bound_later f own j c later None is = ap (under_joint j) is

pub early_joint : (o p : OwnValue) (own j : ℕ) → own < length o.given_up → p.given_up ≡ o.given_up → p.late ≡ o.late → IsSet o.rebound own (under_joint j (bound_at o.rebound own)) p.rebound → IsJointSet o own j p
early_joint o p own j within gone late set f c is =
    early_kept f o p own (Some (record { joint = j; clause = c })) within (ap length gone) late
    (ap (λ (x : Option Pair). early_pair x (slice_get p.given_up own) (first_pair f own)) (set_here o.rebound p.rebound own _ set)
    ∙ ap (λ (bs : List Bool). early_pair (under_joint j (bound_at o.rebound own)) (slice_get bs own) (first_pair f own)) gone
    ∙ bound_later f own j c (bound_at o.rebound own) (slice_get o.given_up own) (sym (early_is f o own within) ∙ is))
    (set_elsewhere o.rebound p.rebound own _ set)
    (λ n other. ap (λ (bs : List Bool). slice_get bs n) gone)

-- ---- where nothing changed

pub late_same : (o p : OwnValue) → p.given_up ≡ o.given_up → p.rebound ≡ o.rebound → ((k : ℕ) → bound_at p.late k ≡ bound_at o.late k) → (f : FormulaValue) (n : ℕ) → own_pair f p n ≡ own_pair f o n
late_same o p gone rebound late f n =
    ap (λ (m : List Bool). cond (nat_lt n (length m)) (early_pair (bound_at p.rebound n) (slice_get m n) (first_pair f n)) (bound_at p.late (n - length m))) gone
    ∙ ap (λ (m : BindingsValue). cond (nat_lt n (length o.given_up)) (early_pair (bound_at m n) (slice_get o.given_up n) (first_pair f n)) (bound_at p.late (n - length o.given_up))) rebound
    ∙ ap (cond (nat_lt n (length o.given_up)) (early_pair (bound_at o.rebound n) (slice_get o.given_up n) (first_pair f n))) (late (n - length o.given_up))

pub early_same : (o p : OwnValue) → p.given_up ≡ o.given_up → p.late ≡ o.late → ((k : ℕ) → bound_at p.rebound k ≡ bound_at o.rebound k) → (f : FormulaValue) (n : ℕ) → own_pair f p n ≡ own_pair f o n
early_same o p gone late rebound f n =
    ap (λ (m : List Bool). cond (nat_lt n (length m)) (early_pair (bound_at p.rebound n) (slice_get m n) (first_pair f n)) (bound_at p.late (n - length m))) gone
    ∙ ap (λ (m : BindingsValue). cond (nat_lt n (length o.given_up)) (early_pair (bound_at p.rebound n) (slice_get o.given_up n) (first_pair f n)) (bound_at m (n - length o.given_up))) late
    ∙ ap (λ (x : Option Pair). cond (nat_lt n (length o.given_up)) (early_pair x (slice_get o.given_up n) (first_pair f n)) (bound_at o.late (n - length o.given_up))) (rebound n)

-- ---- what is read

-- one that is bound since the opening
read_first : (f : FormulaValue) (o : OwnValue) (n : ℕ) → n < length o.given_up → slice_get o.given_up n ≡ Some false → first_pair f n ≡ own_pair f o n
read_first f o n within gone =
    sym (early_is f o n within ∙ ap (λ (x : Option Bool). early_pair (bound_at o.rebound n) x (first_pair f n)) gone)

-- at the opening
pub new_clauses : (f : FormulaValue) (o : OwnValue) → o.given_up ≡ replicate (length f.clauses + 1) false → ((n : ℕ) → bound_at o.late n ≡ None) → (n : ℕ) → own_pair f o n ≡ first_pair f n
new_clauses f o gone late n = by (nat_lt n (length o.given_up)) refl
  where
    many : length o.given_up ≡ length f.clauses + 1
    many = ap length gone ∙ length-replicate (length f.clauses + 1) false

    beyond : (k : ℕ) → length f.clauses < k → fin.get (formula_map f) k ≡ None
    beyond zero h = absurd (omega arith)
    beyond (suc k) h = clause_at f (suc k) k (omega arith) ∙ slice_get_past f.clauses k (omega arith)

    by : (b : Bool) → nat_lt n (length o.given_up) ≡ b → own_pair f o n ≡ first_pair f n
    by true e =
        let less = ltb-true n (length o.given_up) e in
        let first : slice_get o.given_up n ≡ Some false = ap (λ (bs : List Bool). slice_get bs n) gone ∙ slice_get-get_or (replicate (length f.clauses + 1) false) n true (subst (λ bs. n < length bs) gone less) ∙ ap Some (get_or-replicate (length f.clauses + 1) n false true (omega (arith, less, many))) in
        sym (read_first f o n less first)
    by false e =
        let more = ltb-false n (length o.given_up) e in
        late_is f o n more
        ∙ late (n - length o.given_up)
        ∙ sym (ap (option_map (λ (c : LiteralSet). record { joint = n; clause = c })) (beyond n (omega (arith, more, many))))
