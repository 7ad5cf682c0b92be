-- Maps of clauses as far as a loop has come.
use Rattle.std.proofs.Common.{◌≡◌, ap, refl, sym, ◌∙◌, ℕ, zero, suc, ◌+◌, ◌<◌, ◌≤◌, Bool, cond, true, false, arith, take, get_or}
use Rattle.std.specs.Prelude.{List, length, Option, Some, None, ◌==◌, ◌||◌, ◌&&◌, nat_lt, nat_le}
use Rattle.std.proofs.lemmas.Bool.Decides.{nat_tests}
use Rattle.std.proofs.lemmas.List.{take_more, take_all}
use Rattle.std.specs.Ordering.{nat_cmp}
use Rattle.std.specs.Cmp.{nat_cmp_total, unsigned_tied}
use Rattle.std.specs.FinMap as fin
use Rattle.std.proofs.lemmas.Bool.{eqb-true}
use Rattle.lj_clause.specs.LiteralSet.{LiteralSet}
use Rattle.lj_clause.specs.ClauseMap.{ClauseMap, FormulaValue, formula_map}
use Rattle.lj_clause.proofs.Formulas.{clause_zero}
use Rattle.lj_text.specs.Steps.{without}
use Rattle.lj_book.specs.Tables.{is_among}
use Rattle.lj_book.proofs.NumberMaps.{same_map}
use Rattle.lj_book.proofs.TableLaws.{among_push}
use Rattle.lj_book.proofs.HistoryLaws.{remove-get, get-without, past_the_end}

-- ---- clauses taken out

either : {X : Type 0} (a b : Bool) (o : Option X) → cond b None (cond a None o) ≡ cond (a || b) None o
either true true o = refl
either true false o = refl
either false b o = refl

pub taken-more : (p m n : ClauseMap) (ns : List ℕ) (i d : ℕ) → i < length ns → ((q : ℕ) → fin.get m q ≡ cond (is_among (take i ns) q) None (fin.get p q)) → n ≡ fin.remove m (get_or ns i d) → (q : ℕ) → fin.get n q ≡ cond (is_among (take (i + 1) ns) q) None (fin.get p q)
taken-more p m n ns i d lt before is q =
    ap (λ (k : ClauseMap). fin.get k q) is
    ∙ remove-get m (get_or ns i d) q
    ∙ ap (cond (get_or ns i d == q) None) (before q)
    ∙ either (is_among (take i ns) q) (get_or ns i d == q) (fin.get p q)
    ∙ ap (λ b. cond b None (fin.get p q)) (sym (ap (λ ms. is_among ms q) (take_more ns i d lt) ∙ among_push (take i ns) (get_or ns i d) q))

pub taken-all : (p m : ClauseMap) (ns : List ℕ) (i : ℕ) → length ns ≤ i → ((q : ℕ) → fin.get m q ≡ cond (is_among (take i ns) q) None (fin.get p q)) → m ≡ without p ns
taken-all p m ns i past before = same_map _ _ (λ q.
    before q ∙ ap (λ ms. cond (is_among ms q) None (fin.get p q)) (take_all i ns past) ∙ sym (get-without p ns q))

-- ---- the clauses of a formula

pub copied-none : (f : FormulaValue) (m : ClauseMap) → m ≡ fin.empty → (q : ℕ) → fin.get m q ≡ cond (nat_le q 0) (fin.get (formula_map f) q) None
copied-none f m is zero = ap (λ (k : ClauseMap). fin.get k 0) is ∙ fin.get-empty nat_cmp 0 ∙ sym (clause_zero f 0 (omega arith))
copied-none f m is (suc q) =
    ap (λ (k : ClauseMap). fin.get k (suc q)) is
    ∙ fin.get-empty nat_cmp (suc q)
    ∙ sym (ap (λ b. cond b (fin.get (formula_map f) (suc q)) None) (none_below q))
  where
    none_below : (q : ℕ) → nat_le (suc q) 0 ≡ false
    none_below q = grind (arith, nat_tests)

one_later : (q k : ℕ) → (q == k + 1) ≡ false → nat_le q (k + 1) ≡ nat_le q k
one_later q k h = grind (arith, nat_tests)

at_last : (q k : ℕ) → (q == k + 1) ≡ true → nat_le q (k + 1) ≡ true
at_last q k h = grind (arith, nat_tests)

pub copied-more : (f : FormulaValue) (m n : ClauseMap) (k : ℕ) (c : LiteralSet) → ((q : ℕ) → fin.get m q ≡ cond (nat_le q k) (fin.get (formula_map f) q) None) → fin.get (formula_map f) (k + 1) ≡ Some c → n ≡ fin.insert m (k + 1) c → (q : ℕ) → fin.get n q ≡ cond (nat_le q (k + 1)) (fin.get (formula_map f) q) None
copied-more f m n k c before some is q =
    ap (λ (p : ClauseMap). fin.get p q) is
    ∙ fin.get-insert nat_cmp_total m (k + 1) c q
    ∙ ap (λ b. cond b (Some c) (fin.get m q)) (unsigned_tied q (k + 1))
    ∙ elim (q == k + 1) as (λ b. (q == k + 1) ≡ b → cond b (Some c) (fin.get m q) ≡ cond (nat_le q (k + 1)) (fin.get (formula_map f) q) None) [
      | true ↦ λ e. sym (ap (λ b. cond b (fin.get (formula_map f) q) None) (at_last q k e) ∙ ap (fin.get (formula_map f)) (eqb-true q (k + 1) e) ∙ some)
      | false ↦ λ e. before q ∙ ap (λ b. cond b (fin.get (formula_map f) q) None) (sym (one_later q k e))
    ] refl

pub copied-missing : (f : FormulaValue) (m : ClauseMap) (k : ℕ) → ((q : ℕ) → fin.get m q ≡ cond (nat_le q k) (fin.get (formula_map f) q) None) → fin.get (formula_map f) (k + 1) ≡ None → (q : ℕ) → fin.get m q ≡ cond (nat_le q (k + 1)) (fin.get (formula_map f) q) None
copied-missing f m k before none q =
    elim (q == k + 1) as (λ b. (q == k + 1) ≡ b → fin.get m q ≡ cond (nat_le q (k + 1)) (fin.get (formula_map f) q) None) [
      | true ↦ λ e. before q ∙ nothing (nat_le q k) (fin.get (formula_map f) q) (ap (fin.get (formula_map f)) (eqb-true q (k + 1) e) ∙ none) ∙ sym (nothing (nat_le q (k + 1)) (fin.get (formula_map f) q) (ap (fin.get (formula_map f)) (eqb-true q (k + 1) e) ∙ none))
      | false ↦ λ e. before q ∙ ap (λ b. cond b (fin.get (formula_map f) q) None) (sym (one_later q k e))
    ] refl
  where
    nothing : {X : Type 0} (b : Bool) (o : Option X) → o ≡ None → cond b o None ≡ None
    nothing true o e = e
    nothing false o e = refl

pub copied-all : (f : FormulaValue) (m : ClauseMap) (k : ℕ) → length f.clauses ≤ k → ((q : ℕ) → fin.get m q ≡ cond (nat_le q k) (fin.get (formula_map f) q) None) → m ≡ formula_map f
copied-all f m k past before = same_map _ _ (λ q.
    before q
    ∙ elim (nat_le q k) as (λ b. nat_le q k ≡ b → cond b (fin.get (formula_map f) q) None ≡ fin.get (formula_map f) q) [
      | true ↦ λ e. refl
      | false ↦ λ e. sym (past_the_end f q (beyond q k (length f.clauses) past e))
    ] refl)
  where
    beyond : (q k n : ℕ) → n ≤ k → nat_le q k ≡ false → (nat_lt 0 q && nat_le q n) ≡ false
    beyond q k n le h = grind (arith, nat_tests)
