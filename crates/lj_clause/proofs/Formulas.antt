-- The clauses of a formula by their numbers.
use Rattle.std.proofs.Common.{◌≡◌, ap, refl, ◌∙◌, ℕ, suc, zero, ◌+◌, ◌<◌, ◌≢◌, arith}
use Rattle.std.proofs.lemmas.Bool.Decides.{nat_tests}
use Rattle.std.specs.Prelude.{List, [], ◌∷◌, Some, None, cond, true, false, ◌==◌, slice_get}
use Rattle.std.specs.Ordering.{nat_cmp}
use Rattle.std.specs.Cmp.{nat_cmp_total, unsigned_tied}
use Rattle.std.specs.FinMap as map
use Rattle.std.specs.FinMap.Entries.{find}
use Rattle.lj_clause.specs.LiteralSet.{LiteralSet}
use Rattle.lj_clause.specs.ClauseMap.{FormulaValue, formula_map, numbered_from}

differs : (q n : ℕ) → q ≢ n → (q == n) ≡ false
differs q n h = grind (arith, nat_tests)

is_same : (q n : ℕ) → q ≡ n → (q == n) ≡ true
is_same q n h = grind (arith, nat_tests)

none_below : (n q : ℕ) (cs : List LiteralSet) → q < n → find nat_cmp q (numbered_from n cs) ≡ None
none_below n q [] h = refl
none_below n q (c ∷ cs) h = ap (λ b. cond b (Some c) (find nat_cmp q (numbered_from (n + 1) cs))) (unsigned_tied q n ∙ differs q n (λ e. omega arith)) ∙ none_below (n + 1) q cs (omega arith)

at_place : (n q i : ℕ) (cs : List LiteralSet) → q ≡ n + i → find nat_cmp q (numbered_from n cs) ≡ slice_get cs i
at_place n q i [] h = refl
at_place n q zero (c ∷ cs) h = ap (λ b. cond b (Some c) (find nat_cmp q (numbered_from (n + 1) cs))) (unsigned_tied q n ∙ is_same q n (omega arith))
at_place n q (suc i) (c ∷ cs) h = ap (λ b. cond b (Some c) (find nat_cmp q (numbered_from (n + 1) cs))) (unsigned_tied q n ∙ differs q n (λ e. omega arith)) ∙ at_place (n + 1) q i cs (omega arith)

pub clause_zero : (f : FormulaValue) (q : ℕ) → q < 1 → map.get (formula_map f) q ≡ None
clause_zero f q h = map.get-from_entries nat_cmp_total (numbered_from 1 f.clauses) q ∙ none_below 1 q f.clauses h

pub clause_at : (f : FormulaValue) (q i : ℕ) → q ≡ 1 + i → map.get (formula_map f) q ≡ slice_get f.clauses i
clause_at f q i h = map.get-from_entries nat_cmp_total (numbered_from 1 f.clauses) q ∙ at_place 1 q i f.clauses h
