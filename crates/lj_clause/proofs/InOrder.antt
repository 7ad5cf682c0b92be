-- Few literals in order, and fillers behind them.
use Rattle.std.proofs.Common.{◌⊎◌, inl, inr, ◌≡◌, ℕ, ◌+◌, ◌-◌, ◌<◌, ◌≤◌, Bool, true, false, cond, ◌||◌, List, [], ◌∷◌, ◌++◌, length, get_or, take, drop, ap, refl, sym, ◌∙◌, subst, arith}
use Rattle.std.specs.Borrow.{Bor}
use Rattle.std.specs.Option.{option_copied}
use Rattle.std.specs.Array.{IsFirstChunk}
use Rattle.std.specs.Prelude.{ℤ, Option, Some, None, MatchOption, IfSome, IsPermutation, replicate, nat_lt}
use Rattle.std.specs.List.{list_any, sum_by}
use Rattle.std.specs.Ordering.{eq_by_cmp}
use Rattle.std.specs.declared.cmp.Ordering.TheVariants.{Less}
use Rattle.std.proofs.lemmas.Bool.{cases_lt}
use Rattle.std.proofs.lemmas.Bool.Decides.{nat_tests}
use Rattle.std.proofs.lemmas.List.{take-append-drop, get_or-take, get_or-drop, get_or-replicate, ext_get_or, length-take, length-drop, length-replicate, length-append, take-replicate, get_or_default}
use Rattle.std.proofs.Math.Seq.{take-append-add}
use Rattle.std.proofs.lemmas.Map.Keys.{sorted_from_all_adjacent}
use Rattle.std.proofs.lemmas.List.Sums.{sum_by-append, sum_by-cons}
use Rattle.std.proofs.lemmas.List.Sorted.{length_permutation, sum_by-IsPermutation}
use Rattle.lj_clause.specs.Literal.{lit_cmp}
use Rattle.lj_clause.specs.inner.Literal.{lit_cmp_total}
use Rattle.lj_clause.specs.LiteralSet.{from_literals}
use Rattle.lj_clause.specs.inner.InOrder.{filler, IsFilledUp, IsInOrder}
use Rattle.lj_clause.proofs.LiteralSets.{from_literals-same}

-- how often a literal stands in a list
abbrev times : ℤ → List ℤ → ℕ
times q ls = sum_by (λ l. cond (eq_by_cmp lit_cmp q l) 1 0) ls

some-or : (b : Bool) (n : ℕ) → nat_lt 0 (cond b 1 0 + n) ≡ (b || nat_lt 0 n)
some-or true n = grind (arith, nat_tests)
some-or false n = ap (λ m. nat_lt 0 m) (omega arith)

any-times : (q : ℤ) (ls : List ℤ) → list_any (eq_by_cmp lit_cmp q) ls ≡ nat_lt 0 (times q ls)
any-times q [] = refl
any-times q (l ∷ ls) =
    ap (λ b. eq_by_cmp lit_cmp q l || b) (any-times q ls)
    ∙ sym (some-or (eq_by_cmp lit_cmp q l) (times q ls))
    ∙ ap (λ n. nat_lt 0 n) (sym (sum_by-cons (λ l. cond (eq_by_cmp lit_cmp q l) 1 0) l ls))

-- what stands before the same fillers is the same set
pub front-set : (lits scratch moved : List ℤ) → IsFilledUp lits scratch → IsPermutation scratch moved → IsInOrder (length lits) moved → from_literals (take (length lits) moved) ≡ from_literals lits
front-set lits scratch moved filled same order =
    let front : List ℤ = take (length lits) moved in
    let fillers : List ℤ = replicate (length scratch - length lits) filler in
    let long : length moved ≡ length scratch = length_permutation scratch moved same in
    let parts : moved ≡ front ++ fillers =
    sym (take-append-drop (length lits) moved) ∙ ap (λ xs. front ++ xs) (order.1 ∙ ap (λ n. replicate (n - length lits) filler) long) in
    from_literals-same front lits (λ q.
    let f : ℤ → ℕ = λ l. cond (eq_by_cmp lit_cmp q l) 1 0 in
    let counted : times q front + times q fillers ≡ times q lits + times q fillers =
    sym (sum_by-append f front fillers) ∙ ap (sum_by f) (sym parts) ∙ sum_by-IsPermutation f scratch moved same ∙ ap (sum_by f) filled ∙ sum_by-append f lits fillers in
    any-times q front ∙ ap (λ n. nat_lt 0 n) (omega (arith, counted)) ∙ sym (any-times q lits))

-- The literals up to a place: those before the count are in order, the others fillers.
pub record InOrderTo (position count : ℕ) (scratch : List ℤ) : Type 0 where
  pub rises : (k : ℕ) → k + 1 < position → k + 1 < count → lit_cmp (get_or scratch k filler) (get_or scratch (k + 1) filler) ≡ Less
  pub fills : (k : ℕ) → k < position → count ≤ k → get_or scratch k filler ≡ filler

pub none-yet : (count : ℕ) (scratch : List ℤ) → InOrderTo 0 count scratch
none-yet count scratch = record { rises = λ k lt. absurd (omega arith); fills = λ k lt. absurd (omega arith) }

pub one-more : (position count : ℕ) (scratch : List ℤ) → (position < count → 0 < position → lit_cmp (get_or scratch (position - 1) filler) (get_or scratch position filler) ≡ Less) → (count ≤ position → get_or scratch position filler ≡ filler)
    → InOrderTo position count scratch → InOrderTo (position + 1) count scratch
one-more position count scratch rise fill h = record {
  rises = λ k lt inline. rises k lt inline (cases_lt (k + 1) position);
  fills = λ k lt le. fills k lt le (cases_lt k position);
}
  where
    rises : (k : ℕ) → k + 1 < position + 1 → k + 1 < count → (k + 1 < position) ⊎ (position ≤ k + 1) → lit_cmp (get_or scratch k filler) (get_or scratch (k + 1) filler) ≡ Less
    rises k lt inline (inl less) = h.rises k less inline
    rises k lt inline (inr le) =
        let P : ℕ → Type 0 = λ i. lit_cmp (get_or scratch (i - 1) filler) (get_or scratch i filler) ≡ Less in
        let is : position ≡ k + 1 = omega (arith, lt, le) in
        let Q : ℕ → Type 0 = λ i. lit_cmp (get_or scratch i filler) (get_or scratch (k + 1) filler) ≡ Less in
        let before : (k + 1) - 1 ≡ k = omega arith in
        subst Q before (subst P is (rise (omega (arith, is, inline)) (omega (arith, is))))

    fills : (k : ℕ) → k < position + 1 → count ≤ k → (k < position) ⊎ (position ≤ k) → get_or scratch k filler ≡ filler
    fills k lt le (inl less) = h.fills k less le
    fills k lt le (inr at) =
        let P : ℕ → Type 0 = λ i. get_or scratch i filler ≡ filler in
        let is : position ≡ k = omega (arith, lt, at) in
        subst P is (fill (omega (arith, is, le)))

pub in-order : (count : ℕ) (scratch : List ℤ) → InOrderTo (length scratch) count scratch → IsInOrder count scratch
in-order count scratch h = (
  sorted_from_all_adjacent lit_cmp_total (take count scratch) filler (λ k lt.
      let more : k + 1 < count × (k + 1 < length scratch) = (omega (arith, length-take count scratch), omega (arith, length-take count scratch)) in
      ap (λ l. lit_cmp l (get_or (take count scratch) (k + 1) filler)) (get_or-take count scratch k filler (omega (arith, more.0)))
      ∙ ap (λ l. lit_cmp (get_or scratch k filler) l) (get_or-take count scratch (k + 1) filler more.0)
      ∙ h.rises k more.1 more.0),
  ext_get_or filler (drop count scratch) (replicate (length scratch - count) filler) (length-drop count scratch ∙ sym (length-replicate (length scratch - count) filler)) (λ i lt.
      get_or-drop count scratch i filler ∙ h.fills (count + i) (omega (arith, lt, length-drop count scratch)) (omega arith)
      ∙ sym (get_or-replicate (length scratch - count) i filler filler (omega (arith, lt, length-drop count scratch)))),
)

-- a list and fillers behind it, up to so many
pub filled-front : (lits all scratch : List ℤ) (n : ℕ) → length lits ≤ n → all ≡ lits ++ replicate n filler → scratch ≡ take n all → IsFilledUp lits scratch
filled-front lits all scratch n inline is cut =
    let k : ℕ = n - length lits in
    let fillers : List ℤ = replicate n filler in
    let sum : length lits + k ≡ n = omega (arith, inline) in
    let shape : scratch ≡ lits ++ replicate k filler =
    cut ∙ ap (take n) is ∙ ap (λ m. take m (lits ++ fillers)) (sym sum) ∙ take-append-add lits fillers k ∙ ap (λ t. lits ++ t) (take-replicate k n filler (omega arith)) in
    let long : length scratch ≡ n = omega (arith, ap length shape, length-append lits (replicate k filler), length-replicate k filler, sum) in
    shape ∙ ap (λ m. lits ++ replicate (m - length lits) filler) (sym long)

pub below-at : (scratch : List ℤ) (i : ℕ) (a b : ℤ) → 0 < i → i < length scratch → a ≡ get_or scratch (i - 1) a → b ≡ get_or scratch i b → lit_cmp a b ≡ Less → lit_cmp (get_or scratch (i - 1) filler) (get_or scratch i filler) ≡ Less
below-at scratch i a b some lt at-a at-b less =
    ap (λ l. lit_cmp l (get_or scratch i filler)) (get_or_default scratch (i - 1) filler a (omega (arith, lt, some)) ∙ sym at-a)
    ∙ ap (λ l. lit_cmp a l) (get_or_default scratch i filler b lt ∙ sym at-b)
    ∙ less

pub filler-at : (scratch : List ℤ) (i : ℕ) (a : ℤ) → i < length scratch → a ≡ get_or scratch i a → a ≡ filler → get_or scratch i filler ≡ filler
filler-at scratch i a lt at is = get_or_default scratch i filler a lt ∙ sym at ∙ is

pub copied-front : (lits all : List ℤ) (n : ℕ) (chunk : Option (Bor (List ℤ))) (scratch : Option (List ℤ)) → length lits ≤ n → all ≡ lits ++ replicate n filler → scratch ≡ option_copied chunk
    → MatchOption chunk (length all < n) (λ y. IsFirstChunk all y.now n) → IfSome scratch (λ scratch. IsFilledUp lits scratch)
copied-front lits all n None scratch inline is copied cut = subst (λ r. IfSome r (λ scratch. IsFilledUp lits scratch)) (sym copied) tt
copied-front lits all n (Some y) scratch inline is copied cut = subst (λ r. IfSome r (λ scratch. IsFilledUp lits scratch)) (sym copied) (filled-front lits all y.now n inline is cut.same)
