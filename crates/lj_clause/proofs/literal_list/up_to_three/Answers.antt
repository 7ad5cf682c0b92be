use Rattle.std.proofs.Common.{◌≡◌, ℕ, [], ◌∷◌, length, take, subst, arith}
use Rattle.std.specs.Prelude.{ℤ}
use Rattle.std.specs.List.Sorted.{IsStrictlySortedBy}
use Rattle.lj_clause.specs.Literal.{lit_cmp}
use Rattle.lj_clause.proofs.ShortLists.{rising_none, rising_one, rising_two}
use Rattle.lj_clause.proofs.literal_list.up_to_three.Goals as goal

pub returns-in-empty-clause-rising : goal.returns-in-empty-clause-rising
returns-in-empty-clause-rising c =
    let P : ℕ → Type 0 = λ n. IsStrictlySortedBy lit_cmp (take n (c.of.result ∷ c.of.result ∷ c.of.result ∷ [])) in
    let none : 0 ≡ length c.args.lits.now = omega (arith, c.in-empty.len_below) in
    subst P none rising_none

pub returns-in-len1-clause-rising : goal.returns-in-len1-clause-rising
returns-in-len1-clause-rising c =
    let a : ℤ = c.a-item.result in
    let P : ℕ → Type 0 = λ n. IsStrictlySortedBy lit_cmp (take n (a ∷ a ∷ a ∷ [])) in
    let one : 1 ≡ length c.args.lits.now = omega (arith, c.in-len1.len_below, c.in-len1.len_at_least) in
    subst P one (rising_one a)

pub returns-in_ok-first-in-len2-clause-rising : goal.returns-in_ok-first-in-len2-clause-rising
returns-in_ok-first-in-len2-clause-rising c =
    let e = c.in_ok-first-in-len2 in
    let P : ℕ → Type 0 = λ n. IsStrictlySortedBy lit_cmp (take n (e.first ∷ e.last ∷ e.last ∷ [])) in
    let two : 2 ≡ length c.args.lits.now = omega (arith, c.in-len2.len_below, c.in-len2.len_at_least) in
    subst P two (rising_two e.first e.last e.ensures.rising)
