-- Which literals stand in a list.
use Rattle.std.proofs.Common.{◌≡◌, ap, sym, ◌∙◌, inl, inr}
use Rattle.std.specs.Prelude.{ℤ, Bool, true, false, cond, List, [], ◌∷◌}
use Rattle.std.specs.List.{list_any, filter}
use Rattle.std.specs.Ordering.{eq_by_cmp, is_eq}
use Rattle.std.specs.Cmp.{tied_itself}
use Rattle.std.proofs.lemmas.Bool.{false≢true, or_cases, or_left, or_right}
use Rattle.lj_clause.specs.Literal.{lit_cmp}
use Rattle.lj_clause.specs.inner.Literal.{lit_cmp_total}
use Rattle.lj_clause.proofs.Literals.{same_literal}

-- whether the literal stands in the list
abbrev pub among : ℤ → List ℤ → Bool
among q ls = list_any (eq_by_cmp lit_cmp q) ls

pub itself : (q : ℤ) → eq_by_cmp lit_cmp q q ≡ true
itself q = ap is_eq (tied_itself lit_cmp_total q)

-- one that stands there and passes settles the answer
pub any_at : (test : ℤ → Bool) (q : ℤ) (ls : List ℤ) → among q ls ≡ true → test q ≡ true → list_any test ls ≡ true
any_at test q [] m t = m
any_at test q (l ∷ ls) m t =
    elim (or_cases (eq_by_cmp lit_cmp q l) (among q ls) m) [
      | inl e ↦ or_left (test l) (list_any test ls) (ap test (sym (same_literal q l e)) ∙ t)
      | inr e ↦ or_right (test l) (list_any test ls) (any_at test q ls e t)
    ]

-- the way back
pub any_found : (test : ℤ → Bool) (ls : List ℤ) → list_any test ls ≡ true → (q : ℤ) × (among q ls ≡ true) × (test q ≡ true)
any_found test [] h = absurd (false≢true h)
any_found test (l ∷ ls) h =
    elim (or_cases (test l) (list_any test ls) h) [
      | inl e ↦ (l, or_left (eq_by_cmp lit_cmp l l) (among l ls) (itself l), e)
      | inr e ↦ let found = any_found test ls e in (found.0, or_right (eq_by_cmp lit_cmp found.0 l) (among found.0 ls) found.1, found.2)
    ]

-- a filter keeps what passes, and nothing else
pub kept : (test : ℤ → Bool) (q : ℤ) (ls : List ℤ) → among q ls ≡ true → test q ≡ true → among q (filter test ls) ≡ true
kept test q [] m t = m
kept test q (l ∷ ls) m t =
    elim (or_cases (eq_by_cmp lit_cmp q l) (among q ls) m) [
      | inl e ↦ ap (λ b. among q (cond b (l ∷ filter test ls) (filter test ls))) (ap test (sym (same_literal q l e)) ∙ t) ∙ or_left (eq_by_cmp lit_cmp q l) (among q (filter test ls)) e
      | inr e ↦ elim (test l) as (λ b. among q (cond b (l ∷ filter test ls) (filter test ls)) ≡ true) [
        | true ↦ or_right (eq_by_cmp lit_cmp q l) (among q (filter test ls)) (kept test q ls e t)
        | false ↦ kept test q ls e t
      ]
    ]

pub passed : (test : ℤ → Bool) (q : ℤ) (ls : List ℤ) → among q (filter test ls) ≡ true → (among q ls ≡ true) × (test q ≡ true)
passed test q [] m = absurd (false≢true m)
passed test q (l ∷ ls) m =
    elim (test l) as (λ b. test l ≡ b → among q (cond b (l ∷ filter test ls) (filter test ls)) ≡ true → (among q (l ∷ ls) ≡ true) × (test q ≡ true)) [
      | true ↦ λ t n. elim (or_cases (eq_by_cmp lit_cmp q l) (among q (filter test ls)) n) [
        | inl e ↦ (or_left (eq_by_cmp lit_cmp q l) (among q ls) e, ap test (same_literal q l e) ∙ t)
        | inr e ↦ let parts = passed test q ls e in (or_right (eq_by_cmp lit_cmp q l) (among q ls) parts.0, parts.1)
      ]
      | false ↦ λ t n. let parts = passed test q ls n in (or_right (eq_by_cmp lit_cmp q l) (among q ls) parts.0, parts.1)
    ] (λ i. test l) m
