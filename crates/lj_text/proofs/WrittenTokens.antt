-- The words of a step, one after the other.
use Rattle.std.proofs.Common.{◌≡◌, ℕ, suc, ◌+◌, ◌<◌, List, [], ◌∷◌, ◌++◌, map, length, take, drop, get_or, refl, sym, ap, ◌∙◌, subst, append_assoc, append-nil, add-one, arith}
use Rattle.std.specs.Prelude.{ℤ, Option, None, Some, false, cond, not, filter, flat_map, codes}
use Rattle.std.specs.FinMap as fin
use Rattle.std.specs.Fmt.{decimal, signed_decimal}
use Rattle.std.specs.List.{join_with_byte}
use Rattle.std.specs.Ordering.{eq_by_cmp}
use Rattle.std.proofs.Math.Seq.{drop-cons, take-suc}
use Rattle.std.proofs.lemmas.Grind.{flat_map-append}
use Rattle.std.proofs.lemmas.List.{take-append-drop, map-append}
use Rattle.std.proofs.lemmas.List.Elements.{filter-append}
use Rattle.lj_clause.specs.Literal.{lit_cmp}
use Rattle.lj_clause.specs.LiteralSet.{LiteralSet, literals, no_literals}
use Rattle.lj_clause.specs.Lemma.{LemmaValue, IsLemma}
use Rattle.lj_clause.specs.Rat.{HintGroup}
use Rattle.lj_text.specs.declared.line.Addition.{Addition}
use Rattle.lj_text.specs.declared.step.Step.{Step}
use Rattle.lj_text.specs.StepText.{line_text, pivot_first, written_literals, group_tokens, addition_tokens, addition_text, deletion_text, step_text, greatest_with, text_after}
use Rattle.lj_text.specs.inner.StepText.{greatest_number}
use Rattle.lj_text.specs.Writing.{spaced_token}
use Rattle.lj_text.specs.inner.Writing.{Wrote, Broke, spaced_tokens}
use Rattle.lj_text.proofs.WritingLemmas.{broke_then, broke_more}

pub spaced_tokens-append : (xs ys : List (List ℕ)) → spaced_tokens (xs ++ ys) ≡ spaced_tokens xs ++ spaced_tokens ys
spaced_tokens-append xs ys = flat_map-append spaced_token xs ys

-- the text of a list is those of its parts in a row
abbrev JoinsTexts : {X : Type 0} → (List X → List ℕ) → Type 0
JoinsTexts {X} T = (xs ys : List X) → T (xs ++ ys) ≡ T xs ++ T ys

-- the sink failed at an item with this text, behind these
pub broke_behind : {X : Type 0} (T : List X → List ℕ) → JoinsTexts T → (whole before : List X) (x : X) (after : List X) (text : List ℕ) → whole ≡ before ++ x ∷ after → T (x ∷ []) ≡ text
    → (t0 h0 t1 h1 t2 : List ℕ) → Wrote t0 h0 t1 h1 (T before) → Broke t1 h1 t2 text → Broke t0 h0 t2 (T whole)
broke_behind T joins whole before x after text e f t0 h0 t1 h1 t2 w b =
    let parts : T before ++ (text ++ T after) ≡ T whole = ap (λ t. T before ++ (t ++ T after)) (sym f) ∙ ap (λ t. T before ++ t) (sym (joins (x ∷ []) after)) ∙ sym (joins before (x ∷ after)) ∙ ap T (sym e) in
    subst (Broke t0 h0 t2) parts (broke_then t0 h0 t1 h1 t2 (T before) (text ++ T after) w (broke_more t1 h1 t2 text (T after) b))

-- an item between those before it and those behind it
pub item_between : {X : Type 0} (xs : List X) (i : ℕ) (x : X) → i < length xs → x ≡ get_or xs i x → xs ≡ take i xs ++ x ∷ drop (suc i) xs
item_between xs i x lt e = sym (ap (λ y. take i xs ++ y ∷ drop (suc i) xs) e ∙ ap (λ t. take i xs ++ t) (sym (drop-cons xs i x lt)) ∙ take-append-drop i xs)

abbrev pub numbers_text : List ℕ → List ℕ
numbers_text ns = spaced_tokens (map decimal ns)

pub numbers_text-append : JoinsTexts numbers_text
numbers_text-append ns ms = ap spaced_tokens (map-append decimal ns ms) ∙ spaced_tokens-append (map decimal ns) (map decimal ms)

abbrev pub others_text : ℤ → List ℤ → List ℕ
others_text pivot ls = spaced_tokens (map signed_decimal (filter (λ l. not (eq_by_cmp lit_cmp l pivot)) ls))

pub others_text-other : (pivot l : ℤ) → eq_by_cmp lit_cmp l pivot ≡ false → others_text pivot (l ∷ []) ≡ spaced_token (signed_decimal l)
others_text-other pivot l e = ap (λ b. spaced_tokens (map signed_decimal (cond (not b) (l ∷ []) []))) e ∙ append-nil (spaced_token (signed_decimal l))

pub others_text-append : (pivot : ℤ) → JoinsTexts (others_text pivot)
others_text-append pivot ls ms =
    ap (λ t. spaced_tokens (map signed_decimal t)) (filter-append (λ l. not (eq_by_cmp lit_cmp l pivot)) ls ms)
    ∙ ap spaced_tokens (map-append signed_decimal (filter (λ l. not (eq_by_cmp lit_cmp l pivot)) ls) (filter (λ l. not (eq_by_cmp lit_cmp l pivot)) ms))
    ∙ spaced_tokens-append _ _

abbrev pub groups_text : List HintGroup → List ℕ
groups_text gs = spaced_tokens (flat_map group_tokens gs)

pub groups_text-append : JoinsTexts groups_text
groups_text-append gs hs = ap spaced_tokens (flat_map-append group_tokens gs hs) ∙ spaced_tokens-append (flat_map group_tokens gs) (flat_map group_tokens hs)

-- the literals of a lemma with a pivot
pub literals_some : (lemma : LemmaValue) (pivot : ℤ) (c : LiteralSet) (ls : List ℤ) → Some pivot ≡ lemma.pivot → c ≡ lemma.clause → ls ≡ literals c
    → spaced_token (signed_decimal pivot) ++ others_text pivot ls ≡ spaced_tokens (map signed_decimal (written_literals lemma))
literals_some lemma pivot c ls e f h =
    ap (λ t. spaced_token (signed_decimal pivot) ++ others_text pivot t) (h ∙ ap literals f)
    ∙ ap (λ p. spaced_tokens (map signed_decimal (pivot_first p (literals lemma.clause)))) e

no_item : {X : Type 0} (xs : List X) → length xs ≡ 0 → xs ≡ []
no_item [] e = refl
no_item (x ∷ xs) e = absurd (omega arith)

pub no_literal : literals no_literals ≡ []
no_literal = ap (λ es. map (λ (e : ℤ × Unit {0}). e.0) es) (no_item (fin.entries no_literals) (sym (fin.len-entries no_literals) ∙ fin.len-empty lit_cmp (Unit {0})))

no_pivot : (o : Option ℤ) (c : LiteralSet) → None ≡ o → IsLemma (record { clause = c; pivot = o }) → c ≡ no_literals
no_pivot None c e h = h
no_pivot (Some p) c e h = cc

-- a lemma without a pivot has no literals
pub literals_none : (lemma : LemmaValue) → None ≡ lemma.pivot → IsLemma lemma → [] ≡ spaced_tokens (map signed_decimal (written_literals lemma))
literals_none lemma e h =
    sym (ap (λ t. spaced_tokens (map signed_decimal t)) (ap (λ p. pivot_first p (literals lemma.clause)) (sym e) ∙ ap literals (no_pivot lemma.pivot lemma.clause e h) ∙ no_literal))

join-spaced : (w : List ℕ) (ws : List (List ℕ)) → join_with_byte 32 (w ∷ ws) ≡ w ++ spaced_tokens ws
join-spaced w [] = sym (append-nil w)
join-spaced w (v ∷ vs) = ap (λ t. w ++ 32 ∷ t) (join-spaced v vs)

line-spaced : (w : List ℕ) (ws : List (List ℕ)) → line_text (w ∷ ws) ≡ w ++ (spaced_tokens ws ++ 10 ∷ [])
line-spaced w ws = ap (λ t. t ++ 10 ∷ []) (join-spaced w ws) ∙ append_assoc w (spaced_tokens ws) (10 ∷ [])

-- words, a last 0 and the line feed
end-spaced : (ws : List (List ℕ)) → spaced_tokens (ws ++ codes "0" ∷ []) ++ 10 ∷ [] ≡ spaced_tokens ws ++ (32 ∷ 48 ∷ 10 ∷ [])
end-spaced ws = ap (λ t. t ++ 10 ∷ []) (spaced_tokens-append ws (codes "0" ∷ [])) ∙ append_assoc (spaced_tokens ws) (32 ∷ 48 ∷ []) (10 ∷ [])

-- the line of a deletion by its parts
pub deletion_parts : (leading : ℕ) (ns : List ℕ) → decimal leading ++ ((32 ∷ 100 ∷ []) ++ (numbers_text ns ++ (32 ∷ 48 ∷ 10 ∷ []))) ≡ deletion_text leading ns
deletion_parts leading ns =
    sym (line-spaced (decimal leading) (codes "d" ∷ (map decimal ns ++ codes "0" ∷ []))
    ∙ ap (λ t. decimal leading ++ ((32 ∷ 100 ∷ []) ++ t)) (end-spaced (map decimal ns)))

-- the line of an addition by its parts
pub addition_parts : (a : Addition) → decimal a.number ++ (spaced_tokens (map signed_decimal (written_literals a.lemma)) ++ ((32 ∷ 48 ∷ []) ++ (numbers_text a.hints ++ (groups_text a.groups ++ (32 ∷ 48 ∷ 10 ∷ []))))) ≡ addition_text a
addition_parts a =
    let ls = map signed_decimal (written_literals a.lemma) in
    let hs = map decimal a.hints in
    let gs = flat_map group_tokens a.groups in
    sym (line-spaced (decimal a.number) (addition_tokens a)
    ∙ ap (λ t. decimal a.number ++ (t ++ 10 ∷ []))
    (spaced_tokens-append ls (codes "0" ∷ (hs ++ (gs ++ codes "0" ∷ [])))
    ∙ ap (λ t. spaced_tokens ls ++ ((32 ∷ 48 ∷ []) ++ t)) (spaced_tokens-append hs (gs ++ codes "0" ∷ [])))
    ∙ ap (λ t. decimal a.number ++ t)
    (append_assoc (spaced_tokens ls) ((32 ∷ 48 ∷ []) ++ (spaced_tokens hs ++ spaced_tokens (gs ++ codes "0" ∷ []))) (10 ∷ [])
    ∙ ap (λ t. spaced_tokens ls ++ ((32 ∷ 48 ∷ []) ++ t))
    (append_assoc (spaced_tokens hs) (spaced_tokens (gs ++ codes "0" ∷ [])) (10 ∷ [])
    ∙ ap (λ t. spaced_tokens hs ++ t) (end-spaced gs))))

text_after-append : (n : ℕ) (xs ys : List Step) → text_after n (xs ++ ys) ≡ text_after n xs ++ text_after (greatest_number n xs) ys
text_after-append n [] ys = refl
text_after-append n (x ∷ xs) ys =
    ap (λ t. step_text n x ++ t) (text_after-append (greatest_with n x) xs ys)
    ∙ sym (append_assoc (step_text n x) (text_after (greatest_with n x) xs) (text_after (greatest_number (greatest_with n x) xs) ys))

greatest_number-append : (n : ℕ) (xs ys : List Step) → greatest_number n (xs ++ ys) ≡ greatest_number (greatest_number n xs) ys
greatest_number-append n [] ys = refl
greatest_number-append n (x ∷ xs) ys = greatest_number-append (greatest_with n x) xs ys

-- the steps up to an item of a list
steps_to : (xs : List Step) (i : ℕ) (x : Step) → i < length xs → x ≡ get_or xs i x → take (i + 1) xs ≡ take i xs ++ x ∷ []
steps_to xs i x lt e = ap (λ k. take k xs) (add-one i) ∙ take-suc xs i x lt ∙ ap (λ y. take i xs ++ y ∷ []) (sym e)

-- the text of one step more
pub text-more : (n : ℕ) (xs : List Step) (i : ℕ) (x : Step) → i < length xs → x ≡ get_or xs i x → text_after n (take (i + 1) xs) ≡ text_after n (take i xs) ++ step_text (greatest_number n (take i xs)) x
text-more n xs i x lt e =
    ap (text_after n) (steps_to xs i x lt e)
    ∙ text_after-append n (take i xs) (x ∷ [])
    ∙ ap (λ t. text_after n (take i xs) ++ t) (append-nil (step_text (greatest_number n (take i xs)) x))

pub greatest-more : (n : ℕ) (xs : List Step) (i : ℕ) (x : Step) → i < length xs → x ≡ get_or xs i x → greatest_number n (take (i + 1) xs) ≡ greatest_with (greatest_number n (take i xs)) x
greatest-more n xs i x lt e = ap (greatest_number n) (steps_to xs i x lt e) ∙ greatest_number-append n (take i xs) (x ∷ [])

-- the text of all steps by that of one of them
pub text_parts : (n : ℕ) (xs : List Step) (i : ℕ) (x : Step) → i < length xs → x ≡ get_or xs i x
    → text_after n (take i xs) ++ (step_text (greatest_number n (take i xs)) x ++ text_after (greatest_with (greatest_number n (take i xs)) x) (drop (suc i) xs)) ≡ text_after n xs
text_parts n xs i x lt e = sym (ap (text_after n) (item_between xs i x lt e) ∙ text_after-append n (take i xs) (x ∷ drop (suc i) xs))
