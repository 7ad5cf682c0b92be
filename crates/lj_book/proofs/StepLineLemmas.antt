-- The lines of the steps of a history, word by word.
use Rattle.std.proofs.Common.{◌≡◌, ℕ, ◌+◌, ◌-◌, ◌<◌, List, [], ◌∷◌, ◌++◌, map, length, take, drop, get_or, refl, sym, ap, ◌∙◌, append_assoc, append-nil, subst, arith, add-one}
use Rattle.std.specs.Prelude.{ℤ, Bool, true, false, not, filter, filter_map, Option, Some, None, ◌==◌, ◌||◌, if◌then◌else◌}
use Rattle.std.specs.FinMap as fin
use Rattle.std.specs.Fmt.{signed_decimal}
use Rattle.std.specs.List.{cons_option, list_any}
use Rattle.std.specs.Ordering.{eq_by_cmp, is_eq}
use Rattle.std.specs.Cmp.{tied_itself}
use Rattle.std.proofs.Math.Seq.{drop-cons, take-length}
use Rattle.std.proofs.lemmas.Bool.{false≢true, eqb-true}
use Rattle.std.proofs.lemmas.Bool.Decides.{nat_tests}
use Rattle.lj_clause.specs.Literal.{lit_cmp}
use Rattle.lj_clause.specs.inner.Literal.{lit_cmp_total}
use Rattle.lj_clause.specs.LiteralSet.{literals, from_literals, holds}
use Rattle.lj_clause.specs.Lemma.{lemma_of}
use Rattle.lj_clause.proofs.LiteralSets.{holds-no_literals, holds-from_literals}
use Rattle.lj_text.specs.declared.step.Step.{Step}
use Rattle.lj_text.specs.StepText.{text_after, written_literals, deletion_text}
use Rattle.lj_text.specs.Needed.{up_to_empty, if_some}
use Rattle.lj_text.specs.Writing.{IsCutShort, spaced_token}
use Rattle.lj_text.specs.inner.Writing.{spaced_tokens}
use Rattle.lj_text.specs.TokenWriting.{TokenState, WasGiven}
use Rattle.lj_text.proofs.WritingLemmas.{beginning-self, beginning-trans}
use Rattle.lj_book.specs.inner.Encoding.{number_in, many_in}
use Rattle.lj_book.specs.inner.Records.{lemma_lits, kind_in, step_in}
use Rattle.lj_book.proofs.RecordLaws.{step_at, step_at-is}
use Rattle.lj_book.specs.inner.StepLines.{kept_as_written, entry_text, entry_greatest, ends_proof, Remains}

-- ---- calls in a row

-- nothing was given
pub given_none : (s : TokenState) → WasGiven s [] s
given_none s = record {
  whole = λ f. (f, sym (append-nil (s.taken ++ s.left.text)), refl);
  cut_short = λ f g. absurd (false≢true (sym f ∙ g));
  stays = λ f. refl;
  onward = beginning-self s.taken;
}

cut_more : (front whole rest : List ℕ) → IsCutShort front whole → IsCutShort front (whole ++ rest)
cut_more front whole rest c = (c.0, c.1 ++ rest, ap (λ t. t ++ rest) c.2 ∙ append_assoc front (c.0 ∷ c.1) rest)

pub given_then : (s m t : TokenState) (x y : List ℕ) → WasGiven s x m → WasGiven m y t → WasGiven s (x ++ y) t
given_then s m t x y w v = record {
  whole = λ f.
      let later = v.whole f in
      let first = w.whole later.0 in
      (first.0, later.1 ∙ ap (λ u. u ++ y) first.1 ∙ append_assoc (s.taken ++ s.left.text) x y, later.2 ∙ first.2);
  cut_short = λ f g. by_middle m.left.failed refl f g;
  stays = λ f. v.stays (ap (λ (u : TokenState). u.left.failed) (w.stays f) ∙ f) ∙ w.stays f;
  onward = beginning-trans s.taken m.taken t.taken w.onward v.onward;
}
  where
    by_middle : (b : Bool) → m.left.failed ≡ b → s.left.failed ≡ false → t.left.failed ≡ true → IsCutShort t.taken ((s.taken ++ s.left.text) ++ (x ++ y)) × (t.failures ≡ s.failures + 1)
    by_middle false e f g =
        let first = w.whole e in
        let broke = v.cut_short e g in
        (subst (IsCutShort t.taken) (ap (λ u. u ++ y) first.1 ∙ append_assoc (s.taken ++ s.left.text) x y) broke.0, broke.1 ∙ ap (λ n. n + 1) first.2)
    by_middle true e f g =
        let same : t ≡ m = v.stays e in
        let broke = w.cut_short f e in (
          subst (λ (u : TokenState). IsCutShort u.taken ((s.taken ++ s.left.text) ++ (x ++ y))) (sym same)
              (subst (IsCutShort m.taken) (append_assoc (s.taken ++ s.left.text) x y) (cut_more m.taken _ y broke.0)),
          ap (λ (u : TokenState). u.failures) same ∙ broke.1,
        )

-- ---- what is left of a text

pub remains_all : (s : TokenState) (whole : List ℕ) → Remains s whole s whole
remains_all s whole = record { front = []; given = given_none s; parts = refl }

pub remains_less : (s t u : TokenState) (whole all x rest : List ℕ) → Remains s whole t all → all ≡ x ++ rest → WasGiven t x u → Remains s whole u rest
remains_less s t u whole all x rest r e w = record {
  front = r.front ++ x;
  given = given_then s t u r.front x r.given w;
  parts = append_assoc r.front x rest ∙ ap (λ y. r.front ++ y) (sym e) ∙ r.parts;
}

pub remains_none : (s t : TokenState) (whole : List ℕ) → Remains s whole t [] → WasGiven s whole t
remains_none s t whole r = subst (λ y. WasGiven s y t) (sym (append-nil r.front) ∙ r.parts) r.given

-- ---- literals

tail_is : (a b : ℤ) (xs ys : List ℤ) → a ∷ xs ≡ b ∷ ys → xs ≡ ys
tail_is a b xs ys e = ap (drop 1) e

-- what a lemma is kept by is written as the lemma
pub kept_written : (ls : List ℤ) → ls ≡ lemma_lits (lemma_of ls) → kept_as_written ls ≡ written_literals (lemma_of ls)
kept_written [] e = e
kept_written (p ∷ ls) e = ap (λ xs. p ∷ filter (λ l. not (eq_by_cmp lit_cmp l p)) xs) (tail_is p p ls (literals (from_literals (p ∷ ls))) e)

-- ---- steps

-- one entry more, which doesn't end the proof
pub line_more : (n : ℕ) (o : Option Step) (ss : List Step) → ends_proof o ≡ false → text_after n (up_to_empty (cons_option o ss)) ≡ entry_text n o ++ text_after (entry_greatest n o) (up_to_empty ss)
line_more n None ss e = refl
line_more n (Some s) ss e = ap (λ b. text_after n (if b then s ∷ [] else s ∷ up_to_empty ss)) e

-- the entry that ends the proof
pub line_last : (n : ℕ) (o : Option Step) (ss : List Step) → ends_proof o ≡ true → text_after n (up_to_empty (cons_option o ss)) ≡ entry_text n o ++ []
line_last n None ss e = absurd (false≢true e)
line_last n (Some s) ss e = ap (λ b. text_after n (if b then s ∷ [] else s ∷ up_to_empty ss)) e

-- what is left of a list, by its next item
pub next_item : {X : Type 0} (xs : List X) (i : ℕ) (x : X) → i < length xs → x ≡ get_or xs i x → drop i xs ≡ x ∷ drop (i + 1) xs
next_item xs i x lt e = drop-cons xs i x lt ∙ (λ j. sym e j ∷ drop (sym (add-one i) j) xs)

-- the same of a text that is written in another way
pub given_as : (s t : TokenState) (x y : List ℕ) → WasGiven s x t → x ≡ y → WasGiven s y t
given_as s t x y w e = subst (λ z. WasGiven s z t) e w

pub remains_as : (s t : TokenState) (whole x y : List ℕ) → Remains s whole t x → x ≡ y → Remains s whole t y
remains_as s t whole x y r e = subst (λ z. Remains s whole t z) e r

-- what is read before a loop
pub all_left : {A : Type 0} (one : List ℕ → A × List ℕ) (n m : ℕ) (ws us : List ℕ) → n ≡ m → ws ≡ us → many_in one (n - 0) ws ≡ many_in one m us
all_left one n m ws us e f = (λ i. many_in one (none i) (f i))
  where
    none : n - 0 ≡ m
    none = omega (arith, e)

-- ---- the literals that a lemma is kept by

-- its pivot, and then the others
pub kept_first : (ls : List ℤ) (p : ℤ) → 0 < length ls → p ≡ get_or ls 0 p → spaced_token (signed_decimal p) ++ spaced_tokens (map signed_decimal (filter (λ l. not (eq_by_cmp lit_cmp l p)) (take (length ls - 1) (drop 1 ls)))) ≡ spaced_tokens (map signed_decimal (kept_as_written ls))
kept_first [] p lt e = absurd (omega (arith, lt))
kept_first (x ∷ xs) p lt e =
    let n : length (x ∷ xs) - 1 ≡ length xs = omega arith in
    (λ i. spaced_tokens (map signed_decimal (e i ∷ filter (λ l. not (eq_by_cmp lit_cmp l (e i))) (take (n i) xs))))
    ∙ ap (λ ys. spaced_tokens (map signed_decimal (x ∷ filter (λ l. not (eq_by_cmp lit_cmp l x)) ys))) (take-length xs)

-- there is none exactly where the clause is empty
pub kept_none : (ls : List ℤ) → (length ls == 0) ≡ (fin.len (from_literals ls) == 0)
kept_none [] = ap (λ n. n == 0) (sym (fin.len-empty lit_cmp (Unit {0})))
kept_none (p ∷ ls) =
    elim (fin.len (from_literals (p ∷ ls)) == 0) as (λ b. (fin.len (from_literals (p ∷ ls)) == 0) ≡ b → (length (p ∷ ls) == 0) ≡ b) [
      | true ↦ λ e. absurd (false≢true (sym (holds-no_literals p) ∙ ap (λ c. holds c p) (sym (fin.empty_of_len (from_literals (p ∷ ls)) (eqb-true (fin.len (from_literals (p ∷ ls))) 0 e))) ∙ there))
      | false ↦ λ e. nonzero
    ] refl
  where
    there : holds (from_literals (p ∷ ls)) p ≡ true
    there = holds-from_literals (p ∷ ls) p ∙ ap (λ r. is_eq r || list_any (eq_by_cmp lit_cmp p) ls) (tied_itself lit_cmp_total p)

    nonzero : (length (p ∷ ls) == 0) ≡ false
    nonzero = grind (arith, nat_tests)

-- the line of a deletion of some numbers
pub deleted : (n : ℕ) (ns : List ℕ) → (length ns ≡ 0 → ⊥) → deletion_text n ns ≡ entry_text n (if_some ns)
deleted n [] h = absurd (h refl)
deleted n (m ∷ ns) h = refl

-- what is left of the text, by the next entry
pub entry_next : (lits : List ℤ) (encoding starts : List ℕ) (i n : ℕ) → i < length starts
    → text_after n (up_to_empty (filter_map (step_at lits encoding) (drop i starts)))
    ≡ text_after n (up_to_empty (cons_option (step_at lits encoding (get_or starts i 0)) (filter_map (step_at lits encoding) (drop (i + 1) starts))))
entry_next lits encoding starts i n lt = ap (λ xs. text_after n (up_to_empty (filter_map (step_at lits encoding) xs)))
    (drop-cons starts i 0 lt ∙ (λ j. get_or starts i 0 ∷ drop (sym (add-one i) j) starts))

-- the step of an entry, by what stands behind its first number
pub step_there : (lits : List ℤ) (encoding ws : List ℕ) (start head : ℕ) (rest : List ℕ) → ws ≡ drop start encoding → head ≡ (number_in ws).0 → rest ≡ (number_in ws).1 → step_in lits (kind_in head) rest ≡ step_at lits encoding start
step_there lits encoding ws start head rest e f g =
    (λ i. step_in lits (kind_in (f i)) (g i))
    ∙ ap (λ us. step_in lits (kind_in (number_in us).0) (number_in us).1) e
    ∙ sym (step_at-is lits encoding start)
