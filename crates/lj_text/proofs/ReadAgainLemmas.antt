-- What is written is read again.
use Rattle.std.proofs.Common.{◌≡◌, ℕ, zero, suc, ◌+◌, ◌<◌, ◌≤◌, true, false, not, ◌||◌, cond, Bool, List, [], ◌∷◌, ◌++◌, map, length, refl, sym, ap, ◌∙◌, append_assoc, append-nil, arith}
use Rattle.std.specs.Prelude.{ℤ, pos, unsigned_abs, Option, None, Some, Result, Ok, Err, codes, flat_map, filter, ◌==◌, nat_le}
use Rattle.std.specs.List.{AllByRecursion, join_with_byte}
use Rattle.std.specs.Ordering.{eq_by_cmp}
use Rattle.std.specs.Fmt.{decimal, signed_decimal}
use Rattle.std.proofs.lemmas.Bool.{le-leb, or_left, or_right}
use Rattle.std.proofs.lemmas.Map.Views.{any-filter_same}
use Rattle.lj_clause.specs.Literal.{lit_cmp}
use Rattle.lj_clause.specs.LiteralSet.{LiteralSet, holds, with_literal, literals, from_literals}
use Rattle.lj_clause.specs.Lemma.{LemmaValue, IsLemma, lemma_of}
use Rattle.lj_clause.specs.Rat.{HintGroup}
use Rattle.lj_clause.proofs.Literals.{same_literal}
use Rattle.lj_clause.proofs.LiteralSets.{holds-with_literal, holds-from_literals, holds-literals, same_set}
use Rattle.lj_clause.proofs.Among.{among, itself, passed}
use Rattle.lj_text.specs.declared.line.Addition.{Addition}
use Rattle.lj_text.specs.declared.line.Line.{Line}
use Rattle.lj_text.specs.declared.line.Line.TheVariants as says
use Rattle.lj_text.specs.declared.lines.fault.LineFaultKind.{LineFaultKind}
use Rattle.lj_text.specs.declared.lines.fault.LineFaultKind.TheVariants.{NumberRange}
use Rattle.lj_text.specs.declared.step.Step.{Step}
use Rattle.lj_text.specs.declared.step.Step.TheVariants.{Add, Delete}
use Rattle.lj_text.specs.Bytes.{begins, number_of, is_silent, line_number}
use Rattle.lj_text.specs.Lines.{greatest, with_read, then_read, literals_then, numbers_of, hints_of, addition_of, deletion_of, import_of, is_letter, after_zero, after_number, after_first, line_of, Said, said_by, said_from, all_said}
use Rattle.lj_text.specs.LinesRead.{HasNoLineEnd, text_of_lines}
use Rattle.lj_text.specs.StepText.{pivot_first, written_literals, group_tokens, addition_tokens, step_text, greatest_with, text_after}
use Rattle.lj_text.specs.ReadAgain.{IsClauseNumber, IsLiteralUpTo, IsGroupWithin, IsAdditionWithin, IsStepWithin, line_of_step, said_by_steps, WrittenIsReadAgain}
use Rattle.lj_text.proofs.CnfLemmas.{not_zero, variable-abs}
use Rattle.lj_text.proofs.StandLemmas.{all-joined, all-none}
use Rattle.lj_text.proofs.WrittenTokens.{no_literal}
use Rattle.lj_text.proofs.WrittenNumbers.{IsWordText, AreWritten, tokens-joined, no_end-joined, decimal-token_number, number-decimal, as_numbers, negated, group_numbers, letter-token_number, written-append, written-numbers, written-literals, written-groups, written-zero, written-end, no-letter}
use Rattle.lj_clause.specs.declared.lit.TheConstants.{MAX_VARIABLE}

-- literals up to their 0
literals-read : (most : ℕ) (ls : List ℤ) (rest : List (Option ℤ)) → AllByRecursion (IsLiteralUpTo most) ls → literals_then most true (map Some ls ++ Some (pos 0) ∷ rest) ≡ Ok (ls, rest)
literals-read most [] rest h = refl
literals-read most (l ∷ ls) rest h =
    let more : List (Option ℤ) = map Some ls ++ Some (pos 0) ∷ rest in
    let some : 0 < unsigned_abs l = omega (arith, h.0.0, variable-abs l) in
    let within : unsigned_abs l ≤ most = omega (arith, h.0.1, variable-abs l) in
    ap (λ b. cond b (Ok ([], more)) (cond (nat_le (unsigned_abs l) most) (with_read (λ (r : List ℤ × List (Option ℤ)). (l ∷ r.0, r.1)) (literals_then most true more)) (Err NumberRange))) (not_zero (unsigned_abs l) some)
    ∙ ap (λ b. cond b (with_read (λ (r : List ℤ × List (Option ℤ)). (l ∷ r.0, r.1)) (literals_then most true more)) (Err NumberRange)) (le-leb (unsigned_abs l) most within)
    ∙ ap (with_read (λ (r : List ℤ × List (Option ℤ)). (l ∷ r.0, r.1))) (literals-read most ls rest h.1)

-- numbers up to the closing 0
numbers-read : (ns : List ℕ) → AllByRecursion IsClauseNumber ns → numbers_of true (as_numbers ns ++ Some (pos 0) ∷ []) ≡ Ok ns
numbers-read [] h = refl
numbers-read (zero ∷ ns) h = absurd (omega (arith, h.0.0))
numbers-read (suc n ∷ ns) h =
    ap (λ b. cond b (with_read (λ (ms : List ℕ). suc n ∷ ms) (numbers_of true (as_numbers ns ++ Some (pos 0) ∷ []))) (Err NumberRange)) (le-leb (suc n) greatest h.0.1)
    ∙ ap (with_read (λ (ms : List ℕ). suc n ∷ ms)) (numbers-read ns h.1)

-- hints before groups
hints-read : (hs : List ℕ) (rest : List (Option ℤ)) (gs : List HintGroup) → AllByRecursion IsClauseNumber hs → hints_of true rest ≡ Ok ([], gs) → hints_of true (as_numbers hs ++ rest) ≡ Ok (hs, gs)
hints-read [] rest gs h e = e
hints-read (zero ∷ hs) rest gs h e = absurd (omega (arith, h.0.0))
hints-read (suc n ∷ hs) rest gs h e =
    ap (λ b. cond b (with_read (λ (r : List ℕ × List HintGroup). (suc n ∷ r.0, r.1)) (hints_of true (as_numbers hs ++ rest))) (Err NumberRange)) (le-leb (suc n) greatest h.0.1)
    ∙ ap (with_read (λ (r : List ℕ × List HintGroup). (suc n ∷ r.0, r.1))) (hints-read hs rest gs h.1 e)

group-read : (candidate : ℕ) (hs : List ℕ) (rest : List (Option ℤ)) (gs : List HintGroup) → IsClauseNumber candidate → hints_of true (as_numbers hs ++ rest) ≡ Ok (hs, gs)
    → hints_of true (Some (negated candidate) ∷ (as_numbers hs ++ rest)) ≡ Ok ([], record { candidate = candidate; hints = hs } ∷ gs)
group-read zero hs rest gs h e = absurd (omega (arith, h.0))
group-read (suc k) hs rest gs h e =
    ap (λ b. cond b (with_read (λ (r : List ℕ × List HintGroup). ([], record { candidate = suc k; hints = r.0 } ∷ r.1)) (hints_of true (as_numbers hs ++ rest))) (Err NumberRange)) (le-leb (suc k) greatest h.1)
    ∙ ap (with_read (λ (r : List ℕ × List HintGroup). ([], record { candidate = suc k; hints = r.0 } ∷ r.1))) e

groups-read : (gs : List HintGroup) → AllByRecursion IsGroupWithin gs → hints_of true (flat_map group_numbers gs ++ Some (pos 0) ∷ []) ≡ Ok ([], gs)
groups-read [] h = refl
groups-read (g ∷ gs) h =
    let rest : List (Option ℤ) = flat_map group_numbers gs ++ Some (pos 0) ∷ [] in
    ap (hints_of true) (append_assoc (group_numbers g) (flat_map group_numbers gs) (Some (pos 0) ∷ []))
    ∙ group-read g.candidate g.hints rest gs h.0.0 (hints-read g.hints rest gs h.0.1 (groups-read gs h.1))

-- the literals of a lemma as they are written
members : (P : ℤ → Type 0) (ls : List ℤ) → ((l : ℤ) → among l ls ≡ true → P l) → AllByRecursion P ls
members P [] h = tt
members P (l ∷ ls) h = (h l (or_left (eq_by_cmp lit_cmp l l) (among l ls) (itself l)), members P ls (λ m e. h m (or_right (eq_by_cmp lit_cmp m l) (among m ls) e)))

abbrev but : ℤ → ℤ → Bool
but pivot l = not (eq_by_cmp lit_cmp l pivot)

written_by : (P : ℤ → Type 0) (c : LiteralSet) (o : Option ℤ) → IsLemma (record { clause = c; pivot = o }) → ((l : ℤ) → holds c l ≡ true → P l) → AllByRecursion P (pivot_first o (literals c))
written_by P c None is h = members P (literals c) (λ l m. h l (holds-literals c l ∙ m))
written_by P c (Some p) is h = (h p is, members P (filter (but p) (literals c)) (λ l m. h l (holds-literals c l ∙ (passed (but p) l (literals c) m).0)))

same_holds : (c : LiteralSet) (p : ℤ) → holds c p ≡ true → (q : ℤ) → holds (with_literal (from_literals (filter (but p) (literals c))) p) q ≡ holds c q
same_holds c p is q =
    holds-with_literal (from_literals (filter (but p) (literals c))) p q
    ∙ elim (eq_by_cmp lit_cmp q p) as (λ b. eq_by_cmp lit_cmp q p ≡ b → (b || holds (from_literals (filter (but p) (literals c))) q) ≡ holds c q) [
      | true ↦ λ e. sym (ap (holds c) (same_literal q p e) ∙ is)
      | false ↦ λ e. holds-from_literals (filter (but p) (literals c)) q
          ∙ any-filter_same (eq_by_cmp lit_cmp q) (but p) true (λ k t. ap (λ l. not (eq_by_cmp lit_cmp l p)) (sym (same_literal q k t)) ∙ ap not e) (literals c)
          ∙ sym (holds-literals c q)
    ] refl

lemma_by : (c : LiteralSet) (o : Option ℤ) → IsLemma (record { clause = c; pivot = o }) → lemma_of (pivot_first o (literals c)) ≡ record { clause = c; pivot = o }
lemma_by c None is = ap lemma_of (ap literals is ∙ no_literal) ∙ ap (λ (s : LiteralSet). record { clause = s; pivot = None }) (sym is)
lemma_by c (Some p) is = ap (λ (s : LiteralSet). record { clause = s; pivot = Some p }) (same_set (with_literal (from_literals (filter (but p) (literals c))) p) c (same_holds c p is))

-- behind a line's first number
some_numbers : (m n : Option ℤ) (ms ns : List (Option ℤ)) → m ∷ ms ≡ n ∷ ns → m ≡ n
some_numbers m n ms ns e = cc

one_letter : (letter : ℕ) (t : List ℕ) → begins letter t ≡ false → is_letter letter t ≡ false
one_letter letter [] h = refl
one_letter letter (b ∷ []) h = h
one_letter letter (b ∷ c ∷ bs) h = refl

no_letter_first : (t : List ℕ) (z : ℤ) → number_of t ≡ Some z → (begins 99 t ≡ false) × (begins 100 t ≡ false) × (begins 105 t ≡ false)
no_letter_first [] z e = (refl, refl, refl)
no_letter_first (b ∷ bs) z e = (no-letter 99 b bs z refl refl e, no-letter 100 b bs z refl refl e, no-letter 105 b bs z refl refl e)

by_letters : (most n : ℕ) (t : List ℕ) (ts : List (List ℕ)) → is_letter 100 t ≡ false → (n == 0) ≡ false → is_letter 105 t ≡ false → after_number most true n (t ∷ ts) ≡ addition_of most true n (map number_of (t ∷ ts))
by_letters most n t ts d z i =
    ap (λ b. cond b (deletion_of true (map number_of ts)) (cond (n == 0) (Err (after_zero most t)) (cond (is_letter 105 t) (import_of most true n (map number_of ts)) (addition_of most true n (map number_of (t ∷ ts)))))) d
    ∙ ap (λ b. cond b (Err (after_zero most t)) (cond (is_letter 105 t) (import_of most true n (map number_of ts)) (addition_of most true n (map number_of (t ∷ ts))))) z
    ∙ ap (λ b. cond b (import_of most true n (map number_of ts)) (addition_of most true n (map number_of (t ∷ ts)))) i

after_is : (most n : ℕ) (ts : List (List ℕ)) (z : ℤ) (more : List (Option ℤ)) → map number_of ts ≡ Some z ∷ more → 0 < n → after_number most true n ts ≡ addition_of most true n (map number_of ts)
after_is most n [] z more e some = cc
after_is most n (t ∷ ts) z more e some =
    let letters = no_letter_first t z (some_numbers (number_of t) (Some z) (map number_of ts) more e) in
    by_letters most n t ts (one_letter 100 t letters.1) (not_zero n some) (one_letter 105 t letters.2)

starts : (ls : List ℤ) (rest : List (Option ℤ)) → (z : ℤ) × (more : List (Option ℤ)) × (map Some ls ++ Some (pos 0) ∷ rest ≡ Some z ∷ more)
starts [] rest = (pos 0, rest, refl)
starts (l ∷ ls) rest = (l, map Some ls ++ Some (pos 0) ∷ rest, refl)

first_number : (most n : ℕ) (ts : List (List ℕ)) → n ≤ greatest → line_of most true (decimal n ∷ ts) ≡ after_number most true n ts
first_number most n ts le =
    ap (λ o. after_first most true o ts) (number-decimal n (omega (arith, le)))
    ∙ ap (λ b. cond b (after_number most true n ts) (Err NumberRange)) (le-leb n greatest le)

-- an addition
abbrev addition_numbers : Addition → List (Option ℤ)
addition_numbers a = map Some (written_literals a.lemma) ++ Some (pos 0) ∷ (as_numbers a.hints ++ (flat_map group_numbers a.groups ++ Some (pos 0) ∷ []))

written_addition : (most : ℕ) (a : Addition) → most ≤ MAX_VARIABLE → IsAdditionWithin most a → AreWritten (addition_tokens a) (addition_numbers a)
written_addition most a le h =
    written-append (map signed_decimal (written_literals a.lemma)) (codes "0" ∷ (map decimal a.hints ++ (flat_map group_tokens a.groups ++ codes "0" ∷ []))) (map Some (written_literals a.lemma)) _
    (written-literals most (written_literals a.lemma) le (written_by (IsLiteralUpTo most) a.lemma.clause a.lemma.pivot h.pivot h.variables))
    (written-zero _ _ (written-append (map decimal a.hints) (flat_map group_tokens a.groups ++ codes "0" ∷ []) (as_numbers a.hints) _ (written-numbers a.hints h.hints)
    (written-append (flat_map group_tokens a.groups) (codes "0" ∷ []) (flat_map group_numbers a.groups) _ (written-groups a.groups h.groups) written-end)))

addition_is : (most : ℕ) (a : Addition) → IsAdditionWithin most a → addition_of most true a.number (addition_numbers a) ≡ Ok (says.Add a)
addition_is most a h =
    let rest : List (Option ℤ) = as_numbers a.hints ++ (flat_map group_numbers a.groups ++ Some (pos 0) ∷ []) in
    ap (λ (read : Result (List ℤ × List (Option ℤ)) LineFaultKind). then_read read (λ r. with_read (λ (g : List ℕ × List HintGroup). says.Add (record { number = a.number; lemma = lemma_of r.0; hints = g.0; groups = g.1 })) (hints_of true r.1)))
    (literals-read most (written_literals a.lemma) rest (written_by (IsLiteralUpTo most) a.lemma.clause a.lemma.pivot h.pivot h.variables))
    ∙ ap (with_read (λ (g : List ℕ × List HintGroup). says.Add (record { number = a.number; lemma = lemma_of (written_literals a.lemma); hints = g.0; groups = g.1 })))
    (hints-read a.hints (flat_map group_numbers a.groups ++ Some (pos 0) ∷ []) a.groups h.hints (groups-read a.groups h.groups))
    ∙ ap (λ (l : LemmaValue). Ok (says.Add (record { number = a.number; lemma = l; hints = a.hints; groups = a.groups }))) (lemma_by a.lemma.clause a.lemma.pivot h.pivot)

addition_read : (most : ℕ) (a : Addition) → most ≤ MAX_VARIABLE → IsAdditionWithin most a → line_of most true (decimal a.number ∷ addition_tokens a) ≡ Ok (says.Add a)
addition_read most a le h =
    let w = written_addition most a le h in
    let first = starts (written_literals a.lemma) (as_numbers a.hints ++ (flat_map group_numbers a.groups ++ Some (pos 0) ∷ [])) in
    first_number most a.number (addition_tokens a) h.number.1
    ∙ after_is most a.number (addition_tokens a) first.0 first.1 (w.numbers_are ∙ first.2) h.number.0
    ∙ ap (addition_of most true a.number) w.numbers_are
    ∙ addition_is most a h

-- a deletion
deletion_read : (most leading : ℕ) (ns : List ℕ) → leading ≤ greatest → AllByRecursion IsClauseNumber ns → line_of most true (decimal leading ∷ codes "d" ∷ (map decimal ns ++ codes "0" ∷ [])) ≡ Ok (says.Delete ns)
deletion_read most leading ns le h =
    let w = written-append (map decimal ns) (codes "0" ∷ []) (as_numbers ns) (Some (pos 0) ∷ []) (written-numbers ns h) written-end in
    first_number most leading (codes "d" ∷ (map decimal ns ++ codes "0" ∷ [])) le
    ∙ ap (deletion_of true) w.numbers_are
    ∙ ap (with_read (λ (ms : List ℕ). says.Delete ms)) (numbers-read ns h)

-- a step
abbrev step_tokens : ℕ → Step → List (List ℕ)
step_tokens leading (Add a) = decimal a.number ∷ addition_tokens a
step_tokens leading (Delete ns) = decimal leading ∷ codes "d" ∷ (map decimal ns ++ codes "0" ∷ [])

step_texts : (most leading : ℕ) (step : Step) → most ≤ MAX_VARIABLE → leading ≤ greatest → IsStepWithin most step → AllByRecursion IsWordText (step_tokens leading step)
step_texts most leading (Add a) m l h = (decimal-token_number a.number (omega (arith, h.number.1)), (written_addition most a m h).texts)
step_texts most leading (Delete ns) m l h =
    (decimal-token_number leading (omega (arith, l)), (letter-token_number 100 refl refl, (written-append (map decimal ns) (codes "0" ∷ []) (as_numbers ns) (Some (pos 0) ∷ []) (written-numbers ns h) written-end).texts))

step_read : (most leading : ℕ) (step : Step) → most ≤ MAX_VARIABLE → leading ≤ greatest → IsStepWithin most step → line_of most true (step_tokens leading step) ≡ Ok (line_of_step step)
step_read most leading (Add a) m l h = addition_read most a m h
step_read most leading (Delete ns) m l h = deletion_read most leading ns l h

loud : (n : ℕ) (ts : List (List ℕ)) → n ≤ greatest → is_silent (decimal n ∷ ts) ≡ false
loud n ts le = (no_letter_first (decimal n) (pos n) (number-decimal n (omega (arith, le)))).0

step_loud : (most leading : ℕ) (step : Step) → leading ≤ greatest → IsStepWithin most step → is_silent (step_tokens leading step) ≡ false
step_loud most leading (Add a) l h = loud a.number (addition_tokens a) h.number.1
step_loud most leading (Delete ns) l h = loud leading (codes "d" ∷ (map decimal ns ++ codes "0" ∷ [])) l

step_said : (most k leading : ℕ) (step : Step) → most ≤ MAX_VARIABLE → leading ≤ greatest → IsStepWithin most step
    → said_by most k true (join_with_byte 32 (step_tokens leading step)) ≡ record { line = line_number k; says = Ok (line_of_step step) } ∷ []
step_said most k leading step m l h =
    ap (λ (ts : List (List ℕ)). cond (is_silent ts) [] (record { line = line_number k; says = line_of most true ts } ∷ [])) (tokens-joined (step_tokens leading step) (step_texts most leading step m l h))
    ∙ ap (λ b. cond b [] (record { line = line_number k; says = line_of most true (step_tokens leading step) } ∷ [])) (step_loud most leading step l h)
    ∙ ap (λ (r : Result Line LineFaultKind). record { line = line_number k; says = r } ∷ []) (step_read most leading step m l h)

-- steps in a row
abbrev step_lines : ℕ → List Step → List (List ℕ)
step_lines n [] = []
step_lines n (step ∷ steps) = join_with_byte 32 (step_tokens n step) ∷ step_lines (greatest_with n step) steps

step_line : (n : ℕ) (step : Step) → step_text n step ≡ join_with_byte 32 (step_tokens n step) ++ 10 ∷ []
step_line n (Add a) = refl
step_line n (Delete ns) = refl

text_is : (n : ℕ) (steps : List Step) → text_after n steps ≡ text_of_lines (step_lines n steps)
text_is n [] = refl
text_is n (step ∷ steps) =
    ap (λ t. t ++ text_after (greatest_with n step) steps) (step_line n step)
    ∙ append_assoc (join_with_byte 32 (step_tokens n step)) (10 ∷ []) (text_after (greatest_with n step) steps)
    ∙ ap (λ t. join_with_byte 32 (step_tokens n step) ++ 10 ∷ t) (text_is (greatest_with n step) steps)

still_within : (most n : ℕ) (step : Step) → n ≤ greatest → IsStepWithin most step → greatest_with n step ≤ greatest
still_within most n (Add a) l h = omega (arith, h.number.1, l)
still_within most n (Delete ns) l h = l

whole_lines : (most n : ℕ) (steps : List Step) → most ≤ MAX_VARIABLE → n ≤ greatest → AllByRecursion (IsStepWithin most) steps → AllByRecursion HasNoLineEnd (step_lines n steps)
whole_lines most n [] m l h = tt
whole_lines most n (step ∷ steps) m l h =
    (no_end-joined (step_tokens n step) (step_texts most n step m l h.0), whole_lines most (greatest_with n step) steps m (still_within most n step l h.0) h.1)

lines_said : (most k n : ℕ) (steps : List Step) → most ≤ MAX_VARIABLE → n ≤ greatest → AllByRecursion (IsStepWithin most) steps → said_from most k (step_lines n steps) ≡ said_by_steps k steps
lines_said most k n [] m l h = refl
lines_said most k n (step ∷ steps) m l h =
    ap (λ (ss : List Said). ss ++ said_from most (k + 1) (step_lines (greatest_with n step) steps)) (step_said most k n step m l h.0)
    ∙ ap (λ (ss : List Said). record { line = line_number k; says = Ok (line_of_step step) } ∷ ss) (lines_said most (k + 1) (greatest_with n step) steps m (still_within most n step l h.0) h.1)

pub read-again : WrittenIsReadAgain
read-again most clauses steps m l h =
    let ls : List (List ℕ) = step_lines clauses steps in
    let whole : AllByRecursion HasNoLineEnd ls = whole_lines most clauses steps m l h in
    ap (all_said most) (text_is clauses steps ∙ sym (append-nil (text_of_lines ls)))
    ∙ all-joined most 0 ls [] whole
    ∙ ap (λ ss. said_from most 0 ls ++ ss) (all-none most (0 + length ls) [] (λ i d lt. absurd (omega arith)))
    ∙ append-nil (said_from most 0 ls)
    ∙ lines_said most 0 clauses steps m l h
