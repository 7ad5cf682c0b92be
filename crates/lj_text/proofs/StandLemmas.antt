-- A text that begins with whole lines.
use Rattle.std.proofs.Common.{◌≡◌, ℕ, ◌+◌, ◌-◌, ◌^◌, ◌<◌, min, Bool, true, false, cond, List, [], ◌∷◌, ◌++◌, length, Option, None, Some, Result, Ok, Err, refl, sym, ap, ◌∙◌, append_assoc, arith, length-append}
use Rattle.std.specs.List.{AllByRecursion, slice_get}
use Rattle.std.proofs.lemmas.List.Splits.{slice_split_none, slice_split_at, length-slice_split}
use Rattle.lj_text.specs.declared.line.Line.{Line}
use Rattle.lj_text.specs.declared.lines.fault.LineFaultKind.{LineFaultKind}
use Rattle.lj_text.specs.Bytes.{is_line_end, lines_of, line_number, tokens_of, is_silent}
use Rattle.lj_text.specs.Lines.{Said, said_by, said_from, all_but_last, last_of, whole_said_from, all_said_from, line_of, with_read}
use Rattle.lj_text.specs.inner.LineReading.{line_said}
use Rattle.lj_text.specs.LinesRead.{HasNoLineEnd, text_of_lines}

-- whole lines, and more of them
pub all_more : (ls : List (List ℕ)) (l : List ℕ) → AllByRecursion HasNoLineEnd ls → HasNoLineEnd l → AllByRecursion HasNoLineEnd (ls ++ l ∷ [])
all_more [] l h k = (k, tt)
all_more (m ∷ ls) l h k = (h.0, all_more ls l h.1 k)

pub joined_more : (ls : List (List ℕ)) (l rest : List ℕ) → text_of_lines (ls ++ l ∷ []) ++ rest ≡ text_of_lines ls ++ (l ++ 10 ∷ rest)
joined_more [] l rest = append_assoc l (10 ∷ []) rest
joined_more (m ∷ ls) l rest = append_assoc m _ rest ∙ ap (λ r. m ++ 10 ∷ r) (joined_more ls l rest) ∙ sym (append_assoc m _ _)

pub next_number : (k : ℕ) (number : ℕ) → number ≡ line_number k → min (number + 1) (2 ^ 64 - 1) ≡ line_number (k + 1)
next_number k number h = omega (arith, h)

pub both : (xs ys : List (List ℕ)) → AllByRecursion HasNoLineEnd xs → AllByRecursion HasNoLineEnd ys → AllByRecursion HasNoLineEnd (xs ++ ys)
both [] ys h k = k
both (x ∷ xs) ys h k = (h.0, both xs ys h.1 k)

pub joined_both : (xs ys : List (List ℕ)) (rest : List ℕ) → text_of_lines (xs ++ ys) ++ rest ≡ text_of_lines xs ++ (text_of_lines ys ++ rest)
joined_both [] ys rest = refl
joined_both (x ∷ xs) ys rest = append_assoc x _ rest ∙ ap (λ r. x ++ 10 ∷ r) (joined_both xs ys rest) ∙ sym (append_assoc x _ _)

pub lines_of-joined : (ls : List (List ℕ)) (rest : List ℕ) → AllByRecursion HasNoLineEnd ls → lines_of (text_of_lines ls ++ rest) ≡ ls ++ lines_of rest
lines_of-joined [] rest h = refl
lines_of-joined (l ∷ ls) rest h =
    ap lines_of (append_assoc l (10 ∷ text_of_lines ls) rest)
    ∙ slice_split_at is_line_end l 10 (text_of_lines ls ++ rest) h.0 refl
    ∙ ap (λ ps. l ∷ ps) (lines_of-joined ls rest h.1)

all_but_last-append : (ls ps : List (List ℕ)) → 0 < length ps → all_but_last (ls ++ ps) ≡ ls ++ all_but_last ps
all_but_last-append [] ps h = refl
all_but_last-append (l ∷ []) [] h = absurd (omega arith)
all_but_last-append (l ∷ []) (p ∷ ps) h = refl
all_but_last-append (l ∷ m ∷ ls) ps h = ap (λ qs. l ∷ qs) (all_but_last-append (m ∷ ls) ps h)

last_of-append : (ls ps : List (List ℕ)) → 0 < length ps → last_of (ls ++ ps) ≡ last_of ps
last_of-append [] ps h = refl
last_of-append (l ∷ []) [] h = absurd (omega arith)
last_of-append (l ∷ []) (p ∷ ps) h = refl
last_of-append (l ∷ m ∷ ls) ps h = last_of-append (m ∷ ls) ps h

some_line : (rest : List ℕ) → 0 < length (lines_of rest)
some_line rest = omega (arith, length-slice_split is_line_end rest)

pub said_from-append : (max n : ℕ) (xs ys : List (List ℕ)) → said_from max n (xs ++ ys) ≡ said_from max n xs ++ said_from max (n + length xs) ys
said_from-append max n [] ys = ap (λ m. said_from max m ys) (omega arith)
said_from-append max n (x ∷ xs) ys =
    ap (λ ss. said_by max n true x ++ ss) (said_from-append max (n + 1) xs ys ∙ ap (λ m. said_from max (n + 1) xs ++ said_from max m ys) (omega arith))
    ∙ sym (append_assoc (said_by max n true x) (said_from max (n + 1) xs) (said_from max (n + length (x ∷ xs)) ys))

pub cut-joined : (ls : List (List ℕ)) (rest : List ℕ) → AllByRecursion HasNoLineEnd ls → all_but_last (lines_of (text_of_lines ls ++ rest)) ≡ ls ++ all_but_last (lines_of rest)
cut-joined ls rest h = ap all_but_last (lines_of-joined ls rest h) ∙ all_but_last-append ls (lines_of rest) (some_line rest)

-- the whole lines of a text say what the first ones say, and then the others
pub whole-joined : (max n : ℕ) (ls : List (List ℕ)) (rest : List ℕ) → AllByRecursion HasNoLineEnd ls
    → whole_said_from max n (text_of_lines ls ++ rest) ≡ said_from max n ls ++ whole_said_from max (n + length ls) rest
whole-joined max n ls rest h = ap (said_from max n) (cut-joined ls rest h) ∙ said_from-append max n ls (all_but_last (lines_of rest))

pub all-joined : (max n : ℕ) (ls : List (List ℕ)) (rest : List ℕ) → AllByRecursion HasNoLineEnd ls
    → all_said_from max n (text_of_lines ls ++ rest) ≡ said_from max n ls ++ all_said_from max (n + length ls) rest
all-joined max n ls rest h =
    let last : List ℕ = last_of (lines_of rest) in
    let count : n + length (all_but_last (lines_of (text_of_lines ls ++ rest))) ≡ n + length ls + length (all_but_last (lines_of rest)) =
    omega (arith, ap length (cut-joined ls rest h), length-append ls (all_but_last (lines_of rest))) in
    let same : last_of (lines_of (text_of_lines ls ++ rest)) ≡ last = ap last_of (lines_of-joined ls rest h) ∙ last_of-append ls (lines_of rest) (some_line rest) in
    ap (λ ss. ss ++ said_by max (n + length (all_but_last (lines_of (text_of_lines ls ++ rest)))) false (last_of (lines_of (text_of_lines ls ++ rest)))) (whole-joined max n ls rest h)
    ∙ ap (λ m. said_from max n ls ++ whole_said_from max (n + length ls) rest ++ said_by max m false (last_of (lines_of (text_of_lines ls ++ rest)))) count
    ∙ ap (λ l. said_from max n ls ++ whole_said_from max (n + length ls) rest ++ said_by max (n + length ls + length (all_but_last (lines_of rest))) false l) same
    ∙ append_assoc (said_from max n ls) _ _

-- where no line feed comes
pub cut-none : (rest : List ℕ) → HasNoLineEnd rest → lines_of rest ≡ rest ∷ []
cut-none rest h = slice_split_none is_line_end rest h

pub whole-none : (max n : ℕ) (rest : List ℕ) → HasNoLineEnd rest → whole_said_from max n rest ≡ []
whole-none max n rest h = ap (λ ls. said_from max n (all_but_last ls)) (cut-none rest h)

pub all-none : (max n : ℕ) (rest : List ℕ) → HasNoLineEnd rest → all_said_from max n rest ≡ said_by max n false rest
all-none max n rest h =
    ap (λ ls. said_from max n (all_but_last ls) ++ said_by max (n + length (all_but_last ls)) false (last_of ls)) (cut-none rest h)
    ∙ ap (λ m. said_by max m false rest) (omega arith)

-- the element behind a list
pub get-behind : {X : Type 0} (xs ys : List X) → slice_get (xs ++ ys) (length xs) ≡ slice_get ys 0
get-behind [] ys = refl
get-behind (x ∷ xs) ys = get-behind xs ys

-- what a line says, by what was read of it
abbrev pub said_for : ℕ → Result (Option Line) LineFaultKind → List Said
said_for number (Ok None) = []
said_for number (Ok (Some line)) = record { line = number; says = Ok line } ∷ []
said_for number (Err kind) = record { line = number; says = Err kind } ∷ []

for_read : (number : ℕ) (read : Result Line LineFaultKind) → record { line = number; says = read } ∷ [] ≡ said_for number (with_read Some read)
for_read number (Ok line) = refl
for_read number (Err kind) = refl

by_silence : (b : Bool) (number : ℕ) (read : Result Line LineFaultKind) → cond b [] (record { line = number; says = read } ∷ []) ≡ said_for number (cond b (Ok None) (with_read Some read))
by_silence true number read = refl
by_silence false number read = for_read number read

pub said-spoken : (max n : ℕ) (ended : Bool) (line : List ℕ) → said_by max n ended line ≡ said_for (line_number n) (line_said max ended (tokens_of line))
said-spoken max n ended line = by_silence (is_silent (tokens_of line)) (line_number n) (line_of max ended (tokens_of line))
