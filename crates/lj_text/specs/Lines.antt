-- The grammar of a stream's lines, over a line's tokens. Source: LRAT, Cruz-Filipe et al., Efficient Certified RAT
-- Verification (CADE 2017); imports and the faults are own.
--
--   addition: n literals 0 hints groups 0
--   deletion: m d numbers 0
--   import:   n i literals 0
use Rattle.std.specs.Prelude.{ℕ, zero, suc, ◌+◌, Bool, true, false, ◌==◌, nat_le, List, [], ◌∷◌, ◌++◌, length, map, Option, None, Some, Result, Ok, Err, ℤ, pos, negsuc, unsigned_abs, if◌then◌else◌}
use Rattle.std.specs.Str.{byte}
use Rattle.lj_text.specs.declared.lines.fault.LineFaultKind.{LineFaultKind}
use Rattle.lj_text.specs.declared.lines.fault.LineFaultKind.TheVariants.{BadNumber, NumberRange, Syntax, Truncated}
use Rattle.lj_text.specs.declared.line.Line.{Line}
use Rattle.lj_text.specs.declared.line.Line.TheVariants.{Add, Delete, Import}
use Rattle.lj_clause.specs.Rat.{HintGroup}
use Rattle.lj_clause.specs.LiteralSet.{from_literals}
use Rattle.lj_clause.specs.Lemma.{lemma_of}
use Rattle.lj_text.specs.Bytes.{number_of, tokens_of, lines_of, line_number, is_silent}

-- the greatest number of a clause
abbrev pub greatest : ℕ
greatest = 9223372036854775807

-- with what was read, and the fault alone where there is one
abbrev pub with_read : {A B E : Type 0} → (A → B) → Result A E → Result B E
with_read f (Ok x) = Ok (f x)
with_read f (Err kind) = Err kind

-- what is read of the rest, where a first part is right, or the fault of that part
abbrev pub then_read : {A B E : Type 0} → Result A E → (A → Result B E) → Result B E
then_read (Ok x) f = f x
then_read (Err kind) f = Err kind

-- a line that ends before its closing 0, by a line feed or with the input
abbrev pub cut_short : Bool → LineFaultKind
cut_short true = Syntax
cut_short false = Truncated

-- a token where none like it may stand, and the limit of numbers there
abbrev pub number_fault : ℕ → Option ℤ → LineFaultKind
number_fault limit None = BadNumber
number_fault limit (Some n) = if nat_le (unsigned_abs n) limit then Syntax else NumberRange

-- Below, a line is read by its tokens as numbers, and `ended` says that a line feed ends it.

-- nothing follows the closing 0
abbrev pub if_closed : {A : Type 0} → A → List (Option ℤ) → Result A LineFaultKind
if_closed read [] = Ok read
if_closed read (None ∷ rest) = Err BadNumber
if_closed read (Some n ∷ rest) = Err Syntax

-- literals up to a 0, and what follows it
abbrev pub literals_then : ℕ → Bool → List (Option ℤ)
    → Result (List ℤ × List (Option ℤ)) LineFaultKind
literals_then max ended [] = Err (cut_short ended)
literals_then max ended (None ∷ rest) = Err BadNumber
literals_then max ended (Some n ∷ rest) =
    if unsigned_abs n == 0 then Ok ([], rest)
    else if nat_le (unsigned_abs n) max then
    with_read (λ r. (n ∷ r.0, r.1)) (literals_then max ended rest)
    else Err NumberRange

-- numbers up to the closing 0
abbrev pub numbers_of : Bool → List (Option ℤ) → Result (List ℕ) LineFaultKind
numbers_of ended [] = Err (cut_short ended)
numbers_of ended (None ∷ rest) = Err BadNumber
numbers_of ended (Some (pos zero) ∷ rest) = if_closed [] rest
numbers_of ended (Some (pos (suc n)) ∷ rest) = if nat_le (suc n) greatest then
    with_read (λ ns. suc n ∷ ns) (numbers_of ended rest) else Err NumberRange
numbers_of ended (Some (negsuc n) ∷ rest) = Err (number_fault greatest (Some (negsuc n)))

-- hints and groups up to the closing 0: a number is a hint before those that follow, and -k the candidate k of the hints that follow
abbrev pub hints_of : Bool → List (Option ℤ) → Result (List ℕ × List HintGroup) LineFaultKind
hints_of ended [] = Err (cut_short ended)
hints_of ended (None ∷ rest) = Err BadNumber
hints_of ended (Some (pos zero) ∷ rest) = if_closed ([], []) rest
hints_of ended (Some (pos (suc n)) ∷ rest) = if nat_le (suc n) greatest then
    with_read (λ r. (suc n ∷ r.0, r.1)) (hints_of ended rest) else Err NumberRange
hints_of ended (Some (negsuc n) ∷ rest) = if nat_le (suc n) greatest then
    with_read (λ r. ([], record { candidate = suc n; hints = r.0 } ∷ r.1)) (hints_of ended rest)
    else Err NumberRange

-- the addition under this number that the words behind it spell
abbrev pub addition_of : ℕ → Bool → ℕ → List (Option ℤ) → Result Line LineFaultKind
addition_of max ended n values = then_read (literals_then max ended values) (λ r. with_read
    (λ h. Add (record { number = n; lemma = lemma_of r.0; hints = h.0; groups = h.1 }))
    (hints_of ended r.1))

-- the deletion that the words behind the `d` spell
abbrev pub deletion_of : Bool → List (Option ℤ) → Result Line LineFaultKind
deletion_of ended values = with_read (λ ns. Delete ns) (numbers_of ended values)

-- the import under this number that the words behind the `i` spell
abbrev pub import_of : ℕ → Bool → ℕ → List (Option ℤ) → Result Line LineFaultKind
import_of max ended n values = then_read (literals_then max ended values)
    (λ r. with_read (λ ls. Import n (from_literals ls)) (if_closed r.0 r.1))

-- the token is this one letter
abbrev pub is_letter : ℕ → List ℕ → Bool
is_letter letter [] = false
is_letter letter (b ∷ []) = b == letter
is_letter letter (b ∷ c ∷ bs) = false

-- only a deletion begins with 0
abbrev pub after_zero : ℕ → List ℕ → LineFaultKind
after_zero max token = if is_letter (byte "i") token then Syntax
    else number_fault max (number_of token)

-- what follows a line's first number: `d`, `i` or the first literal's place
abbrev pub after_number : ℕ → Bool → ℕ → List (List ℕ) → Result Line LineFaultKind
after_number max ended n [] = Err (cut_short ended)
after_number max ended n (token ∷ tokens) =
    if is_letter (byte "d") token then deletion_of ended (map number_of tokens)
    else if n == 0 then Err (after_zero max token)
    else if is_letter (byte "i") token then import_of max ended n (map number_of tokens)
    else addition_of max ended n (map number_of (token ∷ tokens))

-- what a line spells whose first token is this number, if it is one
abbrev pub after_first : ℕ → Bool → Option ℤ → List (List ℕ) → Result Line LineFaultKind
after_first max ended None tokens = Err BadNumber
after_first max ended (Some (pos n)) tokens = if nat_le n greatest then
    after_number max ended n tokens else Err NumberRange
after_first max ended (Some (negsuc n)) tokens = Err (number_fault greatest (Some (negsuc n)))

-- the line that tokens spell, or the fault of the first token such that those up to it begin no line
abbrev pub line_of : ℕ → Bool → List (List ℕ) → Result Line LineFaultKind
line_of max ended [] = Err (cut_short ended)
line_of max ended (token ∷ tokens) = after_first max ended (number_of token) tokens

-- A line that isn't silent: its number, and what it spells or its fault.
pub record Said : Type 0 where
  pub line : ℕ
  pub says : Result Line LineFaultKind

-- what a line says that stands after n others
abbrev pub said_by : ℕ → ℕ → Bool → List ℕ → List Said
said_by max n ended line = if is_silent (tokens_of line) then []
    else record { line = line_number n; says = line_of max ended (tokens_of line) } ∷ []

-- what lines say that line feeds end, after n others
abbrev pub said_from : ℕ → ℕ → List (List ℕ) → List Said
said_from max n [] = []
said_from max n (line ∷ lines) = said_by max n true line ++ said_from max (n + 1) lines

-- the lines that line feeds end, and the one that none ends
abbrev pub all_but_last : List (List ℕ) → List (List ℕ)
all_but_last [] = []
all_but_last (line ∷ []) = []
all_but_last (line ∷ next ∷ lines) = line ∷ all_but_last (next ∷ lines)

-- the last of the lines, empty where there is none
abbrev pub last_of : List (List ℕ) → List ℕ
last_of [] = []
last_of (line ∷ []) = line
last_of (line ∷ next ∷ lines) = last_of (next ∷ lines)

-- what the whole lines of a text say, in order, where n lines stand before it
abbrev pub whole_said_from : ℕ → ℕ → List ℕ → List Said
whole_said_from max n text = said_from max n (all_but_last (lines_of text))

-- the same with a last line that the input ends
abbrev pub all_said_from : ℕ → ℕ → List ℕ → List Said
all_said_from max n text = whole_said_from max n text
    ++ said_by max (n + length (all_but_last (lines_of text))) false (last_of (lines_of text))

-- what the whole lines of a text say
abbrev pub whole_said : ℕ → List ℕ → List Said
whole_said max text = whole_said_from max 0 text

-- what all lines of an input say
abbrev pub all_said : ℕ → List ℕ → List Said
all_said max text = all_said_from max 0 text
