-- What the parts of the line reader give.
use Rattle.std.specs.Prelude.{◌≡◌, ℕ, Bool, false, IsOk, List, [], ◌∷◌, ◌++◌, map, Option, Some, None, Result, Ok, Err, ℤ, MatchOption, MatchResult, if◌then◌else◌}
use Rattle.std.specs.Borrow.{Bor}
use Rattle.lj_text.specs.declared.lines.fault.LineFaultKind.{LineFaultKind}
use Rattle.lj_text.specs.declared.lines.fault.LineFaultKind.TheVariants.{BadNumber, NumberRange, Syntax, Truncated, NoMemory}
use Rattle.lj_clause.specs.Rat.{HintGroup}
use Rattle.lj_text.specs.Bytes.{number_of, tokens_of, is_silent}
use Rattle.lj_text.specs.Lines.{with_read, numbers_of, hints_of, line_of}
use Rattle.lj_text.specs.declared.line.Line.{Line}
use Rattle.lj_text.specs.LinesRead.{is_line_no_memory}

-- the tokens of a line as numbers, where they are
abbrev pub token_numbers : List ℕ → List (Option ℤ)
token_numbers bytes = map number_of (tokens_of bytes)

-- the fault is what the grammar tells, unless memory ran out
abbrev pub IsLineTold : {Y : Type 0} → LineFaultKind → Result Y LineFaultKind → Type 0
IsLineTold (NoMemory _) read = Unit {0}
IsLineTold BadNumber read = read ≡ Err BadNumber
IsLineTold NumberRange read = read ≡ Err NumberRange
IsLineTold Syntax read = read ≡ Err Syntax
IsLineTold Truncated read = read ≡ Err Truncated

-- whether what is read is right, or its fault
abbrev pub Judges : {X Y : Type 0} → Result X LineFaultKind → Result Y LineFaultKind → Type 0
Judges (Ok x) read = IsOk read
Judges (Err kind) read = (read ≡ Err kind) × (is_line_no_memory kind ≡ false)

-- what a function returned, seen by view, is what the grammar reads
abbrev pub Gives : {X Y : Type 0} → (X → Y) → Result X LineFaultKind → Result Y LineFaultKind
    → Type 0
Gives view (Ok x) read = read ≡ Ok (view x)
Gives view (Err kind) read = IsLineTold kind read

-- What was read before, and what is still read, of numbers,
abbrev pub behind_numbers : List ℕ → Result (List ℕ) LineFaultKind → Result (List ℕ) LineFaultKind
behind_numbers front read = with_read (λ ns. front ++ ns) read

-- of literals,
abbrev pub behind_literals : List ℤ → Result (List ℤ × List (Option ℤ)) LineFaultKind
    → Result (List ℤ × List (Option ℤ)) LineFaultKind
behind_literals front read = with_read (λ r. (front ++ r.0, r.1)) read

-- of hints,
abbrev pub behind_hints : List ℕ → Result (List ℕ × List HintGroup) LineFaultKind
    → Result (List ℕ × List HintGroup) LineFaultKind
behind_hints front read = with_read (λ r. (front ++ r.0, r.1)) read

-- and of groups
abbrev pub behind_groups : List HintGroup → Result (List HintGroup) LineFaultKind
    → Result (List HintGroup) LineFaultKind
behind_groups front read = with_read (λ gs. front ++ gs) read

-- Numbers were read on, from some bytes to others: as hints, and as numbers of a deletion.
pub record IsReadOn (old : List ℕ) (bytes : List ℕ) (new : List ℕ) (rest : List ℕ) : Type 0 where
  pub hints : (ended : Bool) → behind_hints new (hints_of ended (token_numbers rest))
      ≡ behind_hints old (hints_of ended (token_numbers bytes))
  pub numbers : (ended : Bool) → behind_numbers new (numbers_of ended (token_numbers rest))
      ≡ behind_numbers old (numbers_of ended (token_numbers bytes))

-- hints and groups behind a candidate are its group and the others
abbrev pub group_before : ℕ → List ℕ × List HintGroup → List HintGroup
group_before candidate read = record { candidate = candidate; hints = read.0 } ∷ read.1

-- the hints up to the closing 0, or up to a candidate, which is followed by its own hints and the other groups
abbrev pub HintsGive : Bool → List ℕ → Result (Option (ℕ × Bor (List ℕ))) LineFaultKind
    → Result (List ℕ × List HintGroup) LineFaultKind → Type 0
HintsGive ended hints result read = MatchResult result
    (λ found. MatchOption found (read ≡ Ok (hints, [])) (λ next. read
    ≡ with_read (λ r. (hints, group_before next.0 r)) (hints_of ended (token_numbers next.1.now))))
    (λ kind. IsLineTold kind read)

-- what a line says: nothing, a line or its fault
abbrev pub line_said : ℕ → Bool → List (List ℕ) → Result (Option Line) LineFaultKind
line_said max ended tokens = if is_silent tokens then Ok None
    else with_read Some (line_of max ended tokens)
