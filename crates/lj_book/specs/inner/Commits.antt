-- What the commit of a receipt looks at and enters in the book in joint variables.
use Rattle.std.specs.Prelude.{ℕ, List, [], ◌∷◌, Option, Some, None, if◌then◌else◌}
use Rattle.lj_clause.specs.ClauseMap.{ClauseMap}
use Rattle.lj_text.specs.declared.step.Step.TheVariants as steps
use Rattle.lj_hint.specs.declared.pair.Pair.{Pair}
use Rattle.lj_hint.specs.Hints.{numbers}
use Rattle.lj_hint.specs.Receipt.{ReceiptValue}
use Rattle.lj_book.specs.declared.entry.Call.TheVariants as calls
use Rattle.lj_book.specs.declared.entry.Entry.{Entry}
use Rattle.lj_book.specs.State.{State, next}
use Rattle.lj_book.specs.Calls.{is_live_as}

-- the number of the first pair whose number doesn't live with that very clause
abbrev pub first_stale : ClauseMap → List Pair → Option ℕ
first_stale p [] = None
first_stale p (pair ∷ pairs) = if is_live_as p pair then first_stale p pairs else Some pair.joint

-- the entry of a lemma that enters under this number, with the listed numbers as hints and no groups
abbrev pub entry_with : ℕ → ReceiptValue → Entry
entry_with number r = record {
  seat = r.seat;
  call = calls.Add r.own r.lemma;
  step = Some (steps.Add (record
      { number = number; lemma = r.lemma; hints = numbers r.listed; groups = [] }));
}

-- a lemma that enters takes the next number
abbrev pub commit_entry : State → ReceiptValue → Entry
commit_entry s r = entry_with (next s) r
