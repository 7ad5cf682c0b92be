-- What receipts and imports enter in a book whose seats name variables as they like. The calls speak the seat's variables, and the steps joint ones.
use Rattle.std.specs.Prelude.{ℕ, [], Some}
use Rattle.lj_clause.specs.LiteralSet.{LiteralSet}
use Rattle.lj_clause.specs.Renaming.{Renaming, image, lemma_image}
use Rattle.lj_text.specs.declared.line.Addition.{Addition}
use Rattle.lj_text.specs.declared.step.Step.TheVariants as steps
use Rattle.lj_hint.specs.Hints.{numbers}
use Rattle.lj_hint.specs.Receipt.{ReceiptValue}
use Rattle.lj_book.specs.declared.entry.Call.TheVariants as calls
use Rattle.lj_book.specs.declared.entry.Entry.{Entry}
use Rattle.lj_book.specs.State.{next}
use Rattle.lj_book.specs.Imports.{import_step}
use Rattle.lj_book.specs.Named.{NamedState, names_of, beneath}
use Rattle.lj_book.specs.NamedViews.{names_with}

-- the step of a receipt under a number, with its lemma renamed
abbrev pub receipt_step : Renaming → ℕ → ReceiptValue → Addition
receipt_step m number r = record
    { number = number; lemma = lemma_image m r.lemma; hints = numbers r.listed; groups = [] }

-- the entry of a receipt with this step
abbrev pub receipt_entry : Renaming → ℕ → ReceiptValue → Entry
receipt_entry m number r = record {
  seat = r.seat;
  call = calls.Add r.own r.lemma;
  step = Some (steps.Add (receipt_step m number r));
}

-- the entry of a commit: the step has the lemma in joint variables, with those that are given to it, under the next number
abbrev pub named_commit_entry : NamedState → ReceiptValue → Entry
named_commit_entry s r =
    receipt_entry (names_with s r.seat r.lemma.clause) (next (beneath s)) r

-- the entry of an import: it takes the step that the clause asks for in joint variables
abbrev pub named_import_entry : NamedState → ℕ → ℕ → LiteralSet → Entry
named_import_entry s seat own c = record {
  seat = seat;
  call = calls.Import own c;
  step = import_step (beneath s) (image (names_of s seat) c);
}
