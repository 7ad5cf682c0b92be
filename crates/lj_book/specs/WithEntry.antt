-- The answer of a commit that tells more than its reply.
use Rattle.std.specs.Prelude.{Result, Ok, Err}
use Rattle.lj_hint.specs.Receipt.{ReceiptValue}
use Rattle.lj_book.specs.declared.refusal.Refusal.{Refusal}

-- the answer without the receipt that a refusal gives back
abbrev pub without_receipt : {A : Type 0} → Result A (Refusal × ReceiptValue) → Result A Refusal
without_receipt (Ok told) = Ok told
without_receipt (Err e) = Err e.0
