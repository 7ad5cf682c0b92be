-- Lists of pairs as far as a loop has come.
use Rattle.std.specs.Prelude.{List, ◌++◌, Result, Ok, Err}
use Rattle.lj_book.specs.declared.refusal.Refusal.{Refusal}

-- the reply with these in front
abbrev pub with_front : {A : Type 0} → List A → Result (List A) Refusal → Result (List A) Refusal
with_front front (Ok later) = Ok (front ++ later)
with_front front (Err e) = Err e
