-- The text of a refusal.
use Rattle.std.specs.Prelude.{ℕ, List, ◌++◌, codes, decimal}
use Rattle.lj_book.specs.declared.refusal.Refusal.{Refusal}
use Rattle.lj_book.specs.declared.refusal.Refusal.TheVariants as refusals

-- a name, and a number in brackets
abbrev pub named_number : List ℕ → ℕ → List ℕ
named_number name number = name ++ (codes "(" ++ (decimal number ++ codes ")"))

-- a refusal's name, with its numbers in decimal where it has any
abbrev pub refusal_text : Refusal → List ℕ
refusal_text refusals.SeatGone = codes "SeatGone"
refusal_text refusals.NumberTaken = codes "NumberTaken"
refusal_text (refusals.UnknownNumber number) = named_number (codes "UnknownNumber") number
refusal_text (refusals.GroupRepeated number) = named_number (codes "GroupRepeated") number
refusal_text (refusals.HintNotUnit place) = named_number (codes "HintNotUnit") place
refusal_text refusals.EmptyOpen = codes "EmptyOpen"
refusal_text (refusals.MissingGroup joint) = named_number (codes "MissingGroup") joint
refusal_text (refusals.GroupStuck joint place) = codes
    "GroupStuck(" ++ (decimal joint ++ (codes ", " ++ (decimal place ++ codes ")")))
refusal_text (refusals.GroupOpen joint) = named_number (codes "GroupOpen") joint
refusal_text (refusals.Stale joint) = named_number (codes "Stale") joint
refusal_text refusals.PrivateVariable = codes "PrivateVariable"
refusal_text refusals.NoSuchClause = codes "NoSuchClause"
refusal_text refusals.Full = codes "Full"
refusal_text refusals.NoVariableLeft = codes "NoVariableLeft"
refusal_text (refusals.NoMemory _) = codes "NoMemory"
