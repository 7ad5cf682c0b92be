-- What entering lines makes of a seat.
use Rattle.std.specs.Prelude.{◌≡◌, List, [], ◌∷◌, None}
use Rattle.lj_share.specs.declared.numbered.Numbered.{Numbered}
use Rattle.lj_share.specs.Entries.{call_of}
use Rattle.lj_share.specs.Refusals.{line_refusal}
use Rattle.lj_share.specs.Seats.{SeatValue, IsMaking}

-- The seat after the line was entered. What it saw before decides no refusal of it.
pub record IsEntering (l : Numbered) (before after : SeatValue) : Type 0 where
  pub made : IsMaking (call_of l.line) before after
  pub free : line_refusal before l.line ≡ None

-- The seat after these lines were entered, one after the other.
abbrev pub AreEntered : SeatValue → List Numbered → SeatValue → Type 0
AreEntered before [] after = after ≡ before
AreEntered before (l ∷ ls) after = (mid : SeatValue)
    × (IsEntering l before mid × AreEntered mid ls after)
