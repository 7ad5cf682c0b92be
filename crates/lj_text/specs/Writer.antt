-- What a writer of a joint proof is: its sink, and the text that it was given to write.
use Rattle.std.specs.Prelude.{ℕ, Bool, List}

-- A writer of a proof: its sink, and the text that it was given to write.
pub record WriterValue (W : Type 0) : Type 0 where
  -- where the text goes
  pub sink : W
  -- what the sink had taken when the writer was made, and the text of the steps written since
  pub text : List ℕ
  -- the greatest of the number of the formula's last clause and of those of the additions written
  pub greatest : ℕ
  -- a write of the sink failed
  pub failed : Bool
