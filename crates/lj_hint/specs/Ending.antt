-- How a propagation ended, without what it read and holds.
use Rattle.std.specs.Prelude.{length}
use Rattle.lj_clause.specs.Propagation.{Propagation, Closed, Open, Stuck}
use Rattle.lj_hint.specs.declared.propagate.Ending.{Ending}
use Rattle.lj_hint.specs.declared.propagate.Ending.TheVariants.{ClosedAfter, StaysOpen, StuckAt}

-- closed after so many hints, open, or stuck at a place
abbrev pub ending_of : Propagation → Ending
ending_of (Closed used) = ClosedAfter (length used)
ending_of (Open a) = StaysOpen
ending_of (Stuck position) = StuckAt position
