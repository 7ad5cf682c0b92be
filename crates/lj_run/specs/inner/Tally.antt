-- What is counted of a stream.
use Rattle.std.specs.Prelude.{ℕ, ◌+◌, List, [], ◌∷◌, Option}
use Rattle.lj_text.specs.declared.line.Line as line
use Rattle.lj_text.specs.declared.line.Line.TheVariants as lines
use Rattle.lj_run.specs.declared.stream.Tally.{Tally}
use Rattle.lj_share.specs.declared.numbered.Numbered.{Numbered}
use Rattle.lj_run.specs.declared.reading.Miss.{Miss}
use Rattle.lj_run.specs.declared.reading.Miss.TheVariants.{Failed, AtFault}
use Rattle.lj_run.specs.declared.outcome.End.{End}
use Rattle.lj_run.specs.declared.outcome.End.TheVariants.{Line}
use Rattle.lj_run.specs.declared.outcome.LineEnd.TheVariants.{Fault, ReadFailed}

-- the tally with one line more
abbrev pub with_count : Tally → line.Line → Tally
with_count tally (lines.Add a) = record tally { added = tally.added + 1 }
with_count tally (lines.Delete numbers) = record tally { deleted = tally.deleted + 1 }
with_count tally (lines.Import number clause) = record tally { imported = tally.imported + 1 }

-- the tally with these lines more
abbrev pub with_lines : Tally → List Numbered → Tally
with_lines tally [] = tally
with_lines tally (one ∷ more) = with_lines (with_count tally one.line) more

-- the tally of a stream that ended so, with the line that was refused, where there is one
abbrev pub with_end : Tally → End → Option line.Line → Tally
with_end tally end refused = record tally { end = end; refused = refused }

-- the end of a stream whose next line is missed, where this line is being read
abbrev pub missed_at : ℕ → Miss → End
missed_at at Failed = Line at ReadFailed
missed_at at (AtFault fault) = Line fault.line (Fault fault.kind)
