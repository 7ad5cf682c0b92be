-- The text of an outcome: what is printed of a run.
use Rattle.std.specs.Prelude.{ℕ, ◌+◌, List, [], ◌∷◌, ◌++◌, Bool, true, false, is_some, codes, decimal}
use Rattle.lj_text.specs.FaultNames.{line_fault_name}
use Rattle.lj_book.specs.RefusalText.{refusal_text}
use Rattle.lj_run.specs.declared.outcome.LineEnd.{LineEnd}
use Rattle.lj_run.specs.declared.outcome.LineEnd.TheVariants.{Fault, Refused, ReadFailed}
use Rattle.lj_run.specs.declared.outcome.End.{End}
use Rattle.lj_run.specs.declared.outcome.End.TheVariants.{Ended, Stopped, Line as AtLine}
use Rattle.lj_run.specs.declared.outcome.Report.{Report}
use Rattle.lj_run.specs.declared.outcome.Outcome.{Outcome}

-- the name of why a line wasn't accepted
abbrev pub line_end_text : LineEnd → List ℕ
line_end_text (Fault kind) = line_fault_name kind
line_end_text (Refused refusal) = refusal_text refusal
line_end_text ReadFailed = codes "ReadFailed"

-- the name of a stream's end, with the line's number in decimal where it ended at one
abbrev pub end_text : End → List ℕ
end_text Ended = codes "ended"
end_text Stopped = codes "stopped"
end_text (AtLine n end) = codes "line " ++ (decimal n ++ (codes ": " ++ line_end_text end))

-- the counts of a stream in decimal, and how it ended
abbrev pub report_text : {S : Type 0} → Report S → List ℕ
report_text report = decimal report.added
    ++ (codes " added, " ++ (decimal report.deleted ++ (codes " deleted, "
    ++ (decimal report.imported ++ (codes " imported, " ++ end_text report.end)))))

-- the line of the stream of this number
abbrev pub stream_line : {S : Type 0} → ℕ → Report S → List ℕ
stream_line n report = codes "c stream "
    ++ (decimal n ++ (codes ": " ++ (report_text report ++ codes "\n")))

-- the lines of streams, of which the first has this number
abbrev pub stream_lines : {S : Type 0} → ℕ → List (Report S) → List ℕ
stream_lines n [] = []
stream_lines n (report ∷ reports) = stream_line n report ++ stream_lines (n + 1) reports

-- the line of a verdict
abbrev pub verdict_line : Bool → List ℕ
verdict_line true = codes "s VERIFIED UNSAT\n"
verdict_line false = codes "s NOT VERIFIED\n"

-- a line for each stream in order, and then that of the verdict
abbrev pub outcome_text : {S : Type 0} → Outcome S → List ℕ
outcome_text outcome = stream_lines 0 outcome.reports.items
    ++ verdict_line (is_some outcome.verified)
