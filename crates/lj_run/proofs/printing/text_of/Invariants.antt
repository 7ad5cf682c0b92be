use Rattle.std.proofs.Common.{◌≡◌, take, string_bytes}
use Rattle.lj_run.specs.OutcomeText.{stream_lines}
use Rattle.lj_run.proofs.printing.text_of.Given as goal

abbrev pub invariant-loop-seat : goal.invariant-loop-seat
invariant-loop-seat g l = string_bytes l.text ≡ stream_lines 0 (take l.seat-counter l.report-items)
