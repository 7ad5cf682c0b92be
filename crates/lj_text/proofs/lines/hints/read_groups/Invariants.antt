use Rattle.std.proofs.Common.{◌≡◌, length}
use Rattle.lj_text.specs.Lines.{hints_of, with_read}
use Rattle.lj_text.specs.inner.LineReading.{token_numbers, group_before, behind_groups}
use Rattle.lj_text.proofs.lines.hints.read_groups.Given as goal

abbrev pub invariant-loop-next : goal.invariant-loop-next
invariant-loop-next l = behind_groups l.groups (with_read (group_before l.candidate) (hints_of l.ended (token_numbers l.rest))) ≡ with_read (group_before l.first) (hints_of l.ended (token_numbers l.bytes))

abbrev pub decreases-loop-next : goal.decreases-loop-next
decreases-loop-next l = length l.rest
