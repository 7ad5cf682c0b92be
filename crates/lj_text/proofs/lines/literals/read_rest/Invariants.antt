use Rattle.std.proofs.Common.{◌≡◌, length}
use Rattle.lj_text.specs.Lines.{literals_then}
use Rattle.lj_text.specs.inner.LineReading.{token_numbers, behind_literals}
use Rattle.lj_text.proofs.lines.literals.read_rest.Given as goal

abbrev pub invariant-loop-variable : goal.invariant-loop-variable
invariant-loop-variable l = behind_literals l.literals.items (literals_then l.max l.ended (token_numbers l.rest)) ≡ behind_literals l.fn.literals.items (literals_then l.max l.ended (token_numbers l.bytes))

abbrev pub decreases-loop-variable : goal.decreases-loop-variable
decreases-loop-variable l = length l.rest
