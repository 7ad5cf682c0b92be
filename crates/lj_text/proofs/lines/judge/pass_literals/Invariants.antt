use Rattle.std.proofs.Common.{length}
use Rattle.lj_text.specs.Lines.{literals_then}
use Rattle.lj_text.specs.inner.LineReading.{token_numbers}
use Rattle.lj_text.proofs.JudgeLemmas.{LiteralsFollow}
use Rattle.lj_text.proofs.lines.judge.pass_literals.Given as goal

abbrev pub invariant-loop-token_number : goal.invariant-loop-token_number
invariant-loop-token_number l = LiteralsFollow (literals_then l.max l.ended (token_numbers l.bytes)) (literals_then l.max l.ended (token_numbers l.rest))

abbrev pub decreases-loop-token_number : goal.decreases-loop-token_number
decreases-loop-token_number l = length l.rest
