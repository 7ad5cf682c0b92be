use Rattle.std.proofs.Common.{◌≤◌, length}
use Rattle.lj_text.proofs.WordLemmas.{DigitsRead}
use Rattle.lj_text.proofs.bytes.number_tokens.digits_behind.Given as goal

abbrev pub invariant-loop-rest : goal.invariant-loop-rest
invariant-loop-rest l = record {
  read : DigitsRead l.first l.bytes l.value l.rest;
  left : length l.rest ≤ length l.bytes;
}

abbrev pub decreases-loop-rest : goal.decreases-loop-rest
decreases-loop-rest l = length l.rest
