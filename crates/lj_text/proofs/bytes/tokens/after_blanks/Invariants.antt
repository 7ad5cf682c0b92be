use Rattle.std.proofs.Common.{◌≡◌, ◌≤◌, length}
use Rattle.lj_text.specs.Bytes.{tokens_of}
use Rattle.lj_text.proofs.bytes.tokens.after_blanks.Given as goal

abbrev pub invariant-loop-rest : goal.invariant-loop-rest
invariant-loop-rest l = (tokens_of l.rest ≡ tokens_of l.bytes) × (length l.rest ≤ length l.bytes)

abbrev pub decreases-loop-rest : goal.decreases-loop-rest
decreases-loop-rest l = length l.rest
