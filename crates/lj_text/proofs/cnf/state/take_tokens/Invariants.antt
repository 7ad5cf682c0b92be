use Rattle.std.proofs.Common.{◌≡◌, ℕ, List, length, true}
use Rattle.std.specs.Prelude.{◌⊎◌}
use Rattle.lj_text.specs.Bytes.{tokens_of}
use Rattle.lj_text.specs.Cnf.{BodyToken}
use Rattle.lj_text.specs.CnfReading.{formula_after, keeps_first}
use Rattle.lj_text.specs.inner.CnfReading.{body_tokens_behind}
use Rattle.lj_text.proofs.cnf.state.take_tokens.Given as goal

abbrev pub invariant-loop-token : goal.invariant-loop-token
invariant-loop-token l = record {
  reads : (last line : ℕ) (rest : List BodyToken) → formula_after l.fn.body last (body_tokens_behind line (tokens_of l.bytes) rest) ≡ formula_after l.body last (body_tokens_behind line (tokens_of l.left) rest);
  first : ((l.body ≡ l.fn.body) × (tokens_of l.left ≡ tokens_of l.bytes)) ⊎ (keeps_first l.fn.body (tokens_of l.bytes) ≡ true);
}

abbrev pub decreases-loop-token : goal.decreases-loop-token
decreases-loop-token l = length l.left
