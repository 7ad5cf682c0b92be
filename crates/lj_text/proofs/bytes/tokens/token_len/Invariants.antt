use Rattle.std.proofs.Common.{◌≡◌, false, take}
use Rattle.std.specs.List.{All}
use Rattle.lj_text.specs.Bytes.{is_blank}
use Rattle.lj_text.proofs.bytes.tokens.token_len.Given as goal

abbrev pub invariant-loop-i : goal.invariant-loop-i
invariant-loop-i l = All (λ b. is_blank b ≡ false) (take l.i l.bytes)
