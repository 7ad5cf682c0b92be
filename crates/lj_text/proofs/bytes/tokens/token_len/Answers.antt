use Rattle.std.proofs.Common.{◌≡◌, false, arith, rules}
use Rattle.std.proofs.lemmas.List.Elements.{All-more}
use Rattle.lj_text.specs.Bytes.{is_blank}
use Rattle.lj_text.proofs.bytes.tokens.token_len.Goals as goal

pub loop-i-preserved : goal.loop-i-preserved
loop-i-preserved c = All-more (λ b. is_blank b ≡ false) c.args.bytes.now c.loop-i.i 0 (omega arith) c.loop-i.invariant (search rules)
