use Rattle.std.proofs.Common.{◌∙◌, sym, arith}
use Rattle.lj_text.proofs.TokenLemmas.{token-found}
use Rattle.std.proofs.lemmas.Bool.Decides.{nat_tests}
use Rattle.lj_text.proofs.bytes.tokens.next_token.Goals as goal

pub returns-clause-some : goal.returns-clause-some
returns-clause-some c =
    let e = c.token_len.ensures in
    rw (c.split_at.ensures.front, c.split_at.ensures.back)
    (sym c.after_blanks-rest.ensures.tokens ∙ token-found c.after_blanks-rest.result.now c.token_len.result c.after_blanks-rest.ensures.front (grind (arith, nat_tests)) e.within e.token e.end)
