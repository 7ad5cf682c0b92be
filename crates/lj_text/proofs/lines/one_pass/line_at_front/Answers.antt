use Rattle.std.proofs.Common.{◌≡◌, ℕ, ◌∙◌, refl, subst, sym, rules, arith}
use Rattle.std.specs.Prelude.{pos}
use Rattle.std.proofs.lemmas.Option.{IfSome_then}
use Rattle.lj_text.specs.inner.ShortNumbers.{IsTokenAhead}
use Rattle.lj_text.proofs.OnePassLemmas.{addition-said, deletion-said, two-ahead}
use Rattle.lj_text.proofs.lines.one_pass.line_at_front.Goals as goal

pub returns-in-100-clause-read : goal.returns-in-100-clause-read
returns-in-100-clause-read c =
    let n = c.in_ok-number in
    IfSome_then c.deletion_at_front.result c.deletion_at_front.ensures.read
    (λ found read. deletion-said c.args.max n.number c.args.bytes.now n.rest.now _ found.1.now found.0 n.ensures.number (omega (arith, n.ensures.small)) (two-ahead n.rest.now 100 32 c.in-100.len_at_least (search rules) (search rules)) read)

pub returns-in-len1-up-clause-read : goal.returns-in-len1-up-clause-read
returns-in-len1-up-clause-read c =
    let n = c.in_ok-number in
    let k : ℕ = c.from.result in
    let same : k ≡ n.number = c.from.ensures in
    let T : ℕ → Type 0 = λ k. IsTokenAhead c.args.bytes.now (pos k) n.rest.now in
    IfSome_then c.addition_at_front.result c.addition_at_front.ensures.read
    (λ found read. addition-said c.args.max k c.args.bytes.now n.rest.now found.1.now found.0 (subst T (sym same) n.ensures.number) (omega (arith, same, n.ensures.small)) (λ zero. c.if-number-ne0.true (sym same ∙ zero)) (c.if-begins_number.ensures refl) read)
