use Rattle.std.proofs.Common.{◌≡◌, ap, sym, ◌∙◌, ◌+◌, ◌-◌, ℕ, suc, arith}
use Rattle.lj_book.specs.inner.Encoding.{number_in, many_in}
use Rattle.lj_book.proofs.encoding.reading.behind_list.Goals as goal

pub loop-preserved : goal.loop-preserved
loop-preserved c =
    let n : ℕ = c.number-count.result.0 - (c.loop.counter + 1) in
    let left : c.number-count.result.0 - c.loop.counter ≡ suc n = omega (arith, c.loop-test.true) in
    ap (λ ws. (many_in number_in n ws).1) c.number.ensures.rest
    ∙ ap (λ k. (many_in number_in k c.loop.rest.now).1) (sym left)
    ∙ c.loop.invariant
