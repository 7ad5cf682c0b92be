use Rattle.std.proofs.Common.{◌≡◌, ap, sym, ◌∙◌, ◌+◌, ◌-◌, ℕ, suc, arith, ◌∷◌, [], ◌++◌}
use Rattle.lj_book.specs.inner.Encoding.{number_in, many_in, read_behind}
use Rattle.lj_book.proofs.WordLaws.{one_more_read}
use Rattle.lj_book.proofs.encoding.reading.list.Goals as goal

pub loop-preserved : goal.loop-preserved
loop-preserved c =
    let n : ℕ = c.number-count.result.0 - (c.loop.counter + 1) in
    let left : c.number-count.result.0 - c.loop.counter ≡ suc n = omega (arith, c.loop-test.true) in
    (λ i. read_behind (c.in_ok-push.ensures.ok i) (many_in number_in n (c.number-next.ensures.rest i)))
    ∙ (λ i. read_behind (c.loop.list ++ c.number-next.ensures.number i ∷ []) (many_in number_in n (number_in c.loop.rest.now).1))
    ∙ one_more_read number_in c.loop.list n c.loop.rest.now
    ∙ ap (λ k. read_behind c.loop.list (many_in number_in k c.loop.rest.now)) (sym left)
    ∙ c.loop.invariant
