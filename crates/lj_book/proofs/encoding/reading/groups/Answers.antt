use Rattle.std.proofs.Common.{◌≡◌, ap, sym, ◌∙◌, ◌+◌, ◌-◌, ℕ, suc, List, arith, ◌∷◌, [], ◌++◌}
use Rattle.lj_clause.specs.Rat.{HintGroup}
use Rattle.lj_book.specs.inner.Encoding.{hint_group_in, many_in, read_behind}
use Rattle.lj_book.proofs.WordLaws.{one_more_read}
use Rattle.lj_book.proofs.encoding.reading.groups.Goals as goal

pub loop-preserved : goal.loop-preserved
loop-preserved c =
    let n : ℕ = c.number-count.result.0 - (c.loop.counter + 1) in
    let left : c.number-count.result.0 - c.loop.counter ≡ suc n = omega (arith, c.loop-test.true) in
    let made : List ℕ → HintGroup = λ hs. record { candidate = c.next.inside.candidate; hints = hs } in
    let behind : HintGroup → List HintGroup = λ g. c.loop.groups ++ g ∷ [] in
    let pushed : c.push.new.self ≡ behind (hint_group_in c.loop.rest.now).0 =
    c.in_ok-push.ensures.ok
    ∙ ap (λ hs. behind (made hs)) c.iter.ensures
    ∙ ap behind c.next.view_is
    ∙ ap behind c.in_ok-next.ensures.group in
    (λ i. read_behind (pushed i) (many_in hint_group_in n (c.in_ok-next.ensures.rest i)))
    ∙ one_more_read hint_group_in c.loop.groups n c.loop.rest.now
    ∙ ap (λ k. read_behind c.loop.groups (many_in hint_group_in k c.loop.rest.now)) (sym left)
    ∙ c.loop.invariant
