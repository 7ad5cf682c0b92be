use Rattle.std.proofs.Common.{◌≡◌, ap, ◌∙◌, arith, ◌+◌, length, ℕ, ◌∷◌, [], false}
use Rattle.std.proofs.lemmas.List.{length-append}
use Rattle.lj_book.specs.inner.Opened.{opened_slots}
use Rattle.lj_book.proofs.OpenedLaws.{push_none}
use Rattle.lj_book.proofs.opened.cover.Goals as goal

pub loop-preserved : goal.loop-preserved
loop-preserved c =
    let more : length c.push_reserved.new.self.items ≡ length c.loop.given_up.items + 1 = ap length c.push_reserved.ensures.items ∙ length-append c.loop.given_up.items (false ∷ []) in
    record {
      same = λ n count. ap (λ gone. opened_slots n gone count) c.push_reserved.ensures.items ∙ push_none n c.loop.given_up.items count ∙ c.loop.invariant.same n count;
      len = more ∙ ap (λ (n : ℕ). n + 1) c.loop.invariant.len;
      capacity = omega (arith, c.loop.invariant.capacity, c.push_reserved.ensures.capacity);
    }

pub returns-2-clause-same : goal.returns-2-clause-same
returns-2-clause-same c = λ n count. ap (λ gone. opened_slots n gone count) c.push_reserved.ensures.items ∙ push_none n c.loop.given_up.items count ∙ c.loop.invariant.same n count
