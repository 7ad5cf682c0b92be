use Rattle.std.proofs.Common.{ap, ◌∙◌, ◌+◌, ℕ, length}
use Rattle.std.specs.Prelude.{List, ◌∷◌, []}
use Rattle.std.proofs.lemmas.List.{length-append}
use Rattle.lj_book.specs.inner.Holders.{slot_count}
use Rattle.lj_book.proofs.CountLaws.{slot_push}
use Rattle.lj_book.proofs.counts.cover.Goals as goal

pub loop-preserved : goal.loop-preserved
loop-preserved c = (
  λ q. ap (λ (xs : List ℕ). slot_count xs q) c.in_ok-push.ensures.items ∙ slot_push c.loop.slots.items q ∙ c.loop.invariant.0 q,
  ap length c.in_ok-push.ensures.items ∙ length-append c.loop.slots.items (0 ∷ []) ∙ ap (λ n. n + 1) c.loop.invariant.1,
)

pub returns-in_ok-push-clause-same : goal.returns-in_ok-push-clause-same
returns-in_ok-push-clause-same c = λ q.
    ap (λ (xs : List ℕ). slot_count xs q) c.in_ok-push.ensures.items ∙ slot_push c.loop.slots.items q ∙ c.loop.invariant.0 q
