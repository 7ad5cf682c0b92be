use Rattle.std.proofs.Common.{ap, ◌∙◌, ◌+◌, length}
use Rattle.lj_book.specs.inner.Slots.{slot_map}
use Rattle.lj_book.proofs.Slots.{push_empty, length_push}
use Rattle.lj_book.proofs.number_map.cover.Goals as goal

pub loop-preserved : goal.loop-preserved
loop-preserved g c = (ap slot_map c.in_ok-push.ensures.items ∙ push_empty c.loop.slots.items ∙ c.loop.invariant.0, ap length c.in_ok-push.ensures.items ∙ length_push c.loop.slots.items ∙ ap (λ n. n + 1) c.loop.invariant.1)

pub returns-in_ok-push-clause-same : goal.returns-in_ok-push-clause-same
returns-in_ok-push-clause-same g c = ap slot_map c.in_ok-push.ensures.items ∙ push_empty c.loop.slots.items ∙ c.loop.invariant.0
