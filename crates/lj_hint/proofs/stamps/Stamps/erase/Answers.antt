use Rattle.std.proofs.Common.{ap, refl, ◌∙◌, arith}
use Rattle.std.specs.Prelude.{◌==◌, if◌then◌else◌, None}
use Rattle.lj_hint.specs.inner.Stamps.{Stamped, stamp_at}
use Rattle.lj_hint.proofs.StampLaws.{dense_set, sparse_set}
use Rattle.lj_hint.proofs.stamps.Stamps.erase.Goals as goal

pub returns-then-index-len : goal.returns-then-index-len
returns-then-index-len c = λ q.
    dense_set (c.self.inside.dense.items, c.self.inside.sparse.entries) c.args.index 0 (omega arith) q
    ∙ ap (λ (s : Stamped). if q == c.args.index then 0 else stamp_at s q) c.self.view_is

pub returns-else-index-len : goal.returns-else-index-len
returns-else-index-len c = λ q.
    sparse_set (c.self.inside.dense.items, c.self.inside.sparse.entries) (c.self.inside.dense.items, c.remove.new.self.entries) c.args.index None refl (omega arith) c.remove.ensures.updates.0 q
    ∙ ap (λ (s : Stamped). if q == c.args.index then 0 else stamp_at s q) c.self.view_is
