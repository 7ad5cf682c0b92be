use Rattle.std.proofs.Common.{ap, ◌∙◌, arith}
use Rattle.std.specs.Prelude.{◌==◌, if◌then◌else◌}
use Rattle.lj_hint.specs.inner.Stamps.{Stamped, stamp_at}
use Rattle.lj_hint.proofs.StampLaws.{dense_set}
use Rattle.lj_hint.proofs.stamps.Stamps.set.Goals as goal

pub returns-then-index-len-clause-ok : goal.returns-then-index-len-clause-ok
returns-then-index-len-clause-ok c = λ q.
    dense_set (c.self.inside.dense.items, c.self.inside.sparse.entries) c.args.index c.args.stamp (omega arith) q
    ∙ ap (λ (s : Stamped). if q == c.args.index then c.args.stamp else stamp_at s q) c.self.view_is
