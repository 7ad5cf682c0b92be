use Rattle.std.proofs.Common.{◌≤◌, refl, subst}
use Rattle.lj_hint.specs.inner.Stamps.{Stamped, stamp_at}
use Rattle.lj_hint.proofs.StampLaws.{none_sparse}
use Rattle.lj_hint.proofs.stamps.Stamps.widen.Goals as goal

pub returns-then-len-self : goal.returns-then-len-self
returns-then-len-self c = λ q.
    let after : Stamped = (c.lengthen.new.stamps.items, c.clear.new.self.entries) in
    subst (λ (s : Stamped). stamp_at after q ≤ stamp_at s q) c.self.view_is
    (none_sparse (c.self.inside.dense.items, c.self.inside.sparse.entries) after c.lengthen.ensures c.clear.ensures.empty q)

pub returns-else-len-self : goal.returns-else-len-self
returns-else-len-self c = λ q.
    let after : Stamped = (c.self.inside.dense.items, c.clear.new.self.entries) in
    subst (λ (s : Stamped). stamp_at after q ≤ stamp_at s q) c.self.view_is
    (none_sparse (c.self.inside.dense.items, c.self.inside.sparse.entries) after (λ p. refl) c.clear.ensures.empty q)
