use Rattle.std.proofs.Common.{◌≤◌, ap, refl, sym, ◌∙◌, subst, length}
use Rattle.std.specs.Prelude.{◌==◌, if◌then◌else◌, Some}
use Rattle.lj_hint.specs.inner.Stamps.{Stamped, stamp_at}
use Rattle.lj_hint.proofs.StampLaws.{sparse_set}
use Rattle.lj_hint.proofs.stamps.Stamps.set_sparse.Goals as goal

pub returns-clause-ok : goal.returns-clause-ok
returns-clause-ok c = λ q.
    sparse_set (c.self.inside.dense.items, c.self.inside.sparse.entries) (c.self.inside.dense.items, c.insert.new.self.entries) c.args.index (Some c.args.stamp) refl
    (subst (λ (s : Stamped). length s.0 ≤ c.args.index) (sym c.self.view_is) c.requires) c.in_ok-insert.ensures.updates.0 q
    ∙ ap (λ (s : Stamped). if q == c.args.index then c.args.stamp else stamp_at s q) c.self.view_is
