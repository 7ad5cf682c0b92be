use Rattle.std.proofs.Common.{ap, sym, ◌∙◌, arith, length}
use Rattle.std.specs.Prelude.{List, ℕ, ◌==◌, slice_index}
use Rattle.lj_hint.specs.inner.Stamps.{Stamped, stamp_at}
use Rattle.lj_hint.proofs.StampLaws.{dense_stamp}
use Rattle.lj_hint.proofs.stamps.LentStamps.is.Goals as goal

pub returns-in-Some : goal.returns-in-Some
returns-in-Some c =
    let read = c.in-Some.ensures.lookup in
    ap (λ n. n == c.args.stamp)
    (read.3.1 0
    ∙ ap (λ (xs : List ℕ). slice_index xs c.args.index) c.self.invariant
    ∙ sym (dense_stamp c.self.inside.stamps.now c.args.index (omega (arith, ap (length {A = ℕ}) c.self.invariant, read.3.0)))
    ∙ ap (λ (s : Stamped). stamp_at s c.args.index) c.self.view_is)
