use Rattle.std.proofs.Common.{ℕ, ◌≡◌, ◌≤◌, ap, sym, ◌∙◌, subst, length, arith}
use Rattle.std.specs.Prelude.{◌==◌}
use Rattle.std.proofs.lemmas.Bool.Decides.{nat_tests}
use Rattle.lj_hint.specs.inner.Stamps.{Stamped, stamp_at}
use Rattle.lj_hint.proofs.StampLaws.{found_sparse}
use Rattle.lj_hint.proofs.stamps.Stamps.is_sparse.Goals as goal

pub returns-in-Some : goal.returns-in-Some
returns-in-Some c =
    subst (λ (s : Stamped). (c.in-Some.found.now == c.args.stamp) ≡ (stamp_at s c.args.index == c.args.stamp)) c.self.view_is
    (ap (λ n. n == c.args.stamp)
    (found_sparse c.self.inside.dense.items c.self.inside.sparse.entries c.args.index _ (subst (λ (s : Stamped). length s.0 ≤ c.args.index) (sym c.self.view_is) c.requires) c.in-Some.ensures.value))

pub returns-in-None : goal.returns-in-None
returns-in-None c =
    let none = found_sparse c.self.inside.dense.items c.self.inside.sparse.entries c.args.index _ (subst (λ (s : Stamped). length s.0 ≤ c.args.index) (sym c.self.view_is) c.requires) c.in-None.ensures.value in
    subst (λ (s : Stamped). (c.args.stamp == 0) ≡ (stamp_at s c.args.index == c.args.stamp)) c.self.view_is
    (turned c.args.stamp 0 ∙ ap (λ n. n == c.args.stamp) none)
  where
    turned : (a b : ℕ) → (a == b) ≡ (b == a)
    turned a b = grind (arith, nat_tests)
