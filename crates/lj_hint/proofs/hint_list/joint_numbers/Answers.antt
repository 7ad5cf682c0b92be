use Rattle.std.proofs.Common.{◌≡◌, ℕ, zero, suc, ◌<◌, ap, refl, ◌∙◌, get_or, length, arith}
use Rattle.std.specs.Prelude.{List, [], ◌∷◌, ◌++◌}
use Rattle.lj_hint.specs.declared.pair.Pair.{Pair}
use Rattle.lj_hint.specs.Hints.{named_hints}
use Rattle.lj_hint.specs.inner.Hints.{hint_number}
use Rattle.lj_hint.proofs.Propagations.{numbers_more}
use Rattle.lj_hint.proofs.hint_list.joint_numbers.Goals as goal

named_count : (ps : List Pair) → length (named_hints ps) ≡ length ps
named_count [] = refl
named_count (p ∷ ps) = ap suc (named_count ps)

joint_at : (ps : List Pair) (i : ℕ) (p : Pair) → i < length ps → (get_or ps i p).joint ≡ hint_number (named_hints ps) i
joint_at [] i p lt = absurd (omega arith)
joint_at (q ∷ ps) zero p lt = refl
joint_at (q ∷ ps) (suc i) p lt = joint_at ps i p (omega arith)

pub loop-index-preserved : goal.loop-index-preserved
loop-index-preserved c =
    let hints = named_hints c.args.pairs.now in
    let i = c.loop-index.index in
    let joint = joint_at c.args.pairs.now i c.index-pairs-index.result (omega arith) in
    c.in_ok-push.ensures.ok
    ∙ (λ k. c.loop-index.invariant k ++ joint k ∷ [])
    ∙ numbers_more hints i (omega (arith, named_count c.args.pairs.now))
