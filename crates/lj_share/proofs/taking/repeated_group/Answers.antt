use Rattle.std.proofs.Common.{ap, sym, ◌∙◌}
use Rattle.std.specs.Prelude.{[], ◌∷◌}
use Rattle.lj_clause.specs.Rat.{HintGroup}
use Rattle.lj_book.specs.Calls.{repeated_after}
use Rattle.lj_book.proofs.TakeLaws.{repeated-new, seen-none, seen-more}
use Rattle.lj_share.specs.inner.Seats.{joint_by, own_pair}
use Rattle.lj_share.proofs.taking.repeated_group.Goals as goal

pub loop-group-init : goal.loop-group-init
loop-group-init c = ([], seen-none c.new-seen.result c.new-seen.ensures, ap (repeated_after (joint_by (own_pair c.args.formula.now c.args.own.now)) []) (c.into_iter-group-iterator.ensures.into_iter_gives ∙ c.iter-group-items.ensures))

pub loop-group-preserved-in-Continue-branch-3 : goal.loop-group-preserved-in-Continue-branch-3
loop-group-preserved-in-Continue-branch-3 c =
    let joint = joint_by (own_pair c.args.formula.now c.args.own.now) in
    let before = c.loop-group.invariant.0 in
    let has = c.loop-group.invariant.1 in
    let same = c.loop-group.invariant.2 in
    let j = c.in-Some-2.joint in
    let at = ap (λ (h : HintGroup). joint h.candidate) (sym c.group.view_is) ∙ sym c.in_ok-joint.ensures ∙ c.in-Some-2.is in (
      j ∷ before,
      seen-more c.loop-group.seen c.insert.new.self before j has c.in_ok-insert.ensures.ok,
      repeated-new joint before c.in-Some.group c.next.new.self j at (sym (has j) ∙ sym c.contains_key.ensures ∙ c.if-contains_key.false)
          ∙ ap (repeated_after joint before) (sym c.in-Some.ensures.steps)
          ∙ same,
    )
