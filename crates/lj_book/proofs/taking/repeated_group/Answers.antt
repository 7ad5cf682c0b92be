use Rattle.std.proofs.Common.{ap, sym, ◌∙◌}
use Rattle.std.specs.Prelude.{[], ◌∷◌}
use Rattle.lj_clause.specs.Rat.{HintGroup}
use Rattle.lj_book.specs.Tables.{joint_of}
use Rattle.lj_book.specs.Calls.{repeated_after}
use Rattle.lj_book.proofs.TakeLaws.{repeated-new, seen-none, seen-more}
use Rattle.lj_book.proofs.taking.repeated_group.Goals as goal

pub loop-group-init : goal.loop-group-init
loop-group-init c = ([], seen-none c.new-seen.result c.new-seen.ensures, ap (repeated_after (joint_of c.args.tables.now c.args.seat) []) (c.into_iter-group-iterator.ensures.into_iter_gives ∙ c.iter-group-items.ensures))

pub loop-group-preserved-in-Continue-1 : goal.loop-group-preserved-in-Continue-1
loop-group-preserved-in-Continue-1 c =
    let joint = joint_of c.args.tables.now c.args.seat in
    let before = c.loop-group.invariant.0 in
    let has = c.loop-group.invariant.1 in
    let same = c.loop-group.invariant.2 in
    let j = c.in-Some-joint.joint in
    let at = ap (λ (h : HintGroup). joint h.candidate) (sym c.group.view_is) ∙ sym c.joint.ensures ∙ c.in-Some-joint.is in (
      j ∷ before,
      seen-more c.loop-group.seen c.insert.new.self before j has c.in_ok-insert.ensures.ok,
      repeated-new joint before c.in-Some.group c.next.new.self j at (sym (has j) ∙ sym c.contains_key.ensures ∙ c.if-contains_key.false)
          ∙ ap (repeated_after joint before) (sym c.in-Some.ensures.steps)
          ∙ same,
    )
