use Rattle.std.proofs.Common.{length, subst, sym, ◌<◌, arith}
use Rattle.std.specs.Prelude.{List, drop, slice_index_or, ◌+◌}
use Rattle.std.proofs.lemmas.Option.{slice_get-get_or}
use Rattle.lj_book.specs.Solo.{View}
use Rattle.lj_share.specs.declared.numbered.Numbered.{Numbered}
use Rattle.lj_share.specs.inner.Runs.{IsAheadOf, views_behind}
use Rattle.lj_share.proofs.RunLaws.{drop_next, finish_first, view_next}
use Rattle.lj_share.proofs.runs.finish_run.Goals as goal

pub loop-k-preserved : goal.loop-k-preserved
loop-k-preserved c f view are =
    let run = c.args.run.now in
    let joints = c.args.joints.now in
    let k = c.loop-k.k in
    let below = c.loop-k-test.true in
    let in_run : k < length run = let a = c.requires.run in omega (arith, a, below) in
    let in_joints : k < length joints = let a = c.requires.joints in omega (arith, a, below) in
    let l = slice_index_or run k c.index-run-k.result in
    let joint = slice_index_or joints k 0 in
    let at = slice_get-get_or run k c.index-run-k.result in_run in
    let so_far = subst (λ (ls : List Numbered). IsAheadOf f (views_behind view run joints k) ls c.loop-k.kept) (drop_next run k l at) (c.loop-k.invariant f view are) in
    subst (λ (v : View). IsAheadOf f v (drop (k + 1) run) c.finish.new.kept) (sym (view_next view run joints k l joint at (slice_get-get_or joints k 0 in_joints)))
    (finish_first f (views_behind view run joints k) l (drop (k + 1) run) joint c.loop-k.kept c.finish.new.kept so_far c.finish.ensures)
