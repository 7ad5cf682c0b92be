use Rattle.std.proofs.Common.{subst, ◌+◌}
use Rattle.std.specs.Prelude.{List, drop, slice_index_or}
use Rattle.std.proofs.lemmas.Option.{slice_get-get_or}
use Rattle.lj_share.specs.declared.numbered.Numbered.{Numbered}
use Rattle.lj_share.specs.inner.Runs.{IsAheadOf}
use Rattle.lj_share.proofs.RunLaws.{back_first, drop_next}
use Rattle.lj_share.proofs.runs.take_back_run.Goals as goal

pub loop-k-preserved : goal.loop-k-preserved
loop-k-preserved c f view are =
    let run = c.args.run.now in
    let k = c.loop-k.k in
    let l = slice_index_or run k c.index-run-k.result in
    let at = slice_get-get_or run k c.index-run-k.result c.loop-k-test.true in
    let so_far = subst (λ (ls : List Numbered). IsAheadOf f view ls c.loop-k.kept) (drop_next run k l at) (c.loop-k.invariant f view are) in
    back_first f view l (drop (k + 1) run) c.loop-k.kept c.take_back.new.kept so_far c.take_back.ensures
