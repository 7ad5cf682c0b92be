use Rattle.std.proofs.Common.{◌∙◌}
use Rattle.lj_run.proofs.ProgramLemmas.{opened_more}
use Rattle.lj_run.proofs.opening.open_all.Goals as goal

pub loop-path-preserved : goal.loop-path-preserved
loop-path-preserved g c = record {
  same = λ other. c.open.ensures.same other ∙ c.loop-path.invariant.same other;
  tried = c.in_ok-open.ensures.tried ∙ c.loop-path.invariant.tried;
  opened = opened_more _ _ _ c.args.paths.now c.loop-path.path-index _ c.loop-path.inputs.items _ c.in_ok-open.field-0 c.loop-path-test.true c.loop-path.invariant.same
      c.in_ok-push.ensures.items c.loop-path.invariant.opened c.in_ok-open.ensures.opened;
}
