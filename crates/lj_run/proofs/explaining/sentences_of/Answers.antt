use Rattle.lj_run.proofs.ExplanationLemmas.{sentences_more}
use Rattle.lj_run.proofs.explaining.sentences_of.Goals as goal

pub loop-stream-preserved : goal.loop-stream-preserved
loop-stream-preserved g c =
    sentences_more c.args.reports.now c.loop-stream.stream c.index-reports-stream.result _ _ _ c.loop-stream-test.true c.index-reports-stream.is c.loop-stream.invariant c.say.ensures.1 c.say.ensures.2
