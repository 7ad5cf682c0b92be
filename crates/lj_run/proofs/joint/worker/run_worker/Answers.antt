use Rattle.lj_clause.specs.Truth.{IsUnsatisfiable}
use Rattle.lj_text.specs.Streams.{source_state}
use Rattle.lj_share.specs.Refusals.{IsLineRefused}
use Rattle.lj_run.proofs.JointLemmas.{worker_ran}
use Rattle.lj_run.proofs.joint.worker.run_worker.Goals as goal

pub returns : goal.returns
returns g c =
    let seen = source_state g.S.Source.given g.S.Source.ended g.S.Source.rest g.S.Source.failures in
    worker_ran seen (IsLineRefused g.L.BookId.formula g.L.BookId.seats g.L.BookId.max_steps) (IsUnsatisfiable g.L.BookId.formula) c.args.job.0 c.run_stream-report.new.seat.seat c.args.job.1 c.run_stream-report.result c.requires.fresh c.run_stream-report.ensures
