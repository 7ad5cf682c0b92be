use Rattle.lj_run.proofs.AskedLemmas.{right_request, wrong_request}
use Rattle.lj_run.proofs.args.read_args.Goals as goal

pub returns-in_ok-run_of-in-Ok : goal.returns-in_ok-run_of-in-Ok
returns-in_ok-run_of-in-Ok g c =
    right_request _ c.in-Ok.matches _ c.in-Ok.ensures.matches c.in-Ok.ensures.kinds c.in_ok-run_of-in-Ok.ensures

pub returns-in-Err : goal.returns-in-Err
returns-in-Err g c = wrong_request _ c.in-Err.error _ c.in-Err.ensures.kinds c.told.ensures.told c.told.ensures.memory
