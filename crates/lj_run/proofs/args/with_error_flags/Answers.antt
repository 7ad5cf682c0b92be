use Rattle.std.proofs.lemmas.Result.{IfOk-weaker}
use Rattle.lj_run.proofs.ArgsLemmas.{with_argument}
use Rattle.lj_run.proofs.args.with_error_flags.Goals as goal

pub returns : goal.returns
returns c =
    let explain = with_argument _ _ _ _ _ c.requires c.flag-explain.ensures c.in_ok-arg.ensures in
    IfOk-weaker c.arg-2.result _ _ (λ d added. with_argument _ _ _ _ _ explain c.flag-progress.ensures added) c.arg-2.ensures
