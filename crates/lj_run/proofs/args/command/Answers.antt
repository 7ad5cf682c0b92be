use Rattle.lj_run.proofs.ArgsLemmas.{with_argument}
use Rattle.lj_run.proofs.args.command.Goals as goal

pub with_error_flags-requires : goal.with_error_flags-requires
with_error_flags-requires c =
    let formula = with_argument _ _ _ _ _ c.without_arguments.ensures c.path-formula.ensures c.in_ok-arg.ensures in
    let proofs = with_argument _ _ _ _ _ formula c.paths-proofs.ensures c.in_ok-command.ensures in
    let close = with_argument _ _ _ _ _ proofs c.option-close.ensures c.in_ok-arg-2.ensures in
    let in_turn = with_argument _ _ _ _ _ close c.flag-in_turn.ensures c.in_ok-arg-3.ensures in
    let proof = with_argument _ _ _ _ _ in_turn c.option-proof.ensures c.in_ok-command-2.ensures in
    let trim = with_argument _ _ _ _ _ proof c.flag-trim.ensures c.in_ok-arg-4.ensures in
    with_argument _ _ _ _ _ trim c.option-max_steps.ensures c.in_ok-command-3.ensures
