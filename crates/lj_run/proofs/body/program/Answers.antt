use Rattle.std.proofs.Common.{◌∙◌, sym}
use Rattle.lj_run.proofs.ProgramLemmas.{run_refutes, same_report_asked}
use Rattle.lj_run.proofs.body.program.Goals as goal

pub returns-in-Ok-clause-refuted : goal.returns-in-Ok-clause-refuted
returns-in-Ok-clause-refuted g c = λ e. run_refutes _ _ _ _ _ _ c.in-Ok.status c.in-Ok.ensures.answered (sym c.code.ensures ∙ e)

pub returns-in-Ok-clause-same_report : goal.returns-in-Ok-clause-same_report
returns-in-Ok-clause-same_report g c = λ low. same_report_asked _ _ _ _ _ _ c.in-Ok.status _ c.in-Ok.ensures.answered c.code.ensures
