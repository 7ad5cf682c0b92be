use Rattle.std.proofs.Common.{◌∙◌, sym}
use Rattle.lj_clause.specs.Truth.{IsUnsatisfiable}
use Rattle.lj_run.proofs.JointLemmas.{with_some}
use Rattle.lj_run.proofs.joint.worker.SharedSeatEntering.is_stopped.Goals as goal

pub returns-clause-stopped : goal.returns-clause-stopped
returns-clause-stopped g c = λ is. with_some c.verdict_now.result (IsUnsatisfiable g.L.BookId.formula) c.verdict_now.ensures (sym c.is_some.ensures ∙ is)
