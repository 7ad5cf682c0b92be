use Rattle.lj_run.proofs.checking.check.Goals as goal

pub returns-clause-refuted : goal.returns-clause-refuted
returns-clause-refuted g c = λ e. let is = c.in_ok-checked.ensures.answer.printed in (is.runs.formula, is.unsatisfiable e, is.runs.gave)
