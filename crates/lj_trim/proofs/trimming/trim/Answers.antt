use Rattle.std.proofs.Common.{◌∙◌}
use Rattle.lj_trim.proofs.TrimmedLemmas.{trimmed-front}
use Rattle.lj_trim.proofs.trimming.trim.Goals as goal

pub returns-clause-trimmed : goal.returns-clause-trimmed
returns-clause-trimmed c =
    c.in_ok-trimmed_steps.ensures
    ∙ trimmed-front c.args.formula.now c.args.steps.now _ c.len-2.result c.in_ok-marks.marks c.in-Some.ensures.some.1 c.len-2.ensures.len c.in_ok-marks.ensures
