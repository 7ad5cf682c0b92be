-- The steps that trimming keeps.
use Rattle.lj_text.specs.declared.step.Step.{Step}
use Rattle.lj_trim.specs.declared.kept.Kept.{Kept}
use Rattle.lj_trim.specs.declared.kept.Kept.TheVariants.{Whole, Part}

-- the step that is kept
abbrev pub step_of : Kept → Step
step_of (Whole step) = step.now
step_of (Part step) = step
