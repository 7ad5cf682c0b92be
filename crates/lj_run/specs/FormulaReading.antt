-- How a formula is read from its source.
use Rattle.std.specs.Prelude.{◌≡◌, ℕ, List}
use Rattle.lj_clause.specs.ClauseMap.{FormulaValue}
use Rattle.lj_text.specs.declared.cnf.fault.CnfFault.{CnfFault}
use Rattle.lj_text.specs.Cnf.{Spells, HasFault}
use Rattle.lj_text.specs.Streams.{SourceState, HasGiven, HasEnded}
use Rattle.lj_run.specs.declared.outcome.RunFault.{RunFault}
use Rattle.lj_run.specs.declared.outcome.RunFault.TheVariants.{Formula, FormulaRead, NoMemory, Unconfirmed}
use Rattle.lj_clause.specs.declared.lit.TheConstants.{MAX_VARIABLE}

-- The source has ended without a failure, and these are the bytes that it gave.
pub record GaveAll (before after : SourceState) (text : List ℕ) : Type 0 where
  pub gave : HasGiven before after text
  pub ended : HasEnded after
  pub unfailed : after.failures ≡ 0

-- All that the source gave spells the formula.
pub record GaveFormula (before after : SourceState) (formula : FormulaValue) : Type 0 where
  pub text : List ℕ
  pub all : GaveAll before after text
  pub spells : Spells MAX_VARIABLE text formula

-- All that the source gave has this fault, and spells no formula.
pub record GaveFault (before after : SourceState) (fault : CnfFault) : Type 0 where
  pub text : List ℕ
  pub all : GaveAll before after text
  pub has : HasFault MAX_VARIABLE text fault

-- A read of the source failed, once it had given these bytes.
pub record FailedReading (before after : SourceState) : Type 0 where
  pub text : List ℕ
  pub gave : HasGiven before after text
  pub failed : after.failures ≡ 1

-- Why there is no formula: all that the source gave has this fault, a read failed, or memory ran out. Nothing is confirmed here.
abbrev pub IsFormulaFault : SourceState → SourceState → RunFault → Type 0
IsFormulaFault before after (Formula fault) = GaveFault before after fault
IsFormulaFault before after FormulaRead = FailedReading before after
IsFormulaFault before after (NoMemory _) = after.failures ≡ 0
IsFormulaFault before after Unconfirmed = ⊥
