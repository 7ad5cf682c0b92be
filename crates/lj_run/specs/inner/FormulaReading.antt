-- What a formula's reader was fed.
use Rattle.std.specs.Prelude.{◌≡◌, ℕ, List, ◌++◌}
use Rattle.lj_text.specs.Cnf.{HasFault}
use Rattle.lj_text.specs.CnfRead.{CnfRead}
use Rattle.lj_text.specs.Streams.{SourceState, HasGiven}
use Rattle.lj_run.specs.declared.outcome.RunFault.{RunFault}
use Rattle.lj_run.specs.declared.outcome.RunFault.TheVariants.{Formula, FormulaRead, NoMemory, Unconfirmed}

-- The source gave a piece, and the reader was fed it too.
pub record FormulaReadOn (old new : CnfRead) (before after : SourceState) : Type 0 where
  pub piece : List ℕ
  pub gave : HasGiven before after piece
  pub fed : new.fed ≡ old.fed ++ piece

-- the fault that is told once the source has ended is that of what was fed
abbrev pub IsFaultAtEnd : CnfRead → RunFault → Type 0
IsFaultAtEnd reader (Formula fault) = HasFault reader.max reader.fed fault
IsFaultAtEnd reader FormulaRead = ⊥
IsFaultAtEnd reader (NoMemory _) = Unit {0}
IsFaultAtEnd reader Unconfirmed = ⊥
