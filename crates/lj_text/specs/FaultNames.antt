-- The names under which faults are told.
use Rattle.std.specs.Prelude.{ℕ, List, codes}
use Rattle.lj_text.specs.declared.lines.fault.LineFaultKind.{LineFaultKind}
use Rattle.lj_text.specs.declared.lines.fault.LineFaultKind.TheVariants as lines
use Rattle.lj_text.specs.declared.cnf.fault.CnfFaultKind.{CnfFaultKind}
use Rattle.lj_text.specs.declared.cnf.fault.CnfFaultKind.TheVariants as formulas

-- the name of what is wrong with a line
abbrev pub line_fault_name : LineFaultKind → List ℕ
line_fault_name lines.BadNumber = codes "BadNumber"
line_fault_name lines.NumberRange = codes "NumberRange"
line_fault_name lines.Syntax = codes "Syntax"
line_fault_name lines.Truncated = codes "Truncated"
line_fault_name (lines.NoMemory _) = codes "NoMemory"

-- the name of what is wrong with a formula's text
abbrev pub cnf_fault_name : CnfFaultKind → List ℕ
cnf_fault_name formulas.NoHeader = codes "NoHeader"
cnf_fault_name formulas.BadHeader = codes "BadHeader"
cnf_fault_name formulas.BadNumber = codes "BadNumber"
cnf_fault_name formulas.VariableRange = codes "VariableRange"
cnf_fault_name formulas.ClauseCount = codes "ClauseCount"
cnf_fault_name formulas.Truncated = codes "Truncated"
cnf_fault_name (formulas.NoMemory _) = codes "NoMemory"
