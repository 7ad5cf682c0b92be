-- A fault of another kind than want of memory is that of the bytes fed.
use Rattle.std.proofs.Common.{◌≡◌, false, refl}
use Rattle.lj_clause.specs.declared.memory.NoMemory.{NoMemory}
use Rattle.lj_text.specs.declared.cnf.fault.CnfFaultKind.{CnfFaultKind}
use Rattle.lj_text.specs.declared.cnf.fault.CnfFaultKind.TheVariants as kinds
use Rattle.lj_text.specs.CnfRead.{is_cnf_no_memory}
use Rattle.lj_run.proofs.reading.finish_formula.Goals as goal

is_another : (kind : CnfFaultKind) → ((e : NoMemory) → kind ≡ kinds.NoMemory e → ⊥) → is_cnf_no_memory kind ≡ false
is_another kinds.NoHeader other = refl
is_another kinds.BadHeader other = refl
is_another kinds.BadNumber other = refl
is_another kinds.VariableRange other = refl
is_another kinds.ClauseCount other = refl
is_another kinds.Truncated other = refl
is_another (kinds.NoMemory e) other = absurd (other e refl)

pub returns-in_default : goal.returns-in_default
returns-in_default c = record {
  formula = record {};
  fault = c.in-Err.ensures.answer (is_another c.in-Err.fault.kind c.in_default.not-NoMemory);
}
