-- The steps of reading a formula.
use Rattle.std.proofs.Common.{◌≡◌, ℕ, List, [], ◌++◌, Result, Ok, Err, sym, subst}
use Rattle.std.specs.Prelude.{IfOk, IfErr, IsErrAnd}
use Rattle.std.specs.Io.KnownBytes.{Keeps}
use Rattle.lj_clause.specs.ClauseMap.{FormulaValue}
use Rattle.lj_text.specs.Cnf.{Spells, HasFault}
use Rattle.lj_text.specs.CnfRead.{CnfRead}
use Rattle.lj_text.specs.Streams.{SourceState, HasEnded, HasGiven}
use Rattle.lj_run.specs.declared.outcome.RunFault.{RunFault}
use Rattle.lj_run.specs.declared.outcome.RunFault.TheVariants.{Formula, FormulaRead, NoMemory, Unconfirmed}
use Rattle.lj_run.specs.inner.FormulaReading.{FormulaReadOn, IsFaultAtEnd}
use Rattle.lj_run.specs.FormulaReading.{FailedReading, IsFormulaFault, GaveAll, GaveFormula}
use Rattle.lj_run.specs.Joint.{IsJointFault}
use Rattle.lj_clause.specs.declared.memory.NoMemory.{NoMemory as Want}
use Rattle.lj_run.proofs.GivenLemmas.{given_failed, given_on}
use Rattle.lj_clause.specs.declared.lit.TheConstants.{MAX_VARIABLE}

-- one more pull of what was read on
pub read_further : (reader new : CnfRead) (start before after : SourceState) → HasGiven start before reader.fed → FormulaReadOn reader new before after → HasGiven start after new.fed
read_further reader new start before after gave more = subst (HasGiven start after) (sym more.fed) (given_on start before after reader.fed more.piece gave more.gave)

-- what a reader tells at the end, of all that the source gave
pub formula_told : (r : Result FormulaValue RunFault) (reader : CnfRead) (start after : SourceState) → reader.max ≡ MAX_VARIABLE → GaveAll start after reader.fed
    → IfOk r (λ formula. Spells reader.max reader.fed formula) → IfOk r (GaveFormula start after)
formula_told (Ok formula) reader start after max all told = record { text = reader.fed; all = all; spells = subst (λ m. Spells m reader.fed formula) max told }
formula_told (Err fault) reader start after max all told = tt

pub fault_told : (r : Result FormulaValue RunFault) (reader : CnfRead) (start after : SourceState) → reader.max ≡ MAX_VARIABLE → GaveAll start after reader.fed
    → IfErr r (IsFaultAtEnd reader) → IfErr r (IsFormulaFault start after)
fault_told (Ok formula) reader start after max all told = tt
fault_told (Err (Formula fault)) reader start after max all told = record { text = reader.fed; all = all; has = subst (λ m. HasFault m reader.fed fault) max told }
fault_told (Err FormulaRead) reader start after max all told = absurd told
fault_told (Err (NoMemory e)) reader start after max all told = all.unfailed
fault_told (Err Unconfirmed) reader start after max all told = absurd told

-- the bytes that were read until the source ended
pub all_given : (reader : CnfRead) (start after : SourceState) → HasGiven start after reader.fed → HasEnded after → after.failures ≡ 0 → GaveAll start after reader.fed
all_given reader start after gave ended unfailed = record { gave = gave; ended = ended; unfailed = unfailed }

-- a read that failed behind what the source had given
pub failed_reading : (start before after : SourceState) (text : List ℕ) → HasGiven start before text → after.given ≡ before.given → Keeps before.rest after.rest → after.failures ≡ 1
    → FailedReading start after
failed_reading start before after text gave none kept failed =
    record { text = text ++ []; gave = given_on start before after text [] gave (given_failed before after none kept); failed = failed }

-- want of memory behind the formula's source, which gave all, is passed up as it is
pub want_told : {X : Type 0} (r : Result X RunFault) (start after : SourceState) (text : List ℕ) (e : Want) → GaveAll start after text → IsErrAnd r (λ fault. fault ≡ NoMemory e)
    → IfErr r (IsFormulaFault start after)
want_told (Ok x) start after text e all is = tt
want_told (Err fault) start after text e all is = subst (IsFormulaFault start after) (sym is) all.unfailed

pub joint_want_told : {X S : Type 0} (r : Result X RunFault) (start after : SourceState) (seen : S → SourceState) (max : ℕ) (streams : List S) (text : List ℕ) (e : Want)
    → GaveAll start after text → IsErrAnd r (λ fault. fault ≡ NoMemory e) → IfErr r (IsJointFault start after seen max streams)
joint_want_told (Ok x) start after seen max streams text e all is = tt
joint_want_told (Err fault) start after seen max streams text e all is = subst (IsJointFault start after seen max streams) (sym is) all.unfailed
