-- What a check answers and prints.
use Rattle.std.proofs.Common.{◌≡◌, ◌∙◌, Bool, true, Option, Some, None, List, ℕ, Result, Ok, Err, refl, sym, ap, subst, inr}
use Rattle.std.specs.Prelude.{IfErr, IsErrAnd, is_some}
use Rattle.lj_clause.specs.Memory.{no_memory}
use Rattle.lj_clause.specs.declared.memory.NoMemory.{NoMemory as Want}
use Rattle.lj_clause.specs.ClauseMap.{FormulaValue}
use Rattle.lj_text.specs.Streams.{SourceState}
use Rattle.lj_run.specs.Checking.{verdict_of, IsPrinted, IsChecked, LeavesFault}
use Rattle.lj_run.specs.declared.checking.Checked.{Checked}
use Rattle.lj_run.specs.Ways.{IsAnswerBy, IsFaultBy}
use Rattle.lj_run.specs.declared.checking.CheckFault.{CheckFault}
use Rattle.lj_run.specs.declared.checking.CheckFault.TheVariants.{Run, CannotWrite}
use Rattle.lj_run.specs.declared.outcome.RunFault.TheVariants.{NoMemory}
use Rattle.lj_run.specs.declared.outcome.Way.{Way}
use Rattle.lj_run.specs.declared.outcome.Way.TheVariants.{OnThreads, InTurn}
use Rattle.lj_run.specs.Proof.{SinkState}
use Rattle.lj_run.specs.OutcomeText.{outcome_text}
use Rattle.lj_run.specs.declared.checking.Verdict.{Verdict}
use Rattle.lj_run.specs.declared.checking.Verdict.TheVariants.{Verified}
use Rattle.lj_run.specs.declared.outcome.Outcome.{Outcome}
use Rattle.lj_run.proofs.WayLemmas.{outcome_refutes}

verified_some : (v : Option FormulaValue) → verdict_of v ≡ Verified → is_some v ≡ true
verified_some (Some f) e = refl
verified_some None e = cc

pub checked_of : {S W : Type 0} (way : Way) (before after : SourceState) (seen : S → SourceState) (sink : W → SinkState) (max : ℕ) (trims : Bool) (streams : List S) (old new : Option W) (checked : Checked) (text : List ℕ) (outcome : Outcome S)
    → IsAnswerBy way before after seen sink max trims streams old new outcome → checked.verdict ≡ verdict_of outcome.verified → checked.proof ≡ outcome.proof → text ≡ outcome_text outcome
    → IsChecked way before after seen sink max trims streams old new checked text
checked_of way before after seen sink max trims streams old new checked text outcome is answers proof prints = record {
  outcome = outcome;
  runs = is;
  answers = answers;
  proof = proof;
  unsatisfiable = λ e. outcome_refutes way seen is.formula max streams outcome is.comes (verified_some outcome.verified (sym answers ∙ e));
  prints = prints;
}

-- what is printed of an outcome
pub text_printed : {S W : Type 0} (way : Way) (before after : SourceState) (seen : S → SourceState) (sink : W → SinkState) (max : ℕ) (trims : Bool) (streams : List S) (old new : Option W) (verdict : Verdict) (text : List ℕ) (outcome : Outcome S)
    → IsAnswerBy way before after seen sink max trims streams old new outcome → verdict ≡ verdict_of outcome.verified → text ≡ outcome_text outcome
    → IsPrinted way before after seen max streams verdict text
text_printed way before after seen sink max trims streams old new verdict text outcome is answers prints = record {
  formula = is.formula;
  gave = is.gave;
  outcome = outcome;
  comes = is.comes;
  answers = answers;
  unsatisfiable = λ e. outcome_refutes way seen is.formula max streams outcome is.comes (verified_some outcome.verified (sym answers ∙ e));
  prints = prints;
}

-- ---- memory that is refused to the text

want_by : {S : Type 0} (way : Way) (before after : SourceState) (seen : S → SourceState) (max : ℕ) (streams : List S) (e : Want) → after.failures ≡ 0
    → IsFaultBy way before after seen max streams (NoMemory e)
want_by OnThreads before after seen max streams e unfailed = unfailed
want_by InTurn before after seen max streams e unfailed = unfailed

another : (e : Want) → Run (NoMemory e) ≡ CannotWrite → ⊥
another e is = cc

-- what is left where memory is refused to the text of an outcome
pub text_refused : {X S W O : Type 0} (way : Way) (before after : SourceState) (seen : S → SourceState) (sink : W → SinkState) (max : ℕ) (trims : Bool) (streams : List S) (old new : Option W) (output : O → SinkState)
    (out_old out_new : O) (r : Result X CheckFault) (outcome : Outcome S) → IsErrAnd r (λ y. y ≡ Run (NoMemory no_memory)) → IsAnswerBy way before after seen sink max trims streams old new outcome → out_new ≡ out_old
    → IfErr r (LeavesFault way before after seen sink max trims streams old new output out_old out_new)
text_refused way before after seen sink max trims streams old new output out_old out_new (Ok x) outcome told is same = tt
text_refused way before after seen sink max trims streams old new output out_old out_new (Err fault) outcome told is same =
    subst (LeavesFault way before after seen sink max trims streams old new output out_old out_new) (sym told) (record {
      why = (want_by way before after seen max streams no_memory is.gave.all.unfailed, ap (λ o. (output o).taken) same);
      untouched = λ _. same;
      failed = λ e. absurd (another no_memory e);
      written = λ e. absurd (another no_memory e);
      early = λ e. absurd e;
      proof = inr (outcome, is);
    })
