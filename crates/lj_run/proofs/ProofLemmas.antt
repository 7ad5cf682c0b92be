-- What is written of a run's steps.
use Rattle.std.proofs.Common.{◌≡◌, ℕ, Bool, true, false, cond, List, [], ◌∷◌, length, Option, Some, None, refl, sym, ap, ◌∙◌, subst, arith}
use Rattle.std.specs.List.{list_any, cons_option}
use Rattle.lj_clause.specs.ClauseMap.{FormulaValue}
use Rattle.lj_text.specs.declared.line.Addition.{Addition}
use Rattle.lj_text.specs.declared.step.Step.{Step}
use Rattle.lj_text.specs.Steps.{adds_empty}
use Rattle.lj_text.specs.Needed.{up_to_empty, trimmed_steps}
use Rattle.lj_text.specs.StepText.{proof_text}
use Rattle.lj_text.specs.declared.step.Step.TheVariants as steps
use Rattle.lj_text.specs.Steps.{refutes}
use Rattle.lj_text.specs.Needed.{if_some}
use Rattle.lj_trim.specs.Laws.{AreAbove}
use Rattle.lj_trim.proofs.FrontLemmas.{up_to-none}
use Rattle.lj_trim.proofs.RefutationLemmas.{front_refutes, trimmed_refutes}
use Rattle.lj_book.specs.declared.entry.Call.{Call}
use Rattle.lj_book.specs.declared.entry.Call.TheVariants as calls
use Rattle.lj_book.specs.declared.entry.Entry.{Entry}
use Rattle.lj_book.specs.State.{State, next, steps_of}
use Rattle.lj_book.specs.Named.{NamedState, beneath, entry_beneath, after_named, AreNamedLegal, IsNamedReached}
use Rattle.lj_book.specs.History.{IsLegalCall}
use Rattle.lj_book.proofs.HistoryLaws.{part_step, no_deletion}
use Rattle.lj_run.specs.declared.outcome.ProofEnd.{ProofEnd}
use Rattle.lj_run.specs.declared.outcome.ProofEnd.TheVariants.{NotAsked, Written, Failed}
use Rattle.lj_run.specs.declared.outcome.ProofFault.TheVariants.{Device, NoMemory}
use Rattle.lj_run.specs.Proof.{SinkState, written_steps, IsTextEnd, IsProofEnd, IsProof}

-- what is written where nothing is to be trimmed
pub written-untrimmed : (f : FormulaValue) (steps : List Step) → written_steps f false steps ≡ up_to_empty steps
written-untrimmed f steps = by_test (list_any adds_empty steps) refl
  where
    by_test : (b : Bool) → list_any adds_empty steps ≡ b → cond b (up_to_empty steps) steps ≡ up_to_empty steps
    by_test true e = refl
    by_test false e = sym (up_to-none steps e)

-- and where no step adds the empty clause
pub written-none : (f : FormulaValue) (trims : Bool) (steps : List Step) → list_any adds_empty steps ≡ false → written_steps f trims steps ≡ up_to_empty steps
written-none f trims steps e = ap (λ b. cond b (cond trims (trimmed_steps f steps) (up_to_empty steps)) steps) e ∙ sym (up_to-none steps e)

proof_end : (f : FormulaValue) (trims : Bool) (steps : List Step) (before after : SinkState) (text : List ℕ) (end : ProofEnd) → proof_text (length f.clauses) (written_steps f trims steps) ≡ text
    → IsTextEnd text before after end → IsProofEnd f trims steps before after end
proof_end f trims steps before after text NotAsked is e = e
proof_end f trims steps before after text Written is e = subst (λ t. IsTextEnd t before after Written) (sym is) e
proof_end f trims steps before after text (Failed Device) is e = subst (λ t. IsTextEnd t before after (Failed Device)) (sym is) e
proof_end f trims steps before after text (Failed (NoMemory m)) is e = absurd e

-- the steps up to the first addition of the empty clause were written, where they are what is to be written
pub front_written : {W : Type 0} (seen : W → SinkState) (f : FormulaValue) (clauses : ℕ) (trims : Bool) (steps : List Step) (out : Option W) (before after : W) (end : ProofEnd) → out ≡ Some before
    → clauses ≡ length f.clauses → written_steps f trims steps ≡ up_to_empty steps → IsTextEnd (proof_text clauses (up_to_empty steps)) (seen before) (seen after) end → IsProof seen f trims steps out (Some after) end
front_written seen f clauses trims steps out before after end is count same ended =
    subst (λ o. IsProof seen f trims steps o (Some after) end) (sym is)
    (proof_end f trims steps (seen before) (seen after) (proof_text clauses (up_to_empty steps)) end (λ i. proof_text (sym count i) (same i)) ended)

-- ---- the steps of a book

more_above : (n : ℕ) (o : Option Step) (ss : List Step) → o ≡ None → AreAbove n ss → AreAbove n (cons_option o ss)
more_above n o ss e h = subst (λ p. AreAbove n (cons_option p ss)) (sym e) h

deletion_above : (n : ℕ) (o : Option Step) (ns : List ℕ) (ss : List Step) → o ≡ if_some ns → AreAbove n ss → AreAbove n (cons_option o ss)
deletion_above n o [] ss e h = more_above n o ss e h
deletion_above n o (m ∷ ms) ss e h = subst (λ p. AreAbove n (cons_option p ss)) (sym e) h

call_above : (s : State) (seat : ℕ) (call : Call) (step : Option Step) (ss : List Step) → IsLegalCall s seat call step → AreAbove (length s.formula.clauses) ss → AreAbove (length s.formula.clauses) (cons_option step ss)
call_above s seat (calls.Add own lemma) None ss legal h = absurd legal.addition
call_above s seat (calls.Add own lemma) (Some (steps.Delete ns)) ss legal h = absurd legal.addition
call_above s seat (calls.Add own lemma) (Some (steps.Add a)) ss legal h = (omega (arith, legal.addition.0), h)
call_above s seat (calls.Drop numbers) step ss legal h = deletion_above (length s.formula.clauses) step _ ss legal.deletes h
call_above s seat (calls.Adopt own joint) step ss legal h = more_above (length s.formula.clauses) step ss legal.stepless h
call_above s seat (calls.Import own clause) None ss legal h = h
call_above s seat (calls.Import own clause) (Some (steps.Delete ns)) ss legal h = absurd (no_deletion s seat own clause ns legal)
call_above s seat (calls.Import own clause) (Some (steps.Add a)) ss legal h =
    let number : a.number ≡ next s = ap (λ (x : Addition). x.number) (part_step s seat own clause a legal).1.1 in
    (omega (arith, number), h)
call_above s seat calls.Leave step ss legal h = deletion_above (length s.formula.clauses) step _ ss legal.deletes h

history_above : (s : NamedState) (es : List Entry) → AreNamedLegal s es → AreAbove (length s.formula.clauses) (steps_of es)
history_above s [] legal = tt
history_above s (e ∷ es) legal = call_above (beneath s) e.seat (entry_beneath s e).call e.step (steps_of es) legal.0.legal (history_above (after_named s e) es legal.1)

-- where the steps of a book refute its formula, those that are written refute it too
pub written_refutes : (s : NamedState) (f : FormulaValue) (trims : Bool) (ss : List Step) → IsNamedReached s → s.formula ≡ f → ss ≡ steps_of s.history → refutes f ss ≡ true → refutes f (written_steps f trims ss) ≡ true
written_refutes s f trims ss reached same are e =
    let above : AreAbove (length f.clauses) ss = subst (λ (g : FormulaValue). AreAbove (length g.clauses) ss) same (subst (AreAbove (length s.formula.clauses)) (sym are) (history_above _ s.history reached.legal)) in
    by_tests (list_any adds_empty ss) trims (trimmed_refutes f ss e above) (front_refutes f ss e) e
  where
    by_tests : (b t : Bool) → refutes f (trimmed_steps f ss) ≡ true → refutes f (up_to_empty ss) ≡ true → refutes f ss ≡ true → refutes f (cond b (cond t (trimmed_steps f ss) (up_to_empty ss)) ss) ≡ true
    by_tests true true x y z = x
    by_tests true false x y z = y
    by_tests false t x y z = z
