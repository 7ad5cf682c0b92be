use Rattle.std.proofs.Common.{◌∙◌, ap, sym, subst, refl, inr, arith}
use Rattle.lj_text.specs.Streams.{source_state}
use Rattle.std.proofs.lemmas.Bool.{both_ways}
use Rattle.lj_run.specs.inner.Program.{IsAskedFor, is_told_late}
use Rattle.lj_run.specs.Program.{status_code}
use Rattle.lj_run.specs.Proof.{sink_state}
use Rattle.lj_run.specs.inner.CommandLine.{line_asked}
use Rattle.lj_run.proofs.ProgramLemmas.{among_closing, among_streams, asked_proof, check_cut, check_fault, create_fault, created_unfailed, err_more, formula_unopened, lost_fault, lost_late, ok_more, few_streams, inputs_unfailed, none_more, one_created, open_fault, passed_on, streams_before, run_inputs}
use Rattle.lj_run.proofs.ExplanationLemmas.{told_on}
use Rattle.lj_run.proofs.body.run.Goals as goal

pub check_with_steps-requires-clause-run : goal.check_with_steps-requires-clause-run
check_with_steps-requires-clause-run g c = λ κs lives.
    let inputs = streams_before _ _ _ _ _ _ c.args.line.now.closing _ c.in_ok-closing.closing c.deref.ensures.value c.in_ok-formula.ensures.same c.in_ok-streams.ensures.same
    c.in_ok-streams.ensures.opened c.in_ok-closing.ensures.opened in
    let few = few_streams _ _ c.args.line.now.proofs.items _ _ (omega (arith, c.args.line.now.some)) (omega (arith, c.args.line.now.at_most)) inputs in
    let most = few.1 in
    record {
      runnable = record { some = few.0; at_most = omega (arith, most); unfailed = inputs_unfailed _ _ _ inputs };
      formula_unfailed = c.in_ok-formula.ensures.opened.unfailed;
      proof_unfailed = created_unfailed (sink_state g.F.Output.Sink.taken g.F.Output.Sink.failures) _ _ c.in_ok-proof.ensures.created;
    }

pub ended-answer-requires : goal.ended-answer-requires
ended-answer-requires g c =
    let is = c.in-Ok.ensures.answer.printed in
    subst (λ e. IsAskedFor e c.args.line.now.proof) (sym is.proof) (asked_proof (sink_state g.F.Output.Sink.taken g.F.Output.Sink.failures) is.runs.formula c.args.line.now.trim is.outcome.steps c.args.line.now.proof c.in_ok-proof.proof c.check_with_steps.new.proof is.outcome.proof c.in_ok-proof.ensures.created is.runs.proof)

pub returns-in-Ok-clause-answered : goal.returns-in-Ok-clause-answered
returns-in-Ok-clause-answered g c =
    ok_more _ _ c.ended-answer.result (λ status is. record {
      checked = c.in-Ok.checked;
      text = c.in-Ok.ensures.answer.text;
      printed = record {
        inputs = run_inputs _ _ _ _ c.args.line.now _ c.in_ok-formula.formula c.check_with_steps.new.formula c.in_ok-streams.streams.items c.in_ok-closing.closing c.deref.ensures.value c.in_ok-formula.ensures.same
            c.in_ok-streams.ensures.same c.in_ok-formula.ensures.opened c.in_ok-streams.ensures.opened c.in_ok-closing.ensures.opened;
        created = c.in_ok-proof.proof;
        written = c.check_with_steps.new.proof;
        created_is = c.in_ok-proof.ensures.created;
        printed = c.in-Ok.ensures.answer.printed;
      };
      took = c.in-Ok.ensures.answer.took;
      status_is = ap status_code is.0;
    }) c.ended-answer.ensures.ok

pub returns-in-Ok-clause-ended : goal.returns-in-Ok-clause-ended
returns-in-Ok-clause-ended g c = ok_more _ _ c.ended-answer.result (λ status is. is.1) c.ended-answer.ensures.ok

pub returns-in-Ok-clause-lost : goal.returns-in-Ok-clause-lost
returns-in-Ok-clause-lost g c =
    err_more _ _ c.ended-answer.result (λ fault is _. record {
      checked = c.in-Ok.checked;
      text = c.in-Ok.ensures.answer.text;
      printed = record {
        inputs = run_inputs _ _ _ _ c.args.line.now _ c.in_ok-formula.formula c.check_with_steps.new.formula c.in_ok-streams.streams.items c.in_ok-closing.closing c.deref.ensures.value c.in_ok-formula.ensures.same
            c.in_ok-streams.ensures.same c.in_ok-formula.ensures.opened c.in_ok-streams.ensures.opened c.in_ok-closing.ensures.opened;
        created = c.in_ok-proof.proof;
        written = c.check_with_steps.new.proof;
        created_is = c.in_ok-proof.ensures.created;
        printed = c.in-Ok.ensures.answer.printed;
      };
      took = c.in-Ok.ensures.answer.took;
      status_is = ap status_code (sym is.1);
    }) c.ended-answer.ensures.fault

pub returns-in-Ok-clause-fault : goal.returns-in-Ok-clause-fault
returns-in-Ok-clause-fault g c =
    err_more _ _ c.ended-answer.result (λ fault is. lost_fault _ _ (line_asked c.args.line.now) _ _ _ c.in-Ok.checked c.in-Ok.ensures.answer.text fault (record {
      inputs = run_inputs _ _ _ _ c.args.line.now _ c.in_ok-formula.formula c.check_with_steps.new.formula c.in_ok-streams.streams.items c.in_ok-closing.closing c.deref.ensures.value c.in_ok-formula.ensures.same
          c.in_ok-streams.ensures.same c.in_ok-formula.ensures.opened c.in_ok-streams.ensures.opened c.in_ok-closing.ensures.opened;
      created = c.in_ok-proof.proof;
      written = c.check_with_steps.new.proof;
      created_is = c.in_ok-proof.ensures.created;
      printed = c.in-Ok.ensures.answer.printed;
    }) is.0) c.ended-answer.ensures.fault

pub returns-in-Ok-clause-output : goal.returns-in-Ok-clause-output
returns-in-Ok-clause-output g c = err_more _ _ c.ended-answer.result (λ fault is. c.in-Ok.ensures.answer.unfailed ∙ sym (lost_late _ _ fault is.0).2) c.ended-answer.ensures.fault

pub returns-in-Ok-clause-untouched : goal.returns-in-Ok-clause-untouched
returns-in-Ok-clause-untouched g c = err_more _ _ c.ended-answer.result (λ fault is early. absurd (both_ways (is_told_late fault) early (lost_late _ _ fault is.0).0)) c.ended-answer.ensures.fault

pub returns-in-Ok-clause-cut : goal.returns-in-Ok-clause-cut
returns-in-Ok-clause-cut g c = err_more _ _ c.ended-answer.result (λ fault is e. absurd ((lost_late _ _ fault is.0).1 e)) c.ended-answer.ensures.fault

pub returns-clause-cut : goal.returns-clause-cut
returns-clause-cut g c = λ e. record {
  inputs = run_inputs _ _ _ _ c.args.line.now _ c.in_ok-formula.formula c.check_with_steps.new.formula c.in_ok-streams.streams.items c.in_ok-closing.closing c.deref.ensures.value c.in_ok-formula.ensures.same
      c.in_ok-streams.ensures.same c.in_ok-formula.ensures.opened c.in_ok-streams.ensures.opened c.in_ok-closing.ensures.opened;
  cut = check_cut _ _ _ _ _ _ _ _ _ c.in-Err.fault c.in-Err.ensures.fault.why (sym c.fault_of.ensures ∙ e);
}

pub returns-clause-fault : goal.returns-clause-fault
returns-clause-fault g c =
    rw c.fault_of.ensures (check_fault _ _ (line_asked c.args.line.now) _ c.args.line.now.formula
    (run_inputs _ _ _ _ c.args.line.now _ c.in_ok-formula.formula c.check_with_steps.new.formula c.in_ok-streams.streams.items c.in_ok-closing.closing c.deref.ensures.value c.in_ok-formula.ensures.same
    c.in_ok-streams.ensures.same c.in_ok-formula.ensures.opened c.in_ok-streams.ensures.opened c.in_ok-closing.ensures.opened) _ _ _ _ c.in-Err.fault refl c.in-Err.ensures.fault.why)

pub returns-in_err-formula-clause-fault : goal.returns-in_err-formula-clause-fault
returns-in_err-formula-clause-fault g c = passed_on _ c.from_residual.result _ c.from_residual.ensures.1
    (formula_unopened (source_state g.F.Input.Source.given g.F.Input.Source.ended g.F.Input.Source.rest g.F.Input.Source.failures)
    (sink_state g.F.Output.Sink.taken g.F.Output.Sink.failures) (line_asked c.args.line.now) (λ path. g.F.Files.content c.args.files.now path) _ _ c.in_err-formula.field-0.0
    c.in_err-formula.ensures.fault)

pub returns-in_err-proof-clause-fault : goal.returns-in_err-proof-clause-fault
returns-in_err-proof-clause-fault g c = passed_on _ c.from_residual-in_err-proof.result _ c.from_residual-in_err-proof.ensures.1
    (create_fault (source_state g.F.Input.Source.given g.F.Input.Source.ended g.F.Input.Source.rest g.F.Input.Source.failures)
    (sink_state g.F.Output.Sink.taken g.F.Output.Sink.failures) (line_asked c.args.line.now) (λ path. g.F.Files.content c.args.files.now path) _ _ _ c.in_err-proof.field-0.0
    (c.in_ok-closing.ensures.tried ∙ c.in_ok-streams.ensures.tried ∙ c.in_ok-formula.ensures.tried) c.in_err-proof.ensures.fault)

pub returns-in_err-streams-clause-fault : goal.returns-in_err-streams-clause-fault
returns-in_err-streams-clause-fault g c = passed_on _ c.from_residual-in_err-streams.result _ c.from_residual-in_err-streams.ensures.1
    (open_fault _ _ (line_asked c.args.line.now) _ _ _ _ _ _ _
    (λ path h. inr (among_streams _ c.args.line.now.proofs.items (line_asked c.args.line.now).closing path c.deref.ensures.value h)) c.in_ok-formula.ensures.same c.in_ok-formula.ensures.tried
    c.in_err-streams.ensures.fault)

pub returns-in_err-closing-clause-fault : goal.returns-in_err-closing-clause-fault
returns-in_err-closing-clause-fault g c = passed_on _ c.from_residual-in_err-closing.result _ c.from_residual-in_err-closing.ensures.1
    (open_fault _ _ (line_asked c.args.line.now) _ _ _ _ _ _ _
    (λ path h. inr (among_closing (line_asked c.args.line.now).proofs c.args.line.now.closing path h)) (λ other. c.in_ok-streams.ensures.same other ∙ c.in_ok-formula.ensures.same other)
    (c.in_ok-streams.ensures.tried ∙ c.in_ok-formula.ensures.tried) c.in_err-closing.ensures.fault)

pub returns-in_err-formula-clause-created : goal.returns-in_err-formula-clause-created
returns-in_err-formula-clause-created g c = none_more _ _ _ _ refl c.in_err-formula.ensures.none_created

pub returns-in_err-streams-clause-created : goal.returns-in_err-streams-clause-created
returns-in_err-streams-clause-created g c = none_more _ _ _ _ c.in_ok-formula.ensures.tried c.in_err-streams.ensures.none_created

pub returns-in_err-closing-clause-created : goal.returns-in_err-closing-clause-created
returns-in_err-closing-clause-created g c = none_more _ _ _ _ (c.in_ok-streams.ensures.tried ∙ c.in_ok-formula.ensures.tried) c.in_err-closing.ensures.none_created

pub returns-in_err-proof-clause-created : goal.returns-in_err-proof-clause-created
returns-in_err-proof-clause-created g c =
    none_more _ _ _ _ (c.in_ok-closing.ensures.tried ∙ c.in_ok-streams.ensures.tried ∙ c.in_ok-formula.ensures.tried) c.in_err-proof.ensures.none_created

pub returns-in-Ok-clause-created : goal.returns-in-Ok-clause-created
returns-in-Ok-clause-created g c =
    one_created _ _ _ _ (c.in_ok-closing.ensures.tried ∙ c.in_ok-streams.ensures.tried ∙ c.in_ok-formula.ensures.tried) c.in_ok-proof.ensures.tried

pub returns-clause-created : goal.returns-clause-created
returns-clause-created g c =
    one_created _ _ _ _ (c.in_ok-closing.ensures.tried ∙ c.in_ok-streams.ensures.tried ∙ c.in_ok-formula.ensures.tried) c.in_ok-proof.ensures.tried

pub returns-in-Ok-clause-explained : goal.returns-in-Ok-clause-explained
returns-in-Ok-clause-explained g c =
    told_on c.ended-answer.result c.args.line.now.explain _ _ _ _ _ _ _ c.in-Ok.ensures.explained c.as_str.ensures.value (λ silent. ap g.E.Sink.taken (c.tell_why.ensures.quiet silent)) c.tell_why.ensures.told
