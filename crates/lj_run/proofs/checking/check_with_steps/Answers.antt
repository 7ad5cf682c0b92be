use Rattle.std.proofs.Common.{◌+◌, ◌++◌, ◌∙◌, ap, refl, inr, string_bytes}
use Rattle.lj_run.specs.Checking.{verdict_of}
use Rattle.lj_run.proofs.CheckLemmas.{checked_of, text_printed, text_refused}
use Rattle.lj_run.proofs.checking.check_with_steps.Goals as goal

pub returns-in-Ok-clause-answer : goal.returns-in-Ok-clause-answer
returns-in-Ok-clause-answer g c = record {
  text = c.as_bytes.result.now;
  took = c.in-Ok.ensures.taken;
  printed = checked_of _ _ _ _ _ _ _ _ _ _ _ _ c.in_ok-outcome.outcome c.in_ok-outcome.ensures.outcome c.verdict_on.ensures refl (c.as_bytes.ensures.value ∙ c.in_ok-text.ensures);
  unfailed = c.in-Ok.ensures.ok ∙ c.requires.out_unfailed;
}

pub returns-in-Err-clause-fault : goal.returns-in-Err-clause-fault
returns-in-Err-clause-fault g c = record {
  why = record {
    verdict = verdict_of c.in_ok-outcome.outcome.verified;
    text = c.as_bytes.result.now;
    printed = text_printed _ _ _ _ _ _ _ _ _ _ _ _ c.in_ok-outcome.outcome c.in_ok-outcome.ensures.outcome refl (c.as_bytes.ensures.value ∙ c.in_ok-text.ensures);
    count = c.in-Err.ensures.beginning.0;
    not_all = c.in-Err.ensures.beginning.1;
    took = c.in-Err.ensures.beginning.2;
  };
  untouched = λ other. absurd (other refl);
  failed = λ _. c.in-Err.ensures.err ∙ ap (λ n. n + 1) c.requires.out_unfailed;
  written = λ _. (c.in_ok-outcome.outcome, c.in_ok-outcome.ensures.outcome);
  early = λ e. absurd e;
  proof = inr (c.in_ok-outcome.outcome, c.in_ok-outcome.ensures.outcome);
}

pub returns-in_err-text-clause-fault : goal.returns-in_err-text-clause-fault
returns-in_err-text-clause-fault g c = text_refused _ _ _ _ _ _ _ _ _ _ _ _ _ c.from_residual-in_err-text.result c.in_ok-outcome.outcome c.from_residual-in_err-text.ensures.1 c.in_ok-outcome.ensures.outcome refl

pub returns-in-Ok-clause-explained : goal.returns-in-Ok-clause-explained
returns-in-Ok-clause-explained g c = record {
  outcome = c.in_ok-outcome.outcome;
  printed = c.in-Ok.ensures.taken ∙ ap (λ t. g.O.Sink.taken c.args.out.now ++ t) (c.as_bytes.ensures.value ∙ c.in_ok-text.ensures);
  said = string_bytes c.in_ok-outcome.outcome.explanation;
  explanation = c.in_ok-outcome.ensures.explained;
  told = refl;
}
