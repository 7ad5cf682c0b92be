use Rattle.std.proofs.Common.{◌≡◌, ◌∙◌, refl, rules, subst}
use Rattle.std.specs.Prelude.{IfSome}
use Rattle.lj_clause.specs.ClauseMap.{FormulaValue}
use Rattle.lj_text.specs.Streams.{source_state}
use Rattle.lj_run.specs.InTurn.{streams_by_seat}
use Rattle.lj_run.specs.Proof.{sink_state}
use Rattle.lj_run.specs.declared.outcome.Outcome.{Outcome}
use Rattle.lj_run.specs.declared.outcome.Way.TheVariants.{OnThreads}
use Rattle.lj_run.proofs.JointRunLemmas.{joint_outcome_is, streams_counted}
use Rattle.lj_run.proofs.WayLemmas.{answer_by}
use Rattle.lj_run.proofs.FormulaLemmas.{joint_want_told}
use Rattle.lj_run.proofs.joint.run_joint.Goals as goal

pub returns-clause-outcome : goal.returns-clause-outcome
returns-clause-outcome g c =
    let seen = source_state g.S.Source.given g.S.Source.ended g.S.Source.rest g.S.Source.failures in
    let sink = sink_state g.W.Sink.taken g.W.Sink.failures in
    let f = c.in_ok-formula.formula in
    let max = c.args.options.now.max_steps in
    let trims = c.args.options.now.trim in
    let streams = streams_by_seat c.args.streams.items c.args.closing in
    let outcome : Outcome g.row.S.Denot = record { reports = c.in_ok-reports.reports; verified = c.in_ok-verified.verified; steps = c.into_steps-steps.result; proof = c.prove-proof.result; explanation = c.explanation_of-explanation.result } in
    let is = joint_outcome_is seen f max streams c.in_ok-reports.book outcome c.in_ok-reports.ensures.ran c.into_steps-steps.ensures c.live_is_the_replay.ensures c.in_ok-verified.ensures.some c.in_ok-verified.ensures.refuted c.in_ok-verified.ensures.formula in
    let formula : IfSome c.in_ok-verified.verified (λ h. h ≡ f) = subst (λ (h : FormulaValue). IfSome c.in_ok-verified.verified (λ k. k ≡ h)) c.in_ok-reports.ensures.ran.opened.formula_is c.in_ok-verified.ensures.formula in
    answer_by OnThreads _ _ seen sink f max trims streams _ _ outcome c.in_ok-reports.book c.in_ok-formula.ensures.formula is
    c.in_ok-reports.ensures.ran.legal c.in_ok-reports.ensures.ran.opened.formula_is c.into_steps-steps.ensures
    (c.prove-proof.ensures f c.len-clauses.ensures.len formula)

pub returns-in_err-verified-clause-fault : goal.returns-in_err-verified-clause-fault
returns-in_err-verified-clause-fault g c =
    joint_want_told c.from_residual-in_err-verified.result _ _ _ _ _ _ c.in_err-verified.field-0.0 c.in_ok-formula.ensures.formula.all c.from_residual-in_err-verified.ensures.1

pub run_opened-requires-clause-parts : goal.run_opened-requires-clause-parts
run_opened-requires-clause-parts g c κs within =
    let many = streams_counted c.args.streams.items c.args.closing c.len.result c.from.result (search rules) (search rules) in
    (refl, c.in_ok-opening_parts.ensures ∙ many)
