use Rattle.std.proofs.Common.{rules, ◌≡◌, length, subst, ap, sym, ◌∙◌}
use Rattle.std.specs.Prelude.{IfSome}
use Rattle.std.specs.List.{list_any}
use Rattle.lj_clause.specs.ClauseMap.{FormulaValue}
use Rattle.lj_clause.specs.Memory.{no_memory}
use Rattle.lj_text.specs.Streams.{source_state}
use Rattle.lj_text.specs.Steps.{adds_empty}
use Rattle.lj_book.specs.State.{live, steps_of}
use Rattle.lj_book.specs.Named.{NamedState, named_opening, beneath}
use Rattle.lj_run.specs.InTurn.{IsOutcome}
use Rattle.lj_run.specs.Proof.{sink_state}
use Rattle.lj_run.specs.declared.outcome.Outcome.{Outcome}
use Rattle.lj_run.specs.declared.outcome.Way.TheVariants.{InTurn}
use Rattle.lj_run.proofs.InTurnLemmas.{outcome_is, refutes_any}
use Rattle.lj_run.proofs.WayLemmas.{answer_by}
use Rattle.lj_run.proofs.FormulaLemmas.{want_told}
use Rattle.lj_run.proofs.in_turn.run_in_turn.Goals as goal

pub prove-proof-requires-clause-verified : goal.prove-proof-requires-clause-verified
prove-proof-requires-clause-verified g c =
    refutes_any c.in_ok-verified.verified c.run_all.new.seat.book.formula (steps_of c.run_all.new.seat.book.history) (live (beneath c.run_all.new.seat.book)) c.in_ok-verified.ensures.refuted c.live_is_the_replay.ensures
    ∙ ap (list_any adds_empty) (sym c.into_steps-steps.ensures)

pub returns-clause-outcome : goal.returns-clause-outcome
returns-clause-outcome g c =
    let seen = source_state g.S.Source.given g.S.Source.ended g.S.Source.rest g.S.Source.failures in
    let f = c.in_ok-formula.formula in
    let max = c.args.options.now.max_steps in
    let streams = c.in_ok-streams.streams.items in
    let seats : c.len.result ≡ length streams = search rules in
    let opened = c.new-seat.ensures ∙ c.in_ok-book.ensures ∙ ap (λ n. named_opening f n max) seats in
    let same : c.run_all.new.seat.book.formula ≡ f = c.in_ok-reports.ensures.formula ∙ ap (λ (s : NamedState). s.formula) opened in
    let outcome : Outcome g.row.S.Denot = record { reports = c.in_ok-reports.reports; verified = c.in_ok-verified.verified; steps = c.into_steps-steps.result; proof = c.prove-proof.result; explanation = c.explanation_of-explanation.result } in
    let is = outcome_is seen f max streams c.new-seat.result.book c.run_all.new.seat.book outcome opened c.in_ok-reports.ensures.formula c.in_ok-reports.ensures.reports
    c.history_is_legal.ensures c.into_steps-steps.ensures c.live_is_the_replay.ensures c.in_ok-verified.ensures.refuted c.in_ok-verified.ensures.formula in
    let formula : IfSome c.in_ok-verified.verified (λ g. g ≡ f) = subst (λ (h : FormulaValue). IfSome c.in_ok-verified.verified (λ g. g ≡ h)) same c.in_ok-verified.ensures.formula in
    answer_by InTurn _ _ seen (sink_state g.W.Sink.taken g.W.Sink.failures) f max c.args.options.now.trim _ _ _ outcome c.run_all.new.seat.book c.in_ok-formula.ensures.formula
    (subst (λ all. IsOutcome seen f max all outcome) c.in_ok-streams.ensures is) c.history_is_legal.ensures same c.into_steps-steps.ensures
    (c.prove-proof.ensures f c.len-clauses.ensures.len formula)

pub returns-in_err-reports-clause-fault : goal.returns-in_err-reports-clause-fault
returns-in_err-reports-clause-fault g c =
    want_told c.from_residual-in_err-reports.result _ _ _ no_memory c.in_ok-formula.ensures.formula.all c.from_residual-in_err-reports.ensures.1

pub returns-in_err-verified-clause-fault : goal.returns-in_err-verified-clause-fault
returns-in_err-verified-clause-fault g c =
    want_told c.from_residual-in_err-verified.result _ _ _ c.in_err-verified.field-0.0 c.in_ok-formula.ensures.formula.all c.from_residual-in_err-verified.ensures.1
