use Rattle.std.proofs.Common.{◌∙◌, sym, ap}
use Rattle.std.specs.Prelude.{is_some}
use Rattle.lj_run.specs.Proof.{sink_state, written_steps}
use Rattle.lj_run.proofs.ProofLemmas.{written-untrimmed, written-none, front_written}
use Rattle.lj_run.proofs.proving.prove.Goals as goal
use Rattle.lj_run.proofs.proving.prove.Goals.{in_default-verified-via-in-Some-verified+else-trims, in_default-verified-via-in_default-verified}

pub returns-in_default-verified : goal.returns-in_default-verified
returns-in_default-verified g c f count same =
    front_written (sink_state g.W.Sink.taken g.W.Sink.failures) f c.args.clauses c.args.trims c.args.steps.now c.args.out.now c.in-Some.sink c.write_untrimmed.new.sink c.write_untrimmed.result
    c.in-Some.is count
    (elim c.in_default-verified.branch [
      | in_default-verified-via-in-Some-verified+else-trims w ↦ ap (λ t. written_steps f t c.args.steps.now) w.if-trims.false ∙ written-untrimmed f c.args.steps.now
      | in_default-verified-via-in_default-verified w ↦ written-none f c.args.trims c.args.steps.now (sym c.requires.verified ∙ ap is_some w.in_default-verified.is)
    ])
    c.write_untrimmed.ensures
