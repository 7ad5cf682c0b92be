use Rattle.lj_text.specs.Streams.{source_state}
use Rattle.lj_run.proofs.InTurnLemmas.{report_is, same_formula}
use Rattle.lj_run.proofs.in_turn.run_of.Goals as goal

pub returns-clause-report : goal.returns-clause-report
returns-clause-report g c =
    let seen = source_state g.S.Source.given g.S.Source.ended g.S.Source.rest g.S.Source.failures in
    report_is seen c.args.number c.run_stream.new.seat.number c.args.seat.now.book c.run_stream.new.seat.book c.args.stream c.run_stream.result c.run_stream.ensures

pub returns-clause-formula : goal.returns-clause-formula
returns-clause-formula g c =
    let seen = source_state g.S.Source.given g.S.Source.ended g.S.Source.rest g.S.Source.failures in
    same_formula seen c.args.number c.run_stream.new.seat.number c.args.seat.now.book c.run_stream.new.seat.book c.args.stream c.run_stream.result c.run_stream.ensures
