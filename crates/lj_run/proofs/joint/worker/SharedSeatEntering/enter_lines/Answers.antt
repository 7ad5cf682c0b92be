use Rattle.std.proofs.Common.{take, inl}
use Rattle.lj_share.specs.Refusals.{IsLineRefused}
use Rattle.lj_run.proofs.JointLemmas.{calls_made, calls_many, entered_within, with_unit}
use Rattle.lj_run.proofs.joint.worker.SharedSeatEntering.enter_lines.Goals as goal

pub returns-clause-within : goal.returns-clause-within
returns-clause-within g c =
    entered_within c.args.lines.now c.enter_lines.result.0 c.enter_lines.result.1 (λ e line. IsLineRefused g.L.BookId.formula g.L.BookId.seats g.L.BookId.max_steps c.enter_lines.new.seat line.line e) c.enter_lines.ensures.all c.enter_lines.ensures.refused

pub returns-clause-entered : goal.returns-clause-entered
returns-clause-entered g c =
    (calls_made c.args.self.now.seat.calls c.enter_lines.new.seat.calls (take c.enter_lines.result.0 c.args.lines.now) c.enter_lines.ensures.calls, c.enter_lines.ensures.number)

pub returns-clause-known : goal.returns-clause-known
returns-clause-known g c =
    calls_many c.args.self.now.seat.calls c.enter_lines.new.seat.calls c.args.lines.now c.enter_lines.result.0 (entered_within c.args.lines.now c.enter_lines.result.0 c.enter_lines.result.1 (λ e line. IsLineRefused g.L.BookId.formula g.L.BookId.seats g.L.BookId.max_steps c.enter_lines.new.seat line.line e) c.enter_lines.ensures.all c.enter_lines.ensures.refused) c.enter_lines.ensures.calls

pub returns-clause-all : goal.returns-clause-all
returns-clause-all g c = λ none. inl (c.enter_lines.ensures.all none)

pub returns-clause-refused : goal.returns-clause-refused
returns-clause-refused g c =
    with_unit c.args.lines.now c.enter_lines.result.0 c.enter_lines.result.1 (λ e line. IsLineRefused g.L.BookId.formula g.L.BookId.seats g.L.BookId.max_steps c.enter_lines.new.seat line.line e) c.enter_lines.ensures.refused
