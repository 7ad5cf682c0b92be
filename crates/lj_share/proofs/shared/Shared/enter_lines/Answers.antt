use Rattle.std.proofs.Common.{◌≡◌, ◌+◌, Option, Some, subst, sym, take, ◌∙◌}
use Rattle.std.specs.Prelude.{IfSome}
use Rattle.lj_share.specs.Refusals.{IsLineRefused}
use Rattle.lj_share.specs.declared.numbered.Numbered.{Numbered}
use Rattle.lj_share.proofs.AheadLaws.{get_behind, none_of, turns_on, within_on}
use Rattle.lj_share.proofs.EnteredLaws.{calls_entered, entered_plus, number_entered}
use Rattle.lj_share.proofs.shared.Shared.enter_lines.Goals as goal

pub returns-then-is_some-clause-entered : goal.returns-then-is_some-clause-entered
returns-then-is_some-clause-entered g c =
    entered_plus c.args.seat.now c.loop.seat c.enter_some-entered.new.seat c.args.lines.now c.loop.done c.enter_some-entered.result.0 c.loop.invariant.entered c.enter_some-entered.ensures.entered

pub returns-then-is_some-clause-number : goal.returns-then-is_some-clause-number
returns-then-is_some-clause-number g c =
    number_entered c.args.seat.now c.enter_some-entered.new.seat (take (c.loop.done + c.enter_some-entered.result.0) c.args.lines.now) (entered_plus c.args.seat.now c.loop.seat c.enter_some-entered.new.seat c.args.lines.now c.loop.done c.enter_some-entered.result.0 c.loop.invariant.entered c.enter_some-entered.ensures.entered)

pub returns-then-is_some-clause-calls : goal.returns-then-is_some-clause-calls
returns-then-is_some-clause-calls g c =
    calls_entered c.args.seat.now c.enter_some-entered.new.seat (take (c.loop.done + c.enter_some-entered.result.0) c.args.lines.now) (entered_plus c.args.seat.now c.loop.seat c.enter_some-entered.new.seat c.args.lines.now c.loop.done c.enter_some-entered.result.0 c.loop.invariant.entered c.enter_some-entered.ensures.entered)

pub returns-then-is_some-clause-refused : goal.returns-then-is_some-clause-refused
returns-then-is_some-clause-refused g c =
    let after = c.enter_some-entered.new.seat in
    subst (λ (o : Option Numbered). IfSome c.enter_some-entered.result.1 (λ e. (x : Numbered) × (o ≡ Some x) × IsLineRefused g.L.BookId.formula g.L.BookId.seats g.L.BookId.max_steps after x.line e))
    (get_behind c.args.lines.now c.loop.done c.enter_some-entered.result.0) c.enter_some-entered.ensures.refused

pub returns-then-done-lines-clause-entered : goal.returns-then-done-lines-clause-entered
returns-then-done-lines-clause-entered g c =
    entered_plus c.args.seat.now c.loop.seat c.enter_some-entered.new.seat c.args.lines.now c.loop.done c.enter_some-entered.result.0 c.loop.invariant.entered c.enter_some-entered.ensures.entered

pub returns-then-done-lines-clause-number : goal.returns-then-done-lines-clause-number
returns-then-done-lines-clause-number g c =
    number_entered c.args.seat.now c.enter_some-entered.new.seat (take (c.loop.done + c.enter_some-entered.result.0) c.args.lines.now) (entered_plus c.args.seat.now c.loop.seat c.enter_some-entered.new.seat c.args.lines.now c.loop.done c.enter_some-entered.result.0 c.loop.invariant.entered c.enter_some-entered.ensures.entered)

pub returns-then-done-lines-clause-calls : goal.returns-then-done-lines-clause-calls
returns-then-done-lines-clause-calls g c =
    calls_entered c.args.seat.now c.enter_some-entered.new.seat (take (c.loop.done + c.enter_some-entered.result.0) c.args.lines.now) (entered_plus c.args.seat.now c.loop.seat c.enter_some-entered.new.seat c.args.lines.now c.loop.done c.enter_some-entered.result.0 c.loop.invariant.entered c.enter_some-entered.ensures.entered)

pub returns-clause-number : goal.returns-clause-number
returns-clause-number g c = number_entered c.args.seat.now c.loop.seat (take c.loop.done c.args.lines.now) c.loop.invariant.entered

pub returns-clause-calls : goal.returns-clause-calls
returns-clause-calls g c = calls_entered c.args.seat.now c.loop.seat (take c.loop.done c.args.lines.now) c.loop.invariant.entered

pub loop-preserved : goal.loop-preserved
loop-preserved g c =
    let i = c.loop.invariant in
    let ls = c.args.lines.now in
    let done = c.loop.done in
    let entered = c.enter_some-entered.result.0 in
    let after = c.enter_some-entered.new.seat in
    let none = none_of c.enter_some-entered.result.1 (sym c.is_some.ensures ∙ c.if-is_some.false) in
    record {
      entered = entered_plus c.args.seat.now c.loop.seat after ls done entered i.entered c.enter_some-entered.ensures.entered;
      within = within_on ls done entered i.within c.enter_some-entered.ensures.within;
      turns = turns_on ls c.loop.counter done entered c.enter_some-entered.result.1 i.turns c.loop-test.true c.enter_some-entered.ensures.some none;
    }
