use Rattle.std.specs.Prelude.{◌≤◌, length, take}
use Rattle.lj_share.specs.Entered.{AreEntered}
use Rattle.lj_share.proofs.shared.Shared.enter_lines.Given as goal

-- the lines up to `done` are entered, one at least in each turn
abbrev pub invariant-loop : goal.invariant-loop
invariant-loop g l = record {
  entered : AreEntered l.fn.seat (take l.done l.fn.lines) l.seat;
  within : l.done ≤ length l.fn.lines;
  turns : l.counter ≤ l.done;
}
