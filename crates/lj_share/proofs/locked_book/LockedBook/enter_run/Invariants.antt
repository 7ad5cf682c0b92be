use Rattle.std.specs.Prelude.{◌≡◌, length, take}
use Rattle.lj_share.specs.Entered.{AreEntered}
use Rattle.lj_share.specs.inner.Seats.{clauses_seen}
use Rattle.lj_share.specs.inner.Ahead.{AreSeen, clauses_behind}
use Rattle.lj_share.specs.inner.Runs.{views_behind}
use Rattle.lj_share.proofs.locked_book.LockedBook.enter_run.Given as goal

-- the lines so far are entered under their joint numbers, and the seat sees the clauses behind them
abbrev pub invariant-loop-k : goal.invariant-loop-k
invariant-loop-k g l = record {
  entered : AreEntered l.fn.account (take l.k l.fn.lines) l.account;
  seen : AreSeen (clauses_behind (clauses_seen l.fn.account.view) (take l.k l.fn.lines)) l.account.view;
  view : l.account.view ≡ views_behind l.fn.account.view l.fn.lines l.joints l.k;
  many : length l.joints ≡ length l.fn.joints;
}
