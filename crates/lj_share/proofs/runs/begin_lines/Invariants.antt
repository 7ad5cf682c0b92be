use Rattle.std.specs.Prelude.{◌≡◌, IsSome, is_some, length, take}
use Rattle.lj_share.specs.inner.Seats.{clauses_seen, pairs_kept, pairs_seen}
use Rattle.lj_share.specs.inner.Ahead.{AreKept, AreTested, clauses_behind}
use Rattle.lj_share.specs.inner.Dead.{AreDead}
use Rattle.lj_share.specs.inner.Runs.{AreBegun}
use Rattle.lj_share.proofs.runs.begin_lines.Given as goal

-- the lines so far are tested and begun, the numbers that they delete are dead, and the clauses behind them are kept
abbrev pub invariant-loop-k : goal.invariant-loop-k
invariant-loop-k g l =
    let f = g.L.BookId.formula in
    let view = l.fn.account.view in
    let m = clauses_seen view in
    record {
      tested : AreTested m l.fn.lines l.reads l.k;
      begun : AreBegun (pairs_seen view) (take l.k l.fn.lines) (pairs_kept f l.kept);
      there : is_some l.kept ≡ is_some view;
      here : IsSome l.kept;
      dead : AreDead (take l.k l.fn.lines) l.dead;
      kept : AreKept f l.kept l.dead view (clauses_behind m (take l.k l.fn.lines));
      many : length l.reads ≡ length l.fn.reads;
    }
