use Rattle.std.specs.Prelude.{◌≡◌, ◌↔◌, drop}
use Rattle.lj_share.specs.Entries.{entries_of}
use Rattle.lj_share.proofs.closed.Closed.confirm.Given as goal

-- all of the seat's entries are those of the tokens, exactly where those that are left are
abbrev pub invariant-loop-position : goal.invariant-loop-position
invariant-loop-position g l = (entries_of l.seat l.self.history ≡ l.told) ↔ (entries_of l.seat (drop l.position l.self.history) ≡ l.rest)
