use Rattle.std.specs.Prelude.{◌≡◌}
use Rattle.lj_share.proofs.entry_log.EntryLog.keep.Given as goal

-- an entry that comes back is the one that was given
abbrev pub invariant-loop : goal.invariant-loop
invariant-loop g l = l.entry ≡ l.fn.entry
