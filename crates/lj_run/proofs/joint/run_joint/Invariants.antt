use Rattle.std.proofs.Common.{length}
use Rattle.lj_run.specs.InTurn.{streams_by_seat}
use Rattle.lj_run.proofs.joint.run_joint.Given as goal

abbrev pub ghosts-run_opened-L-BookId : goal.ghosts-run_opened-L-BookId
ghosts-run_opened-L-BookId g a = record { formula = a.formula; seats = length (streams_by_seat a.streams.items a.closing); max_steps = a.max_steps; lists = a.opening_parts.lists; log = a.opening_parts.log }

abbrev pub ghosts-run_opened-L-Ledger : goal.ghosts-run_opened-L-Ledger
ghosts-run_opened-L-Ledger g a = record { name = a.opening_parts.name; parts = a.opening_parts.parts }
