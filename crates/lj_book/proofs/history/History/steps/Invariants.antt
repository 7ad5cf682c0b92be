use Rattle.std.specs.Prelude.{◌≡◌, take, filter_map}
use Rattle.lj_book.proofs.RecordLaws.{step_at}
use Rattle.lj_book.proofs.history.History.steps.Given as goal

-- the steps of the entries so far
abbrev pub invariant-loop-start : goal.invariant-loop-start
invariant-loop-start l = l.steps.items ≡ filter_map (step_at l.self-inside.lits.items l.self-inside.encoding.items) (take l.start-index l.start-items)
