use Rattle.std.proofs.Common.{◌≡◌, false}
use Rattle.lj_script.proofs.texts.lines_of.Given as goal

abbrev pub invariant-loop-piece : goal.invariant-loop-piece
invariant-loop-piece l = l.reader.finished ≡ false
