use Rattle.std.proofs.Common.{◌≡◌, false}
use Rattle.lj_script.proofs.texts.tell_lines.Given as goal

abbrev pub invariant-loop : goal.invariant-loop
invariant-loop l = l.reader.finished ≡ false
