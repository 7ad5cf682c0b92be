use Rattle.std.proofs.Common.{take, string_bytes}
use Rattle.lj_run.specs.Explanation.{AreSentences}
use Rattle.lj_run.proofs.explaining.sentences_of.Given as goal

-- the text has what is said of the streams so far
abbrev pub invariant-loop-stream : goal.invariant-loop-stream
invariant-loop-stream g l = AreSentences 0 (take l.stream l.reports) (string_bytes l.told)
