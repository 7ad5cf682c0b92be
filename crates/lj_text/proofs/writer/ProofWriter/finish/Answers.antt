use Rattle.std.proofs.Common.{subst}
use Rattle.lj_text.specs.Writer.{WriterValue}
use Rattle.lj_text.specs.Writing.{IsBeginning}
use Rattle.lj_text.proofs.writer.ProofWriter.finish.Goals as goal

pub returns-in-Ok-clause-onward : goal.returns-in-Ok-clause-onward
returns-in-Ok-clause-onward g c =
    let P : WriterValue g.row.W.Denot → Type 0 = λ v. IsBeginning (g.W.Sink.taken v.sink) (g.W.Sink.taken c.flush.new.sink) in
    subst P c.self.view_is (c.self.inside.buffer, c.in-Ok.ensures.ok)
