use Rattle.std.proofs.Common.{refl, subst}
use Rattle.lj_text.specs.Writer.{WriterValue}
use Rattle.lj_text.specs.Writing.{IsBeginning}
use Rattle.lj_text.proofs.writer.ProofWriter.step.Goals as goal

pub returns-then-self-clause-within : goal.returns-then-self-clause-within
returns-then-self-clause-within g c =
    let P : WriterValue g.row.W.Denot → Type 0 = λ v. IsBeginning (g.W.Sink.taken v.sink) v.text in
    subst P c.self.view_is (c.self.inside.buffer, refl)
