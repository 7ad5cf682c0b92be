use Rattle.std.proofs.Common.{◌≡◌, [], take, map}
use Rattle.lj_text.specs.StepText.{text_after}
use Rattle.lj_text.specs.inner.StepText.{greatest_number}
use Rattle.lj_text.specs.inner.Writing.{Wrote}
use Rattle.lj_text.proofs.writer.write_proof.Given as goal

-- the first steps are written
abbrev pub invariant-loop-lender : goal.invariant-loop-lender
invariant-loop-lender g l =
    let steps = map g.S.AsStep.step l.steps in
    record {
      wrote : Wrote (g.W.Sink.taken l.fn.sink) [] (g.W.Sink.taken l.sink) l.buffer (text_after l.clauses (take l.lender-index steps));
      greatest_is : l.greatest ≡ greatest_number l.clauses (take l.lender-index steps);
      unfailed : g.W.Sink.failures l.sink ≡ 0;
    }
