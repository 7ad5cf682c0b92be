use Rattle.std.proofs.Common.{ℕ, subst, sym}
use Rattle.std.specs.Prelude.{List}
use Rattle.lj_text.specs.declared.line.Addition.{Addition}
use Rattle.lj_text.specs.declared.line.Line.{Line}
use Rattle.lj_text.specs.declared.line.Line.TheVariants as lines
use Rattle.lj_share.specs.inner.Seats.{IsFinished}
use Rattle.lj_share.proofs.kept.finish.Goals as goal

pub returns-in-Add : goal.returns-in-Add
returns-in-Add c = subst (λ (x : Line). IsFinished x c.args.joint c.args.kept.now c.settle.new.kept) (sym c.in-Add.is) (subst (λ (a : Addition). IsFinished (lines.Add a) c.args.joint c.args.kept.now c.settle.new.kept) c.deref.ensures (c.settle.ensures c.deref.result.now.lemma.clause))

pub returns-in-Delete : goal.returns-in-Delete
returns-in-Delete c = subst (λ (x : Line). IsFinished x c.args.joint c.args.kept.now c.give_up.new.kept) (sym c.in-Delete.is) (subst (λ (ns : List ℕ). IsFinished (lines.Delete ns) c.args.joint c.args.kept.now c.give_up.new.kept) c.deref-in-Delete.ensures c.give_up.ensures)

pub returns-in-Import : goal.returns-in-Import
returns-in-Import c = subst (λ (x : Line). IsFinished x c.args.joint c.args.kept.now c.settle-in-Import.new.kept) (sym c.in-Import.is) (c.settle-in-Import.ensures c.in-Import.clause)
