use Rattle.std.proofs.Common.{subst, sym}
use Rattle.lj_text.specs.declared.line.Addition.{Addition}
use Rattle.lj_text.specs.declared.line.Line.{Line}
use Rattle.lj_text.specs.declared.line.Line.TheVariants as lines
use Rattle.lj_share.specs.inner.Seats.{IsTakenBack}
use Rattle.lj_share.proofs.kept.take_back.Goals as goal

pub returns-in-Add : goal.returns-in-Add
returns-in-Add c = subst (λ (x : Line). IsTakenBack x c.args.kept.now c.unbind.new.kept) (sym c.in-Add.is) (subst (λ (a : Addition). IsTakenBack (lines.Add a) c.args.kept.now c.unbind.new.kept) c.deref.ensures (c.unbind.ensures c.deref.result.now.lemma.clause))

pub returns-in-Import : goal.returns-in-Import
returns-in-Import c = subst (λ (x : Line). IsTakenBack x c.args.kept.now c.unbind-in-Import.new.kept) (sym c.in-Import.is) (c.unbind-in-Import.ensures c.in-Import.clause)
