use Rattle.std.proofs.Common.{◌∙◌, sym}
use Rattle.lj_trim.specs.inner.Trimmed.{keeps}
use Rattle.lj_trim.proofs.TrimmedLemmas.{whole}
use Rattle.lj_trim.proofs.trimming.trimmed_step.Goals as goal

pub returns-then-all_kept : goal.returns-then-all_kept
returns-then-all_kept c =
    whole (keeps c.args.clauses c.args.marks.now) c.args.step.now c.in-Add.addition c.in-Add.is
    (sym c.is_kept.ensures ∙ c.if-not-is_kept.false) (sym c.all_kept.ensures ∙ c.if-all_kept.true)
