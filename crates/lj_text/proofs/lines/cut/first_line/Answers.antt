use Rattle.std.proofs.Common.{ap, ◌∙◌, arith, get_or}
use Rattle.lj_text.specs.Bytes.{is_line_end}
use Rattle.lj_text.proofs.CutLemmas.{none_up_to}
use Rattle.lj_text.proofs.lines.cut.first_line.Goals as goal

pub returns-clause-line : goal.returns-clause-line
returns-clause-line c =
    let found = c.in_ok-end.ensures in
    let back = c.split_at.ensures.back in
    rw c.split_at-2.ensures.front (none_up_to c.args.bytes.now c.args.searched c.in_ok-end.field-0 (omega (arith, found.0.high, c.split_at.ensures.back_len)) c.requires.none_before
    (λ k lt h. found.0.before k (omega arith) lt (ap (λ bytes. is_line_end (get_or bytes k 0)) back ∙ h)))
