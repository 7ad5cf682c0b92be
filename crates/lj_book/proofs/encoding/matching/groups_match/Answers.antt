use Rattle.std.proofs.Common.{◌∙◌, sym}
use Rattle.lj_book.specs.inner.Encoding.{number_in, hint_group_in}
use Rattle.lj_book.proofs.WordLaws.{other_length}
use Rattle.lj_book.proofs.encoding.matching.groups_match.Goals as goal

pub returns-then-count-len-clause-other : goal.returns-then-count-len-clause-other
returns-then-count-len-clause-other c =
    other_length hint_group_in (number_in c.args.encoding.now).0 (number_in c.args.encoding.now).1 c.args.groups.now
    (λ e. c.if-count-len.true (c.number-count.ensures.number ∙ e ∙ sym c.len.ensures))
