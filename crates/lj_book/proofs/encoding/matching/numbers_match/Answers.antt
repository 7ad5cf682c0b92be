use Rattle.std.proofs.Common.{◌∙◌}
use Rattle.lj_book.specs.inner.Encoding.{number_in}
use Rattle.lj_book.proofs.WordLaws.{other_length}
use Rattle.lj_book.proofs.encoding.matching.numbers_match.Goals as goal

pub returns-then-count-numbers-clause-other : goal.returns-then-count-numbers-clause-other
returns-then-count-numbers-clause-other c =
    other_length number_in (number_in c.args.encoding.now).0 (number_in c.args.encoding.now).1 c.args.numbers.now
    (λ e. c.if-count-numbers.true (c.number-count.ensures.number ∙ e))
