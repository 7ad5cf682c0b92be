use Rattle.std.proofs.Common.{ap, sym, ◌∙◌, ◌+◌}
use Rattle.lj_book.specs.inner.Holders.{one_if_at, count_at}
use Rattle.lj_book.proofs.seat_tables.unbind_in.Goals as goal

pub returns-clause-holders : goal.returns-clause-holders
returns-clause-holders c =
    λ q. c.take_one.ensures q
    ∙ ap (λ o. one_if_at o q + count_at c.take_one.new.self q) (sym (sym c.in-Some.ensures.before))
