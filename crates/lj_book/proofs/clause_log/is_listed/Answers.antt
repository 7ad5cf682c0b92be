use Rattle.std.proofs.Common.{ap, ◌∙◌, ℕ, ◌+◌, ◌≤◌, arith}
use Rattle.lj_book.specs.Tables.{is_among}
use Rattle.lj_book.specs.inner.Occurrences.{list_at, keys_of, put_if}
use Rattle.lj_book.proofs.OccurrenceLaws.{clause_listed}
use Rattle.lj_book.proofs.clause_log.is_listed.Goals as goal

pub returns : goal.returns
returns c = λ p are ok.
    let d = c.args.clause.now in
    let capacity : c.args.last + 1 ≤ c.args.number = omega arith in
    clause_listed c.args.lists.now c.add_clause.new.self p (c.args.last + 1) c.args.number d are capacity
    (λ k. c.add_clause.ensures ok k ∙ ap (λ (s : ℕ). put_if (is_among (keys_of d) k) (list_at c.args.lists.now k) s) c.in-Ok.ensures.1)
