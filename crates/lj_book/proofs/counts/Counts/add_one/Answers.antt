use Rattle.std.proofs.Common.{ap, ◌∙◌, sym, ◌+◌, arith}
use Rattle.lj_book.specs.inner.Holders.{Counted, count_at}
use Rattle.lj_book.proofs.CountLaws.{slot_is, one_more}
use Rattle.lj_book.proofs.counts.Counts.add_one.Goals as goal

pub returns-clause-ok : goal.returns-clause-ok
returns-clause-ok c = λ q.
    let xs = c.cover.new.slots.items in
    let there = c.in_ok-cover.ensures.there in
    let is = c.index_mut.ensures.value ∙ sym (slot_is xs c.args.number _ there) in
    let a = one_more xs c.args.number (c.index_mut.result.now + 1) q there (ap (λ n. n + 1) is) in
    let b = c.in_ok-cover.ensures.same q in
    let d = ap (λ (m : Counted). count_at m q) c.self.view_is in
    omega arith
