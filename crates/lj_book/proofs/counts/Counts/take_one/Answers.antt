use Rattle.std.proofs.Common.{ap, ◌∙◌, sym, ◌-◌, ℕ, arith}
use Rattle.std.specs.Prelude.{List}
use Rattle.lj_book.specs.inner.Holders.{Counted, count_at, slot_count}
use Rattle.lj_book.proofs.CountLaws.{slot_is, slot_within, one_less}
use Rattle.lj_book.proofs.counts.Counts.take_one.Goals as goal

pub index_mut-requires : goal.index_mut-requires
index_mut-requires c =
    let xs = c.self.inside.slots.items in
    let is = c.count_in.ensures ∙ ap (λ (ys : List ℕ). slot_count ys c.args.number) c.deref.ensures.value in
    let there = slot_within xs c.args.number c.count_in.result is (omega (arith, c.if-count_in-eq0.false)) in
    omega (arith, c.self.inside.slots.ok.0)

pub overflow_sub-index_mut : goal.overflow_sub-index_mut
overflow_sub-index_mut c =
    let xs = c.self.inside.slots.items in
    let is = c.count_in.ensures ∙ ap (λ (ys : List ℕ). slot_count ys c.args.number) c.deref.ensures.value in
    let there = slot_within xs c.args.number c.count_in.result is (omega (arith, c.if-count_in-eq0.false)) in
    let same = c.index_mut.ensures.value ∙ sym (slot_is xs c.args.number _ there) in
    omega (arith, c.if-count_in-eq0.false)

pub returns : goal.returns
returns c = λ q.
    let xs = c.self.inside.slots.items in
    let is = c.count_in.ensures ∙ ap (λ (ys : List ℕ). slot_count ys c.args.number) c.deref.ensures.value in
    let there = slot_within xs c.args.number c.count_in.result is (omega (arith, c.if-count_in-eq0.false)) in
    let same = c.index_mut.ensures.value ∙ sym (slot_is xs c.args.number _ there) in
    let a = one_less xs c.args.number (c.index_mut.result.now - 1) q there (omega (arith, c.if-count_in-eq0.false)) in
    let b = ap (λ (m : Counted). count_at m q) c.self.view_is in
    omega arith
