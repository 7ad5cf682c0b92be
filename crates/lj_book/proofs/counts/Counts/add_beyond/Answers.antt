use Rattle.std.proofs.Common.{ap, sym, ◌∙◌, ◌+◌, arith}
use Rattle.lj_book.specs.inner.Holders.{Counted, count_at, count_beyond}
use Rattle.lj_book.proofs.Slots.{ok_then}
use Rattle.lj_book.proofs.CountLaws.{one_beyond}
use Rattle.lj_book.proofs.counts.Counts.add_beyond.Goals as goal

pub returns-clause-ok : goal.returns-clause-ok
returns-clause-ok c = ok_then c.insert.result _ _ c.insert.ensures.ok (λ e q.
    let is = c.beyond-count.ensures ∙ ap (λ (m : Counted). count_beyond m.1 c.args.number) (sym c.self.view_is) in
    let a = one_beyond c.self.inside.beyond c.insert.new.self c.args.number (c.beyond-count.result + 1) q (ap (λ n. n + 1) is) e in
    let b = ap (λ (m : Counted). count_at m q) c.self.view_is in
    omega arith)
