use Rattle.std.proofs.Common.{ap, sym, ◌∙◌, subst, ◌-◌, ◌<◌, arith}
use Rattle.lj_book.specs.inner.Holders.{Counted, count_at, count_beyond}
use Rattle.lj_book.proofs.CountLaws.{one_less_beyond}
use Rattle.lj_book.proofs.counts.Counts.take_beyond.Goals as goal

pub returns : goal.returns
returns c = λ q.
    let m = c.self.inside.beyond in
    let is = c.beyond-count.ensures ∙ ap (λ (n : Counted). count_beyond n.1 c.args.number) (sym c.self.view_is) in
    let some : 0 < count_beyond m c.args.number = subst (λ (n : Counted). 0 < count_beyond n.1 c.args.number) (sym c.self.view_is) c.requires in
    let a = one_less_beyond m c.insert.new.self c.args.number (c.beyond-count.result - 1) q c.insert.result some (ap (λ n. n - 1) is) c.insert.ensures.ok c.insert.ensures.absent in
    let b = ap (λ (n : Counted). count_at n q) c.self.view_is in
    omega arith
