use Rattle.std.proofs.Common.{sym, subst, arith}
use Rattle.std.specs.List.{AllByRecursion}
use Rattle.std.specs.FinMap as fin
use Rattle.lj_book.specs.inner.FirstUses.{IsFirstUse}
use Rattle.lj_book.proofs.FirstUseLaws.{within_more, each_more, after_more}
use Rattle.lj_book.proofs.first_uses.FirstUses.add_clause.Goals as goal

pub returns-then-number-last : goal.returns-then-number-last
returns-then-number-last c = λ p next are le there. record {
  within = within_more p c.args.number c.args.self.now.top c.greatest_variable-self.result c.args.clause.now c.greatest_variable-self.ensures.top c.greatest_variable-self.ensures.all are.within;
  each = subst (AllByRecursion (IsFirstUse (fin.insert p c.args.number c.args.clause.now) next)) (sym c.clear.ensures.items) tt;
}

pub returns-then-self-above : goal.returns-then-self-above
returns-then-self-above c = λ p next are le there.
    c.put.ensures (fin.insert p c.args.number c.args.clause.now) next (record {
      within = within_more p c.args.number c.args.self.now.top c.greatest_variable-self.result c.args.clause.now c.greatest_variable-self.ensures.top c.greatest_variable-self.ensures.all are.within;
      each = each_more p c.args.number c.args.last next c.args.clause.now c.args.self.now.list.items (omega (arith, c.if-number-last.false)) le are.each;
    }) there (after_more p c.args.number c.args.self.now.top c.args.clause.now are.within)

pub returns-else-self-above : goal.returns-else-self-above
returns-else-self-above c = λ p next are le there. record {
  within = within_more p c.args.number c.args.self.now.top c.greatest_variable-self.result c.args.clause.now c.greatest_variable-self.ensures.top c.greatest_variable-self.ensures.all are.within;
  each = each_more p c.args.number c.args.last next c.args.clause.now c.args.self.now.list.items (omega (arith, c.if-number-last.false)) le are.each;
}
