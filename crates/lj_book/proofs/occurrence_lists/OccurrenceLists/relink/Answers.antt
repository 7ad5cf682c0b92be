use Rattle.std.proofs.Common.{ap, sym, ◌∙◌, subst, ℕ}
use Rattle.std.specs.FinMap as fin
use Rattle.lj_book.specs.inner.Occurrences.{Lists, with_number}
use Rattle.lj_book.specs.inner.Chains.{AreChains, chained}
use Rattle.lj_book.proofs.Chains.{chains_unset, none_put, one_put_more, chained_unset}
use Rattle.lj_book.proofs.occurrence_lists.OccurrenceLists.relink.Goals as goal

pub invariant_of-self : goal.invariant_of-self
invariant_of-self c = subst (AreChains c.self.inside.links.items) (sym c.remove.ensures.removed) (chains_unset c.self.inside.links.items c.self.inside.lasts c.args.key c.self.invariant)

pub loop-number-init : goal.loop-number-init
loop-number-init c =
    none_put c.args.self.now (chained c.self.inside.links.items c.remove.new.self) c.args.key c.args.numbers.now
    (ap (chained c.self.inside.links.items) c.remove.ensures.removed
    ∙ chained_unset c.self.inside.links.items c.self.inside.lasts c.args.key
    ∙ ap (λ (m : Lists). fin.remove m c.args.key) c.self.view_is)

pub loop-number-preserved : goal.loop-number-preserved
loop-number-preserved c =
    one_put_more c.args.self.now c.loop-number.self c.add.new.self c.args.key c.loop-number.number-index 0 c.args.numbers.now c.loop-number-test.true c.loop-number.invariant
    (c.add.ensures c.if-not-add.false ∙ ap (λ (n : ℕ). with_number c.loop-number.self c.args.key n) c.in-Ok.ensures.1)
