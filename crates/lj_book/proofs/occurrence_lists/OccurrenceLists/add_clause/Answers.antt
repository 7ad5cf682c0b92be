use Rattle.std.proofs.Common.{ap, sym, ◌∙◌, ℕ, length}
use Rattle.std.specs.Prelude.{ℤ, List, [], ◌∷◌, ◌++◌, ◌==◌}
use Rattle.std.specs.FinMap as fin
use Rattle.lj_clause.specs.Literal.{index_of}
use Rattle.lj_book.specs.inner.Occurrences.{list_at}
use Rattle.lj_book.proofs.OccurrenceLaws.{only_place, literal_added}
use Rattle.lj_book.proofs.occurrence_lists.OccurrenceLists.add_clause.Goals as goal

pub returns-then-is_empty : goal.returns-then-is_empty
returns-then-is_empty c = λ ok.
    only_place c.args.clause.now c.args.self.now c.add.new.self c.args.number
    (ap (λ (ls : List ℤ). length ls == 0) (sym c.lits-lits.ensures) ∙ sym c.is_empty.ensures ∙ c.if-is_empty.true) (c.add.ensures ok)

pub loop-lit-preserved : goal.loop-lit-preserved
loop-lit-preserved c =
    literal_added c.args.clause.now c.lits-lits.result.now c.lits-lits.ensures c.args.self.now c.loop-lit.self c.add-in-loop-lit.new.self c.loop-lit.lit-index c.args.number _ c.loop-lit-test.true c.loop-lit.invariant
    (c.add-in-loop-lit.ensures c.if-not-add.false ∙ ap (λ (p : ℕ). fin.insert c.loop-lit.self p (list_at c.loop-lit.self p ++ c.args.number ∷ [])) (c.index.ensures.index ∙ ap index_of c.lit-item.is))
