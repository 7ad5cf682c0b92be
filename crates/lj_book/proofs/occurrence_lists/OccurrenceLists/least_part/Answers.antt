use Rattle.std.proofs.Common.{ap, sym, ◌∙◌, ℕ, take}
use Rattle.std.specs.Prelude.{ℤ, List, [], ◌∷◌, ◌++◌, Some, None}
use Rattle.std.proofs.lemmas.List.{take_more, take_all}
use Rattle.lj_book.specs.inner.Parts.{lesser, least_begun}
use Rattle.lj_book.proofs.PartLists.{first_begun, begun_first, begun_next, begun_all}
use Rattle.lj_book.proofs.occurrence_lists.OccurrenceLists.least_part.Goals as goal

pub loop-lit-init : goal.loop-lit-init
loop-lit-init c = λ bound are.
    c.first_part-least.ensures
    ∙ first_begun c.args.self.now c.args.clauses.now bound None c.args.wanted.now are
    ∙ begun_first c.args.clauses.now c.args.wanted.now

pub loop-lit-preserved : goal.loop-lit-preserved
loop-lit-preserved c = λ bound are.
    let p = c.args.clauses.now in
    let w = c.args.wanted.now in
    let ls : List ℤ = c.lits-lit-items.result.now in
    let k : ℕ = c.loop-lit.lit-index in
    let l : ℤ = c.lit-item.result in
    c.lesser-least.ensures
    ∙ (λ i. lesser (c.loop-lit.invariant bound are i) ((c.first_part.ensures ∙ first_begun c.args.self.now p bound (Some l) w are) i))
    ∙ sym (begun_next p w (take k ls) l)
    ∙ ap (λ (m : ℤ). least_begun p w (take k ls ++ m ∷ [])) c.lit-item.is
    ∙ ap (least_begun p w) (sym (take_more ls k l c.loop-lit-test.true))

pub returns : goal.returns
returns c = λ bound are.
    let p = c.args.clauses.now in
    let w = c.args.wanted.now in
    c.loop-lit.invariant bound are
    ∙ ap (least_begun p w) (take_all c.loop-lit.lit-index c.lits-lit-items.result.now c.loop-lit-test.false ∙ c.lits-lit-items.ensures)
    ∙ begun_all p w
