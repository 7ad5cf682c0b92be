use Rattle.std.proofs.Common.{◌≡◌, sym, ◌∙◌, ap, subst}
use Rattle.std.specs.List.{slice_get}
use Rattle.lj_clause.specs.Lemma.{lemma_of, IsLemma, LemmaValue}
use Rattle.lj_clause.proofs.Lemmas.{IsLemma-lemma_of}
use Rattle.lj_clause.proofs.lemma.Lemma.put.Goals as goal

pub invariant_of-self-2 : goal.invariant_of-self-2
invariant_of-self-2 c =
    let clause = c.in_ok-put.ensures.ok in
    let pivot = c.copied-pivot.ensures ∙ c.first.ensures.value ∙ ap (λ xs. slice_get xs 0) c.deref.ensures.value in
    let is : ◌≡◌ {A = LemmaValue} (record { clause = c.put.new.self; pivot = c.copied-pivot.result }) (lemma_of c.args.lits.now.items) = λ i. record { clause = clause i; pivot = pivot i } in
    subst IsLemma (sym is) (IsLemma-lemma_of c.args.lits.now.items)
