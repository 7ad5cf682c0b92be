use Rattle.std.proofs.Common.{◌≡◌, sym, ◌∙◌, subst}
use Rattle.lj_clause.specs.Lemma.{lemma_of, IsLemma, LemmaValue}
use Rattle.lj_clause.proofs.Lemmas.{IsLemma-lemma_of}
use Rattle.lj_clause.proofs.lemma.Lemma.from_lits.Goals as goal

pub invariant_of-result : goal.invariant_of-result
invariant_of-result c =
    let clause = c.in_ok-from_lits.ensures in
    let pivot = c.copied.ensures ∙ c.first.ensures.value in
    let is : ◌≡◌ {A = LemmaValue} (record { clause = c.in_ok-from_lits.field-0; pivot = c.copied.result }) (lemma_of c.args.lits.now) = λ i. record { clause = clause i; pivot = pivot i } in
    subst IsLemma (sym is) (IsLemma-lemma_of c.args.lits.now)
