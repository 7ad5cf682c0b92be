use Rattle.std.proofs.Common.{◌≡◌, ap, sym, subst, ◌∙◌}
use Rattle.std.specs.Prelude.{Some, option_map}
use Rattle.lj_clause.specs.Lemma.{LemmaValue, IsLemma}
use Rattle.lj_clause.specs.Renaming.{literal_image}
use Rattle.lj_clause.proofs.Renaming.{IsLemma-image}
use Rattle.lj_clause.proofs.lemma.Lemma.renamed.Goals as goal
use Rattle.lj_clause.proofs.lemma.Lemma.renamed.Goals.{in-Some, in-None}

pub invariant_of-result : goal.invariant_of-result
invariant_of-result g c =
    let m = g.R.Renames.renaming c.args.renaming.now in
    let was : LemmaValue = record { clause = c.self.inside.clause; pivot = c.self.inside.pivot } in
    let pivot : option_map (literal_image m) was.pivot ≡ c.match-self.pivot = elim c.match-self.branch [
      | in-Some w ↦ ap (option_map (literal_image m)) w.in-Some.is ∙ ap Some (sym w.renamed.ensures) ∙ sym w.pivot-is
      | in-None w ↦ ap (option_map (literal_image m)) w.in-None.is ∙ sym w.pivot-is
    ] in
    subst IsLemma (λ i. record { clause = sym c.in_ok-renamed.ensures i; pivot = pivot i }) (IsLemma-image m was c.self.invariant)
