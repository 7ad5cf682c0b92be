-- Lemmas as they are written.
use Rattle.std.proofs.Common.{ap, refl, ◌∙◌}
use Rattle.std.specs.Prelude.{ℤ, List, [], ◌∷◌, ◌||◌}
use Rattle.std.specs.Ordering.{is_eq}
use Rattle.std.specs.Cmp.{tied_itself}
use Rattle.lj_clause.specs.inner.Literal.{lit_cmp_total}
use Rattle.lj_clause.specs.LiteralSet.{holds, from_literals}
use Rattle.lj_clause.specs.Lemma.{lemma_of, IsLemma}
use Rattle.lj_clause.proofs.LiteralSets.{holds-with_literal}

pub IsLemma-lemma_of : (ls : List ℤ) → IsLemma (lemma_of ls)
IsLemma-lemma_of [] = refl
IsLemma-lemma_of (l ∷ ls) = holds-with_literal (from_literals ls) l l ∙ ap (λ r. is_eq r || holds (from_literals ls) l) (tied_itself lit_cmp_total l)
