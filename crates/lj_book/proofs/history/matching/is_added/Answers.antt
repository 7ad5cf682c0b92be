use Rattle.std.proofs.Common.{◌≡◌, ap, sym, ◌∙◌, rules}
use Rattle.std.specs.Prelude.{ℤ, List, ℕ}
use Rattle.lj_text.specs.declared.line.Addition.{Addition}
use Rattle.lj_book.specs.inner.Encoding.{number_in, list_in, hint_groups_in}
use Rattle.lj_book.specs.inner.Records.{lits_in, behind_lits, lemma_lits}
use Rattle.lj_book.proofs.RecordLaws.{same_addition}
use Rattle.lj_book.proofs.history.matching.is_added.Goals as goal

pub returns : goal.returns
returns c =
    let ls : List ℤ = c.args.lits.now in
    let ws : List ℕ = c.args.encoding.now in
    let a : Addition = c.args.addition.now in
    let number : (number_in ws).0 ≡ a.number = sym c.number-joint.ensures.number ∙ c.if-joint-addition.false in
    let same : lits_in ls (number_in ws).1 ≡ lemma_lits a.lemma = search rules in
    let rest : c.named.result.1.now ≡ behind_lits (number_in ws).1 = c.named.ensures.rest ∙ ap behind_lits c.number-joint.ensures.rest in (
      λ yes.
          same_addition ls ws a c.pivot.ensures.lemma number same
          (ap (λ us. (list_in us).0) (sym rest) ∙ (c.are_hints_of.ensures.0 yes).0)
          (ap (λ us. (hint_groups_in (list_in us).1).0) (sym rest) ∙ (c.are_hints_of.ensures.0 yes).1),
      λ e.
          c.are_hints_of.ensures.1 (
            ap (λ us. (list_in us).0) rest ∙ ap (λ b. b.hints) e,
            ap (λ us. (hint_groups_in (list_in us).1).0) rest ∙ ap (λ b. b.groups) e,
          ),
    )
