use Rattle.std.proofs.Common.{◌≡◌, ℕ, ℤ, List, [], ◌∷◌, ◌++◌, map, ap, ◌∙◌}
use Rattle.std.specs.Prelude.{flat_map}
use Rattle.std.specs.Fmt.{decimal, signed_decimal}
use Rattle.lj_text.specs.declared.line.Addition.{Addition}
use Rattle.lj_text.specs.StepText.{group_tokens, written_literals}
use Rattle.lj_text.specs.inner.Writing.{spaced_tokens}
use Rattle.lj_text.proofs.WrittenTokens.{addition_parts}
use Rattle.lj_book.specs.inner.Encoding.{number_in, list_in, hint_groups_in}
use Rattle.lj_book.specs.inner.Records.{lits_in, behind_lits, addition_in}
use Rattle.lj_book.specs.inner.StepLines.{kept_as_written}
use Rattle.lj_book.proofs.StepLineLemmas.{given_as, given_then, kept_written}
use Rattle.lj_book.proofs.history.lines.write_addition.Goals as goal

-- the line, by what its parts are read from
abbrev line_of : ℕ → List ℤ → List ℕ → List ℕ → List ℕ
line_of number ls hints groups = decimal number ++ (spaced_tokens (map signed_decimal ls) ++ ((32 ∷ 48 ∷ []) ++ (spaced_tokens (map decimal (list_in hints).0) ++ (spaced_tokens (flat_map group_tokens (hint_groups_in groups).0) ++ (32 ∷ 48 ∷ 10 ∷ [])))))

pub returns-clause-given : goal.returns-clause-given
returns-clause-given g c =
    let ls : List ℤ = c.args.lits.now in
    let ws : List ℕ = c.args.encoding.now in
    let a : Addition = addition_in ls ws in
    let joint : c.number-joint.result.0 ≡ a.number = c.number-joint.ensures.number in
    let literals : kept_as_written c.named.result.0.now ≡ written_literals a.lemma =
    ap kept_as_written (c.named.ensures.lits ∙ ap (lits_in ls) c.number-joint.ensures.rest)
    ∙ kept_written (lits_in ls (number_in ws).1) c.requires.named in
    let hints : c.named.result.1.now ≡ behind_lits (number_in ws).1 = c.named.ensures.rest ∙ ap behind_lits c.number-joint.ensures.rest in
    let groups : c.write_list-rest.result.now ≡ (list_in (behind_lits (number_in ws).1)).1 = c.write_list-rest.ensures.rest ∙ ap (λ us. (list_in us).1) hints in
    given_as _ _ _ _
    (given_then _ _ _ _ _ c.begin_line.ensures.given
    (given_then _ _ _ _ _ c.write_literals.ensures.given
    (given_then _ _ _ _ _ c.token.ensures.given
    (given_then _ _ _ _ _ c.write_list-rest.ensures.given
    (given_then _ _ _ _ _ c.write_groups.ensures.given
    (given_then _ _ _ _ _ c.token-2.ensures.given c.end_line.ensures.given))))))
    ((λ i. line_of (joint i) (literals i) (hints i) (groups i)) ∙ addition_parts a)
