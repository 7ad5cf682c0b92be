use Rattle.std.proofs.Common.{◌≡◌, ap, sym, ◌∙◌, ℕ}
use Rattle.std.specs.Prelude.{List, Ok}
use Rattle.lj_clause.specs.LiteralSet.{negations}
use Rattle.lj_clause.specs.Propagation.{propagate}
use Rattle.lj_clause.specs.Rat.{HintGroup}
use Rattle.lj_text.specs.declared.line.Addition.{Addition}
use Rattle.lj_hint.specs.declared.live_line.Passed.TheVariants.{Closed}
use Rattle.lj_hint.specs.declared.live_line.Passed.{Passed}
use Rattle.lj_hint.specs.LineTest.{line_reply, with_given}
use Rattle.lj_book.specs.inner.JointLines.{addition_of_parts}
use Rattle.lj_book.proofs.LineLaws.{closed_line}
use Rattle.lj_book.proofs.line_tests.tested_line.Goals as goal

pub returns-in-Ok-Closed-clause-reply : goal.returns-in-Ok-Closed-clause-reply
returns-in-Ok-Closed-clause-reply c number =
    let p = c.args.clause_log.now.live in
    let lemma = c.args.lemma.now in
    let given = c.args.hints.now in
    let groups = c.args.groups.now in
    let b = addition_of_parts number lemma (given, groups) in
    let made : List ℕ → List HintGroup → Addition = λ ns gs. record { number = number; lemma = lemma; hints = ns; groups = gs } in
    let told : line_reply p lemma.pivot groups (propagate p (negations lemma.clause) given) ≡ Ok (Closed c.in-Ok-Closed.read) =
    (λ i. line_reply (sym c.tend_lists.ensures i).live lemma.pivot groups (propagate (sym c.tend_lists.ensures i).live (negations lemma.clause) given))
    ∙ c.in-Ok-Closed.ensures
    ∙ ap (λ (passed : Passed). Ok (with_given groups passed)) c.in-Ok-Closed.field-0-is in
    closed_line p b c.in-Ok-Closed.read told
    ∙ (λ i. Ok (made (sym c.truncate.ensures i) (sym c.clear.ensures i)))
