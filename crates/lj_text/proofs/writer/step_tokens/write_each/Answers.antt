use Rattle.std.proofs.Common.{ap, ◌∙◌, ◌++◌, append-nil}
use Rattle.std.specs.Fmt.{decimal}
use Rattle.lj_text.specs.Writing.{spaced_token}
use Rattle.lj_text.proofs.WritingLemmas.{on_err}
use Rattle.lj_text.proofs.WrittenTokens.{broke_behind, numbers_text, numbers_text-append}
use Rattle.lj_text.proofs.writer.step_tokens.write_each.Goals as goal

pub returns-in_err-write_number-clause-broke : goal.returns-in_err-write_number-clause-broke
returns-in_err-write_number-clause-broke g c =
    on_err c.from_residual.result _ (broke_behind numbers_text numbers_text-append c.args.numbers c.loop-number.yielded c.in-Some.number c.next.new.self _
    (c.loop-number.invariant.left ∙ ap (λ t. c.loop-number.yielded ++ t) c.in-Some.ensures.steps)
    (append-nil (spaced_token (decimal c.in-Some.number)))
    _ _ _ _ _ c.loop-number.invariant.wrote c.in_err-write_number.ensures.broke)
