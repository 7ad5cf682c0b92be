use Rattle.std.proofs.Common.{subst}
use Rattle.lj_text.specs.inner.Writing.{Wrote, Broke}
use Rattle.lj_text.proofs.WritingLemmas.{broke_more, broke_then, wrote_then, on_err, on_err_map, on_ok_map}
use Rattle.lj_text.proofs.WrittenTokens.{deletion_parts}
use Rattle.lj_text.proofs.writer.step_tokens.write_deletion.Goals as goal

pub returns-in_err-write_first-clause-broke : goal.returns-in_err-write_first-clause-broke
returns-in_err-write_first-clause-broke g c =
    on_err c.from_residual.result _ (subst (Broke _ _ _) (deletion_parts c.args.leading c.args.numbers.now)
    (broke_more _ _ _ _ _ c.in_err-write_first.ensures.broke))

pub returns-in_err-append-clause-broke : goal.returns-in_err-append-clause-broke
returns-in_err-append-clause-broke g c =
    on_err c.from_residual-in_err-append.result _ (subst (Broke _ _ _) (deletion_parts c.args.leading c.args.numbers.now)
    (broke_then _ _ _ _ _ _ _ c.in_ok-write_first.ensures.wrote (broke_more _ _ _ _ _ c.in_err-append.ensures.broke)))

pub returns-in_err-write_numbers-clause-broke : goal.returns-in_err-write_numbers-clause-broke
returns-in_err-write_numbers-clause-broke g c =
    on_err c.from_residual-in_err-write_numbers.result _ (subst (Broke _ _ _) (deletion_parts c.args.leading c.args.numbers.now)
    (broke_then _ _ _ _ _ _ _ c.in_ok-write_first.ensures.wrote (broke_then _ _ _ _ _ _ _ c.in_ok-append.ensures.wrote (broke_more _ _ _ _ _ c.in_err-write_numbers.ensures.broke))))

pub returns-clause-wrote : goal.returns-clause-wrote
returns-clause-wrote g c =
    on_ok_map c.append-2.result (λ w. subst (Wrote _ _ _ _) (deletion_parts c.args.leading c.args.numbers.now)
    (wrote_then _ _ _ _ _ _ _ _ c.in_ok-write_first.ensures.wrote (wrote_then _ _ _ _ _ _ _ _ c.in_ok-append.ensures.wrote (wrote_then _ _ _ _ _ _ _ _ c.in_ok-write_numbers.ensures.wrote w)))) c.append-2.ensures.wrote

pub returns-clause-broke : goal.returns-clause-broke
returns-clause-broke g c =
    on_err_map c.append-2.result (λ b. subst (Broke _ _ _) (deletion_parts c.args.leading c.args.numbers.now)
    (broke_then _ _ _ _ _ _ _ c.in_ok-write_first.ensures.wrote (broke_then _ _ _ _ _ _ _ c.in_ok-append.ensures.wrote (broke_then _ _ _ _ _ _ _ c.in_ok-write_numbers.ensures.wrote b)))) c.append-2.ensures.broke
