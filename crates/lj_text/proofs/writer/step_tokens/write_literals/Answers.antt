use Rattle.std.proofs.Common.{subst}
use Rattle.lj_clause.specs.LiteralSet.{literals}
use Rattle.lj_text.specs.inner.Writing.{Wrote, Broke}
use Rattle.lj_text.proofs.WritingLemmas.{broke_more, broke_then, wrote_then, wrote_none, on_err, on_err_map, on_ok_map}
use Rattle.lj_text.proofs.WrittenTokens.{others_text, literals_some, literals_none}
use Rattle.lj_text.proofs.writer.step_tokens.write_literals.Goals as goal

pub returns-in_err-write_literal-in-Some-clause-broke : goal.returns-in_err-write_literal-in-Some-clause-broke
returns-in_err-write_literal-in-Some-clause-broke g c =
    on_err c.from_residual.result _ (subst (Broke _ _ _) (literals_some c.args.lemma.now c.in-Some.pivot c.args.lemma.now.clause _ c.in-Some.ensures.pivot (λ _. c.args.lemma.now.clause) (λ _. literals c.args.lemma.now.clause))
    (broke_more _ _ _ _ (others_text c.in-Some.pivot (literals c.args.lemma.now.clause)) c.in_err-write_literal-in-Some.ensures.broke))

pub returns-in-None-clause-wrote : goal.returns-in-None-clause-wrote
returns-in-None-clause-wrote g c = subst (Wrote _ _ _ _) (literals_none c.args.lemma.now c.in-None.ensures.pivot c.in-None.ensures.lemma) (wrote_none _ _)

pub returns-in_ok-write_literal-in-Some-clause-wrote : goal.returns-in_ok-write_literal-in-Some-clause-wrote
returns-in_ok-write_literal-in-Some-clause-wrote g c =
    on_ok_map c.write_others.result (λ w. subst (Wrote _ _ _ _) (literals_some c.args.lemma.now c.in-Some.pivot c.clause.result.now c.lits.result.now c.in-Some.ensures.pivot c.clause.ensures.clause c.lits.ensures)
    (wrote_then _ _ _ _ _ _ _ _ c.in_ok-write_literal-in-Some.ensures.wrote w)) c.write_others.ensures.wrote

pub returns-in_ok-write_literal-in-Some-clause-broke : goal.returns-in_ok-write_literal-in-Some-clause-broke
returns-in_ok-write_literal-in-Some-clause-broke g c =
    on_err_map c.write_others.result (λ b. subst (Broke _ _ _) (literals_some c.args.lemma.now c.in-Some.pivot c.clause.result.now c.lits.result.now c.in-Some.ensures.pivot c.clause.ensures.clause c.lits.ensures)
    (broke_then _ _ _ _ _ _ _ c.in_ok-write_literal-in-Some.ensures.wrote b)) c.write_others.ensures.broke
