use Rattle.std.proofs.Common.{◌≡◌, ap, sym, subst}
use Rattle.std.specs.Prelude.{Result, Ok}
use Rattle.lj_text.specs.declared.line.Addition.{Addition}
use Rattle.lj_book.specs.declared.refusal.Refusal.{Refusal}
use Rattle.lj_book.specs.Tables.{joint_of}
use Rattle.lj_book.specs.Calls.{IsReplyBy}
use Rattle.lj_book.specs.inner.JointLines.{LineParts, joint_parts, addition_of_parts, tested_parts}
use Rattle.lj_book.proofs.InsideLaws.{refusal_passes}
use Rattle.lj_book.proofs.joint_book.inside.recorded_line.Goals as goal

pub returns-in-Err-clause-reply : goal.returns-in-Err-clause-reply
returns-in-Err-clause-reply c = λ number. refusal_passes c.in-Err.refusal _ _ (λ x one. ap (tested_parts c.args.clause_log.now.live number c.args.addition.now.lemma) one) c.in-Err.ensures

pub returns-clause-reply : goal.returns-clause-reply
returns-clause-reply c = λ number.
    let parts : LineParts = (c.joint_line.new.hints, c.joint_line.new.joints) in
    let are : joint_parts (joint_of c.args.tables.now c.args.seat) c.args.addition.now ≡ Ok parts = c.in_default.ensures in
    subst (λ (r : Result Addition Refusal). IsReplyBy (λ (_ : Unit {0}). addition_of_parts number c.args.addition.now.lemma (c.tested_line.new.hints, c.tested_line.new.groups)) c.tested_line.result r) (sym (ap (tested_parts c.args.clause_log.now.live number c.args.addition.now.lemma) are)) (c.tested_line.ensures.reply number)
