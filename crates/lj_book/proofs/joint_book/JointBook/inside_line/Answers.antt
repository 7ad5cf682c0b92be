use Rattle.std.proofs.Common.{◌≡◌, ◌≤◌, ◌<◌, ap, sym, ◌∙◌, arith}
use Rattle.std.specs.Prelude.{None, Ok}
use Rattle.lj_text.specs.declared.line.Addition.{Addition}
use Rattle.lj_book.specs.State.{State, addition_count, next}
use Rattle.lj_book.specs.Calls.{free_refusal}
use Rattle.lj_book.specs.inner.JointLines.{addition_of_parts, inside_line}
use Rattle.lj_book.proofs.InsideLaws.{refusal_passes, parts_refused, parts_full, parts_passed}
use Rattle.lj_book.proofs.joint_book.JointBook.inside_line.Goals as goal

pub returns-in-Err-clause-reply : goal.returns-in-Err-clause-reply
returns-in-Err-clause-reply c =
    let s : State = record { formula = c.self.inside.formula; max_steps = c.self.inside.max_steps; tables = c.self.inside.tables; history = c.self.inside.clause_log.history.entries } in
    let a = c.args.addition.now in
    let free : free_refusal s c.args.seat a.number ≡ None = ap (λ (t : State). free_refusal t c.args.seat a.number) c.self.view_is ∙ sym c.free_refusal.ensures ∙ c.in_default.is in
    refusal_passes c.in-Err.refusal _ _
    (λ x one. ap (λ (t : State). inside_line t c.args.seat a) (sym c.self.view_is) ∙ parts_refused c.self.inside.clause_log.live s c.args.seat a x c.self.invariant.lives free one)
    (c.in-Err.ensures.reply (next s))

pub returns-then-added-max_steps-clause-reply : goal.returns-then-added-max_steps-clause-reply
returns-then-added-max_steps-clause-reply c =
    let s : State = record { formula = c.self.inside.formula; max_steps = c.self.inside.max_steps; tables = c.self.inside.tables; history = c.self.inside.clause_log.history.entries } in
    let a = c.args.addition.now in
    let free : free_refusal s c.args.seat a.number ≡ None = ap (λ (t : State). free_refusal t c.args.seat a.number) c.self.view_is ∙ sym c.free_refusal.ensures ∙ c.in_default.is in
    let step = addition_of_parts (next s) a.lemma (c.recorded_line.new.hints, c.recorded_line.new.joints) in
    let full : s.max_steps ≤ addition_count s.history = let counted = c.self.invariant.additions in omega arith in
    ap (λ (t : State). inside_line t c.args.seat a) (sym c.self.view_is)
    ∙ parts_full c.self.inside.clause_log.live s c.args.seat a step c.self.invariant.lives free (c.in_default-recorded_line.ensures.reply (next s)) full

pub returns-clause-reply : goal.returns-clause-reply
returns-clause-reply c =
    let s : State = record { formula = c.self.inside.formula; max_steps = c.self.inside.max_steps; tables = c.self.inside.tables; history = c.self.inside.clause_log.history.entries } in
    let a = c.args.addition.now in
    let free : free_refusal s c.args.seat a.number ≡ None = ap (λ (t : State). free_refusal t c.args.seat a.number) c.self.view_is ∙ sym c.free_refusal.ensures ∙ c.in_default.is in
    let made : State → Addition = λ t. addition_of_parts (next t) a.lemma (c.recorded_line.new.hints, c.recorded_line.new.joints) in
    let capacity : addition_count s.history < s.max_steps = let counted = c.self.invariant.additions in omega arith in
    ap (λ (t : State). inside_line t c.args.seat a) (sym c.self.view_is)
    ∙ parts_passed c.self.inside.clause_log.live s c.args.seat a (made s) c.self.invariant.lives free (c.in_default-recorded_line.ensures.reply (next s)) capacity
    ∙ ap (λ (t : State). Ok (made t)) c.self.view_is
