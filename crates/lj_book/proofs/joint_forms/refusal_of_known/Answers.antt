use Rattle.std.proofs.Common.{◌≡◌, ap, sym, ◌∙◌, subst}
use Rattle.std.specs.Prelude.{nat_lt, not}
use Rattle.lj_clause.specs.Renaming.{Renaming}
use Rattle.lj_text.specs.declared.line.Addition.{Addition}
use Rattle.lj_book.specs.Variables.{renaming_of}
use Rattle.lj_book.specs.State.{State, addition_count}
use Rattle.lj_book.specs.Calls.{IsRefusal}
use Rattle.lj_book.specs.inner.JointLines.{inside_line}
use Rattle.lj_book.specs.inner.VariableTables.{TopVariables}
use Rattle.lj_book.specs.inner.Limits.{closes_at_once, is_new}
use Rattle.lj_book.proofs.JointFormLaws.{limit_passed, limit_refused, limit_full, limit_none}
use Rattle.lj_book.proofs.joint_forms.refusal_of_known.Goals as goal

pub returns-in-Ok-clause-reply : goal.returns-in-Ok-clause-reply
returns-in-Ok-clause-reply c =
    let a : Addition = c.args.addition.now in
    let t : TopVariables = c.args.variables.now in
    let m : Renaming = renaming_of t.variables c.args.seat in
    let propagate : c.closes_at_once-closes.result ≡ closes_at_once t.top m a.lemma.clause = c.closes_at_once-closes.ensures ∙ ap (closes_at_once t.top m) c.clause.ensures.clause in
    let pivot : c.is_new-new.result ≡ is_new t.top m a.lemma.pivot = c.is_new-new.ensures ∙ ap (is_new t.top m) c.pivot.ensures.pivot in
    limit_passed c.args.joint.now t c.args.seat a c.closes_at_once-closes.result c.is_new-new.result propagate pivot _
    (ap (λ (b : Addition). inside_line c.args.joint.now c.args.seat b) (sym c.requires) ∙ c.in-Ok.ensures.reply)

pub returns-then-not-is_lifted-clause-reply : goal.returns-then-not-is_lifted-clause-reply
returns-then-not-is_lifted-clause-reply c =
    let a : Addition = c.args.addition.now in
    let t : TopVariables = c.args.variables.now in
    let m : Renaming = renaming_of t.variables c.args.seat in
    let propagate : c.closes_at_once-closes.result ≡ closes_at_once t.top m a.lemma.clause = c.closes_at_once-closes.ensures ∙ ap (closes_at_once t.top m) c.clause.ensures.clause in
    let pivot : c.is_new-new.result ≡ is_new t.top m a.lemma.pivot = c.is_new-new.ensures ∙ ap (is_new t.top m) c.pivot.ensures.pivot in
    limit_refused c.args.joint.now t c.args.seat a c.closes_at_once-closes.result c.is_new-new.result propagate pivot c.in-Err.refusal
    (sym c.is_lifted.ensures ∙ c.if-not-is_lifted.true)
    (subst (λ (b : Addition). IsRefusal c.in-Err.refusal (inside_line c.args.joint.now c.args.seat b)) c.requires c.in-Err.ensures.reply)

pub returns-then-is_full-clause-reply : goal.returns-then-is_full-clause-reply
returns-then-is_full-clause-reply c =
    let a : Addition = c.args.addition.now in
    let t : TopVariables = c.args.variables.now in
    let m : Renaming = renaming_of t.variables c.args.seat in
    let propagate : c.closes_at_once-closes.result ≡ closes_at_once t.top m a.lemma.clause = c.closes_at_once-closes.ensures ∙ ap (closes_at_once t.top m) c.clause.ensures.clause in
    let pivot : c.is_new-new.result ≡ is_new t.top m a.lemma.pivot = c.is_new-new.ensures ∙ ap (is_new t.top m) c.pivot.ensures.pivot in
    limit_full c.args.joint.now t c.args.seat a c.closes_at_once-closes.result c.is_new-new.result propagate pivot c.in-Err.refusal c.is_full.result
    (sym c.is_lifted.ensures ∙ c.if-not-is_lifted.false) c.if-is_full.true
    (c.is_full.ensures ∙ ap (λ (s : State). not (nat_lt (addition_count s.history) s.max_steps)) c.inside_line.ensures.same)
    (subst (λ (b : Addition). IsRefusal c.in-Err.refusal (inside_line c.args.joint.now c.args.seat b)) c.requires c.in-Err.ensures.reply)

pub returns-clause-reply : goal.returns-clause-reply
returns-clause-reply c =
    let a : Addition = c.args.addition.now in
    let t : TopVariables = c.args.variables.now in
    let m : Renaming = renaming_of t.variables c.args.seat in
    let propagate : c.closes_at_once-closes.result ≡ closes_at_once t.top m a.lemma.clause = c.closes_at_once-closes.ensures ∙ ap (closes_at_once t.top m) c.clause.ensures.clause in
    let pivot : c.is_new-new.result ≡ is_new t.top m a.lemma.pivot = c.is_new-new.ensures ∙ ap (is_new t.top m) c.pivot.ensures.pivot in
    limit_none c.args.joint.now t c.args.seat a c.closes_at_once-closes.result c.is_new-new.result propagate pivot c.in-Err.refusal c.is_full.result
    (sym c.is_lifted.ensures ∙ c.if-not-is_lifted.false) c.if-is_full.false
    (c.is_full.ensures ∙ ap (λ (s : State). not (nat_lt (addition_count s.history) s.max_steps)) c.inside_line.ensures.same)
    (subst (λ (b : Addition). IsRefusal c.in-Err.refusal (inside_line c.args.joint.now c.args.seat b)) c.requires c.in-Err.ensures.reply)
