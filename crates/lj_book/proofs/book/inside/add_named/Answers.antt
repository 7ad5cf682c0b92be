use Rattle.std.proofs.Common.{◌≡◌, ap, refl, sym, ◌∙◌, subst, ℕ, ◌+◌, ◌≤◌, true, arith}
use Rattle.std.specs.Prelude.{if◌then◌else◌, Option, Some, None, Result, IfOk}
use Rattle.std.proofs.lemmas.Result.{on_ok_weaker, on_err_weaker}
use Rattle.lj_clause.specs.declared.lit.TheConstants.{MAX_VARIABLE}
use Rattle.lj_clause.specs.Lemma.{IsLemma}
use Rattle.lj_clause.specs.ClauseMap.{FormulaValue, IsFormula}
use Rattle.lj_text.specs.declared.line.Addition.{Addition}
use Rattle.lj_book.specs.declared.entry.Added.{Added}
use Rattle.lj_book.specs.declared.entry.Entry.{Entry}
use Rattle.lj_book.specs.declared.refusal.Refusal.{Refusal}
use Rattle.lj_book.specs.Variables.{renaming_of}
use Rattle.lj_book.specs.State.{State}
use Rattle.lj_book.specs.Calls.{IsRefusal, IsReplyBy}
use Rattle.lj_book.specs.Named.{named_over}
use Rattle.lj_book.specs.NamedReplies.{named_inside}
use Rattle.lj_book.specs.inner.JointForms.{is_settled}
use Rattle.lj_book.specs.inner.VariableTables.{TopVariables}
use Rattle.lj_book.specs.inner.Limits.{limit_reply}
use Rattle.lj_book.proofs.GivenBack.{given_goes_on}
use Rattle.lj_book.proofs.OverLaws.{is_refusal}
use Rattle.lj_book.proofs.NamedCommits.{on_err as anyway}
use Rattle.lj_book.proofs.InsideOver.{settled_reply, settled_entry, settled_entered, given_out, none_given, same_limit, given_reply, given_entry, given_entered, taken_back, refused_at_once, seat_within}
use Rattle.lj_book.proofs.book.inside.add_named.Goals as goal

pub returns-then-is_settled-clause-reply : goal.returns-then-is_settled-clause-reply
returns-then-is_settled-clause-reply c =
    let j : State = c.args.joint.now in
    let t : TopVariables = c.args.variables.now in
    let a : Addition = c.args.addition.now in
    let lemma : IsLemma a.lemma = c.clause-clause.ensures.lemma in
    let settled : is_settled t.top (renaming_of t.variables c.args.seat) a.lemma.clause ≡ true = ap (is_settled t.top (renaming_of t.variables c.args.seat)) (sym c.clause-clause.ensures.clause) ∙ c.is_settled.ensures.settled c.if-is_settled.true in
    let few : t.variables.next ≤ MAX_VARIABLE + 1 = subst (λ (n : ℕ). n ≤ MAX_VARIABLE + 1) c.next-before.ensures.next c.next-before.ensures.in_range.1 in
    subst (λ (r : Result Added Refusal). IsReplyBy (λ (told : Added × Option Entry). told.0) c.add_inside-told.result r) (settled_reply j t c.requires c.args.seat a lemma settled few) c.add_inside-told.ensures.reply

pub returns-then-is_settled-clause-told : goal.returns-then-is_settled-clause-told
returns-then-is_settled-clause-told c =
    let j : State = c.args.joint.now in
    let t : TopVariables = c.args.variables.now in
    let a : Addition = c.args.addition.now in
    let lemma : IsLemma a.lemma = c.clause-clause.ensures.lemma in
    let settled : is_settled t.top (renaming_of t.variables c.args.seat) a.lemma.clause ≡ true = ap (is_settled t.top (renaming_of t.variables c.args.seat)) (sym c.clause-clause.ensures.clause) ∙ c.is_settled.ensures.settled c.if-is_settled.true in
    subst (λ (e : Entry). IfOk c.add_inside-told.result (λ told. told.1 ≡ (if c.args.wanted then Some e else None))) (settled_entry j t c.requires c.args.seat a lemma settled) c.add_inside-told.ensures.told

pub returns-then-is_settled-clause-ok : goal.returns-then-is_settled-clause-ok
returns-then-is_settled-clause-ok c =
    let j : State = c.args.joint.now in
    let t : TopVariables = c.args.variables.now in
    let a : Addition = c.args.addition.now in
    let lemma : IsLemma a.lemma = c.clause-clause.ensures.lemma in
    let settled : is_settled t.top (renaming_of t.variables c.args.seat) a.lemma.clause ≡ true = ap (is_settled t.top (renaming_of t.variables c.args.seat)) (sym c.clause-clause.ensures.clause) ∙ c.is_settled.ensures.settled c.if-is_settled.true in
    let few : t.variables.next ≤ MAX_VARIABLE + 1 = subst (λ (n : ℕ). n ≤ MAX_VARIABLE + 1) c.next-before.ensures.next c.next-before.ensures.in_range.1 in
    on_ok_weaker c.add_inside-told.result (settled_entered j t c.requires c.args.seat a lemma c.add_inside-told.new.self settled few c.history_is_legal.ensures) c.add_inside-told.ensures.ok

pub returns-then-is_settled-clause-err : goal.returns-then-is_settled-clause-err
returns-then-is_settled-clause-err c =
    on_err_weaker c.add_inside-told.result (λ e. (e, refl)) c.add_inside-told.ensures.err

pub returns-in-Some-clause-reply : goal.returns-in-Some-clause-reply
returns-in-Some-clause-reply c =
    let j : State = c.args.joint.now in
    let t : TopVariables = c.args.variables.now in
    let a : Addition = c.args.addition.now in
    let lemma : IsLemma a.lemma = c.clause-clause.ensures.lemma in
    is_refusal c.in-Some.refusal (named_inside (named_over j t.variables) c.args.seat a) (refused_at_once j t c.requires c.args.seat a lemma c.in-Some.refusal (sym c.free_refusal.ensures ∙ c.in-Some.is))

pub give-requires : goal.give-requires
give-requires c =
    let j : State = c.args.joint.now in
    let t : TopVariables = c.args.variables.now in
    let a : Addition = c.args.addition.now in
    let lemma : IsLemma a.lemma = c.clause-clause.ensures.lemma in
    seat_within j t c.requires c.args.seat a lemma (sym c.free_refusal.ensures ∙ c.in_default.is)

pub returns-then-not-left-clause-reply : goal.returns-then-not-left-clause-reply
returns-then-not-left-clause-reply c =
    let j : State = c.args.joint.now in
    let t : TopVariables = c.args.variables.now in
    let a : Addition = c.args.addition.now in
    let lemma : IsLemma a.lemma = c.clause-clause.ensures.lemma in
    let formula : IsFormula j.formula = subst (λ (f : FormulaValue). IsFormula f) c.formula.ensures c.variables.ensures.formula in
    let none = none_given j t c.requires c.args.seat a lemma c.give.new.self _ _ c.clause-clause.ensures.clause c.in_ok-left.ensures.left c.in_ok-left.ensures.given c.if-not-left.true in
    subst (λ (r : Result Added Refusal). IsRefusal c.refusal_at_limit.result r) ((λ i. limit_reply j (none.1 i) c.args.seat a) ∙ same_limit j t c.requires c.args.seat a lemma formula none.0) c.refusal_at_limit.ensures.reply

pub returns-then-not-left-clause-err : goal.returns-then-not-left-clause-err
returns-then-not-left-clause-err c =
    let j : State = c.args.joint.now in
    let t : TopVariables = c.args.variables.now in
    let a : Addition = c.args.addition.now in
    let lemma : IsLemma a.lemma = c.clause-clause.ensures.lemma in
    let none = none_given j t c.requires c.args.seat a lemma c.give.new.self _ _ c.clause-clause.ensures.clause c.in_ok-left.ensures.left c.in_ok-left.ensures.given c.if-not-left.true in
    (c.refusal_at_limit.ensures.same, none.1)

pub returns-in-Ok-clause-reply : goal.returns-in-Ok-clause-reply
returns-in-Ok-clause-reply c =
    let j : State = c.args.joint.now in
    let t : TopVariables = c.args.variables.now in
    let a : Addition = c.args.addition.now in
    let lemma : IsLemma a.lemma = c.clause-clause.ensures.lemma in
    let u : TopVariables = c.give.new.self in
    let gave = given_out j t c.requires c.args.seat a lemma u _ _ c.clause-clause.ensures.clause c.in_ok-left.ensures.left c.in_ok-left.ensures.given c.if-not-left.false in
    sym (given_reply j t c.requires c.args.seat a lemma u gave.0 gave.1) ∙ c.in-Ok.ensures.reply

pub returns-in-Ok-clause-told : goal.returns-in-Ok-clause-told
returns-in-Ok-clause-told c =
    let j : State = c.args.joint.now in
    let t : TopVariables = c.args.variables.now in
    let a : Addition = c.args.addition.now in
    let lemma : IsLemma a.lemma = c.clause-clause.ensures.lemma in
    let u : TopVariables = c.give.new.self in
    let gave = given_out j t c.requires c.args.seat a lemma u _ _ c.clause-clause.ensures.clause c.in_ok-left.ensures.left c.in_ok-left.ensures.given c.if-not-left.false in
    c.in-Ok.ensures.told ∙ ap (λ (e : Entry). if c.args.wanted then Some e else None) (given_entry j t c.requires c.args.seat a lemma u gave.0 gave.1)

pub returns-in-Ok-clause-ok : goal.returns-in-Ok-clause-ok
returns-in-Ok-clause-ok c =
    let j : State = c.args.joint.now in
    let t : TopVariables = c.args.variables.now in
    let a : Addition = c.args.addition.now in
    let lemma : IsLemma a.lemma = c.clause-clause.ensures.lemma in
    let u : TopVariables = c.give.new.self in
    let gave = given_out j t c.requires c.args.seat a lemma u _ _ c.clause-clause.ensures.clause c.in_ok-left.ensures.left c.in_ok-left.ensures.given c.if-not-left.false in
    given_entered j t c.requires c.args.seat a lemma u gave.0 gave.1 c.add_joint_form.new.joint c.history_is_legal-in-Ok.ensures c.in-Ok.ensures.ok

pub take_back-requires : goal.take_back-requires
take_back-requires c =
    let j : State = c.args.joint.now in
    let t : TopVariables = c.args.variables.now in
    let a : Addition = c.args.addition.now in
    let lemma : IsLemma a.lemma = c.clause-clause.ensures.lemma in
    let u : TopVariables = c.give.new.self in
    let gave = given_out j t c.requires c.args.seat a lemma u _ _ c.clause-clause.ensures.clause c.in_ok-left.ensures.left c.in_ok-left.ensures.given c.if-not-left.false in
    let tops = ap (λ (w : TopVariables). w.top) gave.1 in
    let nexts = ap (λ (w : TopVariables). w.variables.next) gave.1 in
    let on = given_goes_on t.top t.variables c.args.seat a.lemma.clause in
    let range = c.next-before.ensures.in_range in
    let next = c.next-before.ensures.next in
    (omega arith, omega arith)

pub returns-in-Err-clause-reply : goal.returns-in-Err-clause-reply
returns-in-Err-clause-reply c =
    let j : State = c.args.joint.now in
    let t : TopVariables = c.args.variables.now in
    let a : Addition = c.args.addition.now in
    let lemma : IsLemma a.lemma = c.clause-clause.ensures.lemma in
    let u : TopVariables = c.give.new.self in
    let gave = given_out j t c.requires c.args.seat a lemma u _ _ c.clause-clause.ensures.clause c.in_ok-left.ensures.left c.in_ok-left.ensures.given c.if-not-left.false in
    subst (λ (r : Result Added Refusal). IsRefusal c.in-Err.refusal r) (given_reply j t c.requires c.args.seat a lemma u gave.0 gave.1) c.in-Err.ensures.reply

pub returns-in-Err-clause-err : goal.returns-in-Err-clause-err
returns-in-Err-clause-err c =
    let j : State = c.args.joint.now in
    let t : TopVariables = c.args.variables.now in
    let a : Addition = c.args.addition.now in
    let lemma : IsLemma a.lemma = c.clause-clause.ensures.lemma in
    let u : TopVariables = c.give.new.self in
    let gave = given_out j t c.requires c.args.seat a lemma u _ _ c.clause-clause.ensures.clause c.in_ok-left.ensures.left c.in_ok-left.ensures.given c.if-not-left.false in
    (c.in-Err.ensures.err, taken_back j t c.requires c.args.seat a lemma u gave.0 gave.1 c.next-before.result c.take_back.new.self c.next-before.ensures.next c.take_back.ensures)

pub returns-in_err-left-clause-err : goal.returns-in_err-left-clause-err
returns-in_err-left-clause-err c =
    anyway c.from_residual.result (refl, c.in_err-left.ensures.err)
