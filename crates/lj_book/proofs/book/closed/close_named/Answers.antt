use Rattle.std.proofs.Common.{◌≡◌, ap, sym, ◌∙◌, subst, ℕ, ◌+◌, ◌≤◌, true, arith}
use Rattle.std.specs.Prelude.{if◌then◌else◌, Option, Some, None, Result, IfOk}
use Rattle.std.proofs.lemmas.Result.{on_ok_weaker}
use Rattle.lj_clause.specs.declared.lit.TheConstants.{MAX_VARIABLE}
use Rattle.lj_clause.specs.Lemma.{IsLemma}
use Rattle.lj_clause.specs.ClauseMap.{FormulaValue, IsFormula}
use Rattle.lj_text.specs.declared.line.Addition.{Addition}
use Rattle.lj_book.specs.declared.entry.Added.{Added}
use Rattle.lj_book.specs.declared.entry.Entry.{Entry}
use Rattle.lj_book.specs.declared.refusal.Refusal.{Refusal}
use Rattle.lj_book.specs.Variables.{renaming_of}
use Rattle.lj_book.specs.State.{State}
use Rattle.lj_book.specs.Calls.{IsRefusal, IsReplyBy}
use Rattle.lj_book.specs.inner.JointForms.{is_settled}
use Rattle.lj_book.specs.inner.VariableTables.{TopVariables}
use Rattle.lj_book.proofs.GivenBack.{given_goes_on}
use Rattle.lj_book.proofs.InsideOver.{settled_reply, settled_entry, settled_entered, given_out, none_given, given_reply, given_entry, given_entered, taken_back}
use Rattle.lj_book.proofs.ClosedOver.{closed_settled, closed_seat, closed_given, closed_limit}
use Rattle.lj_book.proofs.book.closed.close_named.Goals as goal

pub add_closed-told-requires : goal.add_closed-told-requires
add_closed-told-requires c =
    let j : State = c.args.joint.now in
    let t : TopVariables = c.args.variables.now in
    let a : Addition = c.args.addition.now in
    let lemma : IsLemma a.lemma = c.clause-clause.ensures.lemma in
    let formula : IsFormula j.formula = subst (λ (f : FormulaValue). IsFormula f) c.formula.ensures c.variables.ensures.formula in
    let settled : is_settled t.top (renaming_of t.variables c.args.seat) a.lemma.clause ≡ true = ap (is_settled t.top (renaming_of t.variables c.args.seat)) (sym c.clause-clause.ensures.clause) ∙ c.is_settled.ensures.settled c.if-is_settled.true in
    closed_settled j t c.requires.over c.args.seat a lemma formula c.args.read c.requires.closed settled

pub returns-then-is_settled-clause-reply : goal.returns-then-is_settled-clause-reply
returns-then-is_settled-clause-reply c =
    let j : State = c.args.joint.now in
    let t : TopVariables = c.args.variables.now in
    let a : Addition = c.args.addition.now in
    let lemma : IsLemma a.lemma = c.clause-clause.ensures.lemma in
    let settled : is_settled t.top (renaming_of t.variables c.args.seat) a.lemma.clause ≡ true = ap (is_settled t.top (renaming_of t.variables c.args.seat)) (sym c.clause-clause.ensures.clause) ∙ c.is_settled.ensures.settled c.if-is_settled.true in
    let few : t.variables.next ≤ MAX_VARIABLE + 1 = subst (λ (n : ℕ). n ≤ MAX_VARIABLE + 1) c.next-before.ensures.next c.next-before.ensures.in_range.1 in
    subst (λ (r : Result Added Refusal). IsReplyBy (λ (told : Added × Option Entry). told.0) c.add_closed-told.result r) (settled_reply j t c.requires.over c.args.seat a lemma settled few) c.add_closed-told.ensures.reply

pub returns-then-is_settled-clause-told : goal.returns-then-is_settled-clause-told
returns-then-is_settled-clause-told c =
    let j : State = c.args.joint.now in
    let t : TopVariables = c.args.variables.now in
    let a : Addition = c.args.addition.now in
    let lemma : IsLemma a.lemma = c.clause-clause.ensures.lemma in
    let settled : is_settled t.top (renaming_of t.variables c.args.seat) a.lemma.clause ≡ true = ap (is_settled t.top (renaming_of t.variables c.args.seat)) (sym c.clause-clause.ensures.clause) ∙ c.is_settled.ensures.settled c.if-is_settled.true in
    subst (λ (e : Entry). IfOk c.add_closed-told.result (λ told. told.1 ≡ (if c.args.wanted then Some e else None))) (settled_entry j t c.requires.over c.args.seat a lemma settled) c.add_closed-told.ensures.told

pub returns-then-is_settled-clause-ok : goal.returns-then-is_settled-clause-ok
returns-then-is_settled-clause-ok c =
    let j : State = c.args.joint.now in
    let t : TopVariables = c.args.variables.now in
    let a : Addition = c.args.addition.now in
    let lemma : IsLemma a.lemma = c.clause-clause.ensures.lemma in
    let settled : is_settled t.top (renaming_of t.variables c.args.seat) a.lemma.clause ≡ true = ap (is_settled t.top (renaming_of t.variables c.args.seat)) (sym c.clause-clause.ensures.clause) ∙ c.is_settled.ensures.settled c.if-is_settled.true in
    let few : t.variables.next ≤ MAX_VARIABLE + 1 = subst (λ (n : ℕ). n ≤ MAX_VARIABLE + 1) c.next-before.ensures.next c.next-before.ensures.in_range.1 in
    on_ok_weaker c.add_closed-told.result (settled_entered j t c.requires.over c.args.seat a lemma c.add_closed-told.new.self settled few c.history_is_legal.ensures) c.add_closed-told.ensures.ok

pub give-requires : goal.give-requires
give-requires c =
    let j : State = c.args.joint.now in
    let t : TopVariables = c.args.variables.now in
    let a : Addition = c.args.addition.now in
    let lemma : IsLemma a.lemma = c.clause-clause.ensures.lemma in
    let formula : IsFormula j.formula = subst (λ (f : FormulaValue). IsFormula f) c.formula.ensures c.variables.ensures.formula in
    closed_seat j t c.requires.over c.args.seat a lemma formula c.args.read c.requires.closed

pub returns-then-not-left-clause-reply : goal.returns-then-not-left-clause-reply
returns-then-not-left-clause-reply c =
    let j : State = c.args.joint.now in
    let t : TopVariables = c.args.variables.now in
    let a : Addition = c.args.addition.now in
    let lemma : IsLemma a.lemma = c.clause-clause.ensures.lemma in
    let formula : IsFormula j.formula = subst (λ (f : FormulaValue). IsFormula f) c.formula.ensures c.variables.ensures.formula in
    let none = none_given j t c.requires.over c.args.seat a lemma c.give.new.self _ _ c.clause-clause.ensures.clause c.in_ok-left.ensures.left c.in_ok-left.ensures.given c.if-not-left.true in
    closed_limit j t c.requires.over c.args.seat a lemma formula c.args.read c.requires.closed c.refusal_of_closed.result none.0 c.refusal_of_closed.ensures

pub close_joint_form-requires : goal.close_joint_form-requires
close_joint_form-requires c =
    let j : State = c.args.joint.now in
    let t : TopVariables = c.args.variables.now in
    let a : Addition = c.args.addition.now in
    let lemma : IsLemma a.lemma = c.clause-clause.ensures.lemma in
    let formula : IsFormula j.formula = subst (λ (f : FormulaValue). IsFormula f) c.formula.ensures c.variables.ensures.formula in
    let u : TopVariables = c.give.new.self in
    let gave = given_out j t c.requires.over c.args.seat a lemma u _ _ c.clause-clause.ensures.clause c.in_ok-left.ensures.left c.in_ok-left.ensures.given c.if-not-left.false in
    closed_given j t c.requires.over c.args.seat a lemma formula c.args.read c.requires.closed u gave.0 gave.1

pub returns-in-Ok-clause-reply : goal.returns-in-Ok-clause-reply
returns-in-Ok-clause-reply c =
    let j : State = c.args.joint.now in
    let t : TopVariables = c.args.variables.now in
    let a : Addition = c.args.addition.now in
    let lemma : IsLemma a.lemma = c.clause-clause.ensures.lemma in
    let u : TopVariables = c.give.new.self in
    let gave = given_out j t c.requires.over c.args.seat a lemma u _ _ c.clause-clause.ensures.clause c.in_ok-left.ensures.left c.in_ok-left.ensures.given c.if-not-left.false in
    sym (given_reply j t c.requires.over c.args.seat a lemma u gave.0 gave.1) ∙ c.in-Ok.ensures.reply

pub returns-in-Ok-clause-told : goal.returns-in-Ok-clause-told
returns-in-Ok-clause-told c =
    let j : State = c.args.joint.now in
    let t : TopVariables = c.args.variables.now in
    let a : Addition = c.args.addition.now in
    let lemma : IsLemma a.lemma = c.clause-clause.ensures.lemma in
    let u : TopVariables = c.give.new.self in
    let gave = given_out j t c.requires.over c.args.seat a lemma u _ _ c.clause-clause.ensures.clause c.in_ok-left.ensures.left c.in_ok-left.ensures.given c.if-not-left.false in
    c.in-Ok.ensures.told ∙ ap (λ (e : Entry). if c.args.wanted then Some e else None) (given_entry j t c.requires.over c.args.seat a lemma u gave.0 gave.1)

pub returns-in-Ok-clause-ok : goal.returns-in-Ok-clause-ok
returns-in-Ok-clause-ok c =
    let j : State = c.args.joint.now in
    let t : TopVariables = c.args.variables.now in
    let a : Addition = c.args.addition.now in
    let lemma : IsLemma a.lemma = c.clause-clause.ensures.lemma in
    let u : TopVariables = c.give.new.self in
    let gave = given_out j t c.requires.over c.args.seat a lemma u _ _ c.clause-clause.ensures.clause c.in_ok-left.ensures.left c.in_ok-left.ensures.given c.if-not-left.false in
    given_entered j t c.requires.over c.args.seat a lemma u gave.0 gave.1 c.close_joint_form.new.joint c.history_is_legal-in-Ok.ensures c.in-Ok.ensures.ok

pub take_back-requires : goal.take_back-requires
take_back-requires c =
    let j : State = c.args.joint.now in
    let t : TopVariables = c.args.variables.now in
    let a : Addition = c.args.addition.now in
    let lemma : IsLemma a.lemma = c.clause-clause.ensures.lemma in
    let u : TopVariables = c.give.new.self in
    let gave = given_out j t c.requires.over c.args.seat a lemma u _ _ c.clause-clause.ensures.clause c.in_ok-left.ensures.left c.in_ok-left.ensures.given c.if-not-left.false in
    let tops = ap (λ (w : TopVariables). w.top) gave.1 in
    let nexts = ap (λ (w : TopVariables). w.variables.next) gave.1 in
    let on = given_goes_on t.top t.variables c.args.seat a.lemma.clause in
    let range = c.next-before.ensures.in_range in
    let next = c.next-before.ensures.next in
    (omega arith, omega arith)

pub returns-in-Err-clause-reply : goal.returns-in-Err-clause-reply
returns-in-Err-clause-reply c =
    let j : State = c.args.joint.now in
    let t : TopVariables = c.args.variables.now in
    let a : Addition = c.args.addition.now in
    let lemma : IsLemma a.lemma = c.clause-clause.ensures.lemma in
    let u : TopVariables = c.give.new.self in
    let gave = given_out j t c.requires.over c.args.seat a lemma u _ _ c.clause-clause.ensures.clause c.in_ok-left.ensures.left c.in_ok-left.ensures.given c.if-not-left.false in
    subst (λ (r : Result Added Refusal). IsRefusal c.in-Err.refusal r) (given_reply j t c.requires.over c.args.seat a lemma u gave.0 gave.1) c.in-Err.ensures.reply

pub returns-in-Err-clause-err : goal.returns-in-Err-clause-err
returns-in-Err-clause-err c =
    let j : State = c.args.joint.now in
    let t : TopVariables = c.args.variables.now in
    let a : Addition = c.args.addition.now in
    let lemma : IsLemma a.lemma = c.clause-clause.ensures.lemma in
    let u : TopVariables = c.give.new.self in
    let gave = given_out j t c.requires.over c.args.seat a lemma u _ _ c.clause-clause.ensures.clause c.in_ok-left.ensures.left c.in_ok-left.ensures.given c.if-not-left.false in
    (c.in-Err.ensures.err, taken_back j t c.requires.over c.args.seat a lemma u gave.0 gave.1 c.next-before.result c.take_back.new.self c.next-before.ensures.next c.take_back.ensures)
