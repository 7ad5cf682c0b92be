use Rattle.std.proofs.Common.{refl, subst}
use Rattle.std.specs.Prelude.{[], Result, Ok, Err}
use Rattle.lj_clause.specs.ClauseMap.{FormulaValue, IsFormula}
use Rattle.lj_text.specs.declared.line.Addition.{Addition}
use Rattle.lj_book.specs.declared.entry.Added.{Added}
use Rattle.lj_book.specs.declared.refusal.Refusal.{Refusal}
use Rattle.lj_book.specs.declared.event.Reply.TheVariants as replies
use Rattle.lj_book.specs.Named.{NamedState, IsNamedReached}
use Rattle.lj_book.specs.NamedInside.{named_inside_entry}
use Rattle.lj_book.specs.NamedWorlds.{NamedWorld, if_named_entered}
use Rattle.lj_book.proofs.PrivateReplies.{private_replies}
use Rattle.lj_book.proofs.book.Book.answer_inside.Goals as goal

-- an answer to an addition
abbrev answer_of : Result Added Refusal → Result Added Refusal
answer_of r = r

pub returns-in-Ok-clause-private : goal.returns-in-Ok-clause-private
returns-in-Ok-clause-private c =
    let s : NamedState = c.args.self.now in
    let w : NamedWorld = record { state = s; pending = [] } in
    let a : Addition = c.args.addition.now in
    let formula : IsFormula s.formula = subst (λ (t : NamedState). IsFormula t.formula) c.self.view_is (subst (λ (f : FormulaValue). IsFormula f) c.formula.ensures c.variables.ensures.formula) in
    let reached : IsNamedReached s = subst (λ (t : NamedState). IsNamedReached t) c.self.view_is c.self.invariant.reached in
    private_replies w (if_named_entered w (named_inside_entry s c.args.seat a) (answer_of (Ok c.in-Ok.added))) c.args.seat a (replies.Added c.in-Ok.added) formula reached c.clause.ensures.lemma
    (record { answer = Ok c.in-Ok.added; answers = c.in-Ok.ensures.reply; refused = c.in-Ok.ensures.refused; tells = refl; leaves = refl })

pub returns-in-Err-clause-private : goal.returns-in-Err-clause-private
returns-in-Err-clause-private c =
    let s : NamedState = c.args.self.now in
    let w : NamedWorld = record { state = s; pending = [] } in
    let a : Addition = c.args.addition.now in
    let formula : IsFormula s.formula = subst (λ (t : NamedState). IsFormula t.formula) c.self.view_is (subst (λ (f : FormulaValue). IsFormula f) c.formula.ensures c.variables.ensures.formula) in
    let reached : IsNamedReached s = subst (λ (t : NamedState). IsNamedReached t) c.self.view_is c.self.invariant.reached in
    private_replies w (if_named_entered w (named_inside_entry s c.args.seat a) (answer_of (Err c.in-Err.refusal))) c.args.seat a (replies.Refused c.in-Err.refusal) formula reached c.clause.ensures.lemma
    (record { answer = Err c.in-Err.refusal; answers = c.in-Err.ensures.reply; refused = c.in-Err.ensures.refused; tells = refl; leaves = refl })
