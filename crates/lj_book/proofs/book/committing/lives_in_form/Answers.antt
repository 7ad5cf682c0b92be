use Rattle.std.proofs.Common.{◌≡◌, ap, refl, sym, ◌∙◌, Bool, true, false}
use Rattle.std.specs.Prelude.{◌&&◌, Option}
use Rattle.lj_clause.specs.LiteralSet.{LiteralSet}
use Rattle.lj_clause.specs.Renaming.{image, is_named}
use Rattle.lj_book.specs.Lookup.{is_clause}
use Rattle.lj_book.specs.Variables.{renaming_of}
use Rattle.lj_book.proofs.book.committing.lives_in_form.Goals as goal

neither : (b : Bool) → false ≡ (b && false)
neither true = refl
neither false = refl

pub returns-in-Some : goal.returns-in-Some
returns-in-Some c =
    let t = c.args.variables.now in
    let m = renaming_of t.variables c.args.seat in
    let p = c.args.pair.now in
    c.is_joint_form.ensures
    ∙ ap (λ (o : Option LiteralSet). is_named t.top m p.clause && is_clause (image m p.clause) o) (sym c.in-Some.is ∙ c.clause.ensures)

pub returns-in-None : goal.returns-in-None
returns-in-None c =
    let t = c.args.variables.now in
    let m = renaming_of t.variables c.args.seat in
    let p = c.args.pair.now in
    neither (is_named t.top m p.clause)
    ∙ ap (λ (o : Option LiteralSet). is_named t.top m p.clause && is_clause (image m p.clause) o) (sym c.in-None.is ∙ c.clause.ensures)
