use Rattle.std.proofs.Common.{◌≡◌, refl, sym, subst, false}
use Rattle.std.specs.Prelude.{List, Some, slice_get}
use Rattle.lj_book.specs.declared.entry.Entry.{Entry}
use Rattle.lj_book.proofs.EntryLaws.{equal_import, import_is, import_none}
use Rattle.lj_book.proofs.book.Book.is_equal_import.Goals as goal

pub returns-in-Some : goal.returns-in-Some
returns-in-Some c =
    import_is c.self.inside.joint c.self.inside.variables c.args.self.now c.self.invariant c.self.view_is c.args.place c.args.seat c.args.own c.args.clause.now c.in-Some.joint c.is_joint_form.result
    (subst (λ (es : List Entry). slice_get es c.args.place ≡ Some (equal_import c.args.seat c.args.own c.in-Some.joint)) c.history.ensures c.in-Some.ensures.some)
    c.is_joint_form.ensures

pub returns-in-None : goal.returns-in-None
returns-in-None c =
    import_none c.self.inside.joint c.self.inside.variables c.args.self.now c.self.invariant c.self.view_is c.args.place c.args.seat c.args.own c.args.clause.now false refl
    (λ d is. c.in-None.ensures.none d (subst (λ (es : List Entry). slice_get es c.args.place ≡ Some (equal_import c.args.seat c.args.own d)) (sym c.history.ensures) is))
