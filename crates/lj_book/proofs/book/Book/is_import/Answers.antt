use Rattle.std.proofs.Common.{◌≡◌, sym, subst, true}
use Rattle.std.specs.Prelude.{Option, Some, slice_get, ◌↔◌}
use Rattle.lj_text.specs.declared.step.Step.{Step}
use Rattle.lj_book.specs.declared.entry.Call.TheVariants as calls
use Rattle.lj_book.proofs.book.Book.is_import.Goals as goal

pub returns-in-Some : goal.returns-in-Some
returns-in-Some c =
    subst (λ (o : Option Step). (c.is_part_import.result ≡ true) ↔ (slice_get c.args.self.now.history c.args.place ≡ Some (record { seat = c.args.seat; call = calls.Import c.args.own c.args.clause.now; step = o }))) (sym c.in-Some.is) c.is_part_import.ensures

pub returns-in-None : goal.returns-in-None
returns-in-None c =
    subst (λ (o : Option Step). (c.is_equal_import.result ≡ true) ↔ (slice_get c.args.self.now.history c.args.place ≡ Some (record { seat = c.args.seat; call = calls.Import c.args.own c.args.clause.now; step = o }))) (sym c.in-None.is) c.is_equal_import.ensures
