use Rattle.std.proofs.Common.{◌≡◌, sym, subst, true}
use Rattle.std.specs.Prelude.{Some, slice_get, ◌↔◌}
use Rattle.lj_book.specs.declared.entry.Call.{Call}
use Rattle.lj_book.proofs.EntryLaws.{other_is, speaks_else}
use Rattle.lj_book.proofs.book.Book.is_entry.Goals as goal

pub returns-in-Add : goal.returns-in-Add
returns-in-Add c =
    subst (λ (call : Call). (c.is_addition.result ≡ true) ↔ (slice_get c.args.self.now.history c.args.place ≡ Some (record c.args.entry.now { call = call }))) (sym c.in-Add.is) c.is_addition.ensures

pub returns-in-Import : goal.returns-in-Import
returns-in-Import c =
    subst (λ (call : Call). (c.is_import.result ≡ true) ↔ (slice_get c.args.self.now.history c.args.place ≡ Some (record c.args.entry.now { call = call }))) (sym c.in-Import.is) c.is_import.ensures

pub returns-in_default : goal.returns-in_default
returns-in_default c =
    other_is c.self.inside.joint c.self.inside.variables c.args.self.now c.self.invariant c.self.view_is c.args.place c.args.entry.now c.is_entry.result
    (speaks_else c.args.entry.now.call c.in_default.not-Add c.in_default.not-Import) c.is_entry.ensures
