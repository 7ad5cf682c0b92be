use Rattle.std.proofs.Common.{◌≡◌, sym, ◌∙◌, rules}
use Rattle.std.specs.Prelude.{ℤ, List}
use Rattle.lj_clause.specs.LiteralSet.{literals, from_literals}
use Rattle.lj_book.specs.declared.entry.Call.TheVariants as calls
use Rattle.lj_book.specs.inner.Encoding.{number_in}
use Rattle.lj_book.specs.inner.Records.{lits_in}
use Rattle.lj_book.proofs.RecordLaws.{same_import}
use Rattle.lj_book.proofs.history.matching.is_import.Goals as goal

pub returns : goal.returns
returns c =
    let ls : List ℤ = lits_in c.args.lits.now (number_in c.args.encoding.now).1 in
    let number : (number_in c.args.encoding.now).0 ≡ c.in-Import.own = sym c.number-found.ensures.number ∙ c.if-found-own.false in
    let same : ls ≡ literals c.in-Import.clause = search rules in
    let imported : calls.Import (number_in c.args.encoding.now).0 (from_literals ls) ≡ c.args.call.now = same_import (number_in c.args.encoding.now).0 c.in-Import.own ls c.in-Import.clause number same ∙ sym c.in-Import.is in
    search (rules, imported)
