use Rattle.std.proofs.Common.{◌≡◌, ap, true, subst, sym, ◌∙◌}
use Rattle.std.specs.Prelude.{OnOk, IfOk, IfErr, Some, None, if◌then◌else◌}
use Rattle.lj_text.specs.declared.line.Line.{Line}
use Rattle.lj_text.specs.declared.line.Line.TheVariants as lines
use Rattle.lj_book.specs.Named.{after_named}
use Rattle.lj_share.specs.Refusals.{IsRefusedLine}
use Rattle.lj_share.specs.inner.Lines.{accepts_line, seat_line_entry}
use Rattle.lj_share.proofs.with_entry.enter.Goals as goal

pub returns-in-Add-clause-ok : goal.returns-in-Add-clause-ok
returns-in-Add-clause-ok c =
    let line : c.args.line.now ≡ lines.Add c.deref.result.now = c.in-Add.is ∙ ap lines.Add (sym c.deref.ensures) in
    subst (λ (l : Line). OnOk c.add.result (c.add.new.book ≡ after_named c.args.book.now (seat_line_entry c.args.book.now c.args.seat l))) (sym line) c.add.ensures.ok

pub returns-in-Add-clause-told : goal.returns-in-Add-clause-told
returns-in-Add-clause-told c =
    let line : c.args.line.now ≡ lines.Add c.deref.result.now = c.in-Add.is ∙ ap lines.Add (sym c.deref.ensures) in
    subst (λ (l : Line). IfOk c.add.result (λ told. told.0 ≡ (if c.args.with_entry then Some (seat_line_entry c.args.book.now c.args.seat l) else None))) (sym line) c.add.ensures.told

pub returns-in_ok-entry-in-Delete-clause-told : goal.returns-in_ok-entry-in-Delete-clause-told
returns-in_ok-entry-in-Delete-clause-told c =
    let line : c.args.line.now ≡ lines.Delete c.deref-in-Delete.result.now = c.in-Delete.is ∙ ap lines.Delete (sym c.deref-in-Delete.ensures) in
    subst (λ (l : Line). c.in_ok-entry-in-Delete.entry ≡ (if c.args.with_entry then Some (seat_line_entry c.args.book.now c.args.seat l) else None)) (sym line) c.in_ok-entry-in-Delete.ensures.told

pub returns-in-Import-clause-ok : goal.returns-in-Import-clause-ok
returns-in-Import-clause-ok c =
    let line : c.args.line.now ≡ lines.Import c.in-Import.number c.deref-in-Import.result.now = c.in-Import.is ∙ ap (lines.Import c.in-Import.number) (sym c.deref-in-Import.ensures) in
    subst (λ (l : Line). OnOk c.import.result (c.import.new.book ≡ after_named c.args.book.now (seat_line_entry c.args.book.now c.args.seat l))) (sym line) c.import.ensures.ok

pub returns-in-Import-clause-told : goal.returns-in-Import-clause-told
returns-in-Import-clause-told c =
    let line : c.args.line.now ≡ lines.Import c.in-Import.number c.deref-in-Import.result.now = c.in-Import.is ∙ ap (lines.Import c.in-Import.number) (sym c.deref-in-Import.ensures) in
    subst (λ (l : Line). IfOk c.import.result (λ told. told.0 ≡ (if c.args.with_entry then Some (seat_line_entry c.args.book.now c.args.seat l) else None))) (sym line) c.import.ensures.told

pub returns-in-Import-clause-accepted : goal.returns-in-Import-clause-accepted
returns-in-Import-clause-accepted c =
    let line : c.args.line.now ≡ lines.Import c.in-Import.number c.deref-in-Import.result.now = c.in-Import.is ∙ ap (lines.Import c.in-Import.number) (sym c.deref-in-Import.ensures) in
    subst (λ (l : Line). OnOk c.import.result (accepts_line c.args.book.now c.args.seat l ≡ true)) (sym line) c.import.ensures.accepted

pub returns-in-Import-clause-refusal : goal.returns-in-Import-clause-refusal
returns-in-Import-clause-refusal c =
    let line : c.args.line.now ≡ lines.Import c.in-Import.number c.deref-in-Import.result.now = c.in-Import.is ∙ ap (lines.Import c.in-Import.number) (sym c.deref-in-Import.ensures) in
    subst (λ (l : Line). IfErr c.import.result (λ e. IsRefusedLine c.args.seat l e c.args.book.now)) (sym line) c.import.ensures.refusal
