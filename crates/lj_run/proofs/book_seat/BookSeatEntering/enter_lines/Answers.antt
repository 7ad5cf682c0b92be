use Rattle.std.proofs.Common.{◌≡◌, ◌∙◌, false, length, get_or, Some, sym, ap, subst, arith}
use Rattle.std.proofs.lemmas.Option.{slice_get-get_or}
use Rattle.lj_book.specs.Named.{NamedState}
use Rattle.lj_share.specs.Refusals.{IsRefusedLine}
use Rattle.lj_share.specs.declared.numbered.Numbered.{Numbered}
use Rattle.lj_run.specs.Run.{has_verdict}
use Rattle.lj_run.proofs.InTurnLemmas.{entered_longer, one_more_line}
use Rattle.lj_run.proofs.book_seat.BookSeatEntering.enter_lines.Goals as goal

pub returns-in-Err-clause-entered : goal.returns-in-Err-clause-entered
returns-in-Err-clause-entered g c = (c.loop-done.invariant.leads.0 ∙ ap (λ (s : NamedState). Some s) (sym c.in-Err.ensures.kept), c.in-Err.ensures.number ∙ c.loop-done.invariant.leads.1)

pub returns-in-Err-clause-known : goal.returns-in-Err-clause-known
returns-in-Err-clause-known g c = ap (λ (s : NamedState). length s.history) c.in-Err.ensures.kept ∙ c.loop-done.invariant.known

pub returns-in-Err-clause-refused : goal.returns-in-Err-clause-refused
returns-in-Err-clause-refused g c =
    let line : Numbered = get_or c.args.lines.now c.loop-done.done c.index-lines-done.result in
    let is = slice_get-get_or c.args.lines.now c.loop-done.done c.index-lines-done.result (omega arith) in (
      line,
      is,
      subst (λ n. IsRefusedLine n line.line c.in-Err.refusal c.enter.new.self.book) (sym c.in-Err.ensures.number)
          (subst (λ (s : NamedState). IsRefusedLine c.loop-done.self.number line.line c.in-Err.refusal s) (sym c.in-Err.ensures.kept) c.in-Err.ensures.refused),
      ap has_verdict c.in-Err.ensures.kept ∙ c.is_stopped.ensures.goes_on c.if-is_stopped.false,
    )

pub loop-done-preserved : goal.loop-done-preserved
loop-done-preserved g c =
    let i = c.loop-done.invariant in
    let line : Numbered = get_or c.args.lines.now c.loop-done.done c.index-lines-done.result in
    let is = slice_get-get_or c.args.lines.now c.loop-done.done c.index-lines-done.result (omega arith) in
    let goes_on : has_verdict c.loop-done.self.book ≡ false = c.is_stopped.ensures.goes_on c.if-is_stopped.false in
    let leads = one_more_line c.args.self.now.number c.loop-done.self.number c.args.self.now.book c.loop-done.self.book c.enter.new.self.book c.args.lines.now c.loop-done.done line i.leads is goes_on c.in-Ok.ensures.ok in
    let longer = entered_longer c.loop-done.self.number c.loop-done.self.book c.enter.new.self.book line.line c.in-Ok.ensures.ok in
    record {
      leads = (leads.0, c.in-Ok.ensures.number ∙ leads.1);
      known = omega (arith, longer, i.known);
    }
