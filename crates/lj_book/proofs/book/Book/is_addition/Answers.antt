use Rattle.std.proofs.Common.{◌≡◌, sym, subst, true}
use Rattle.std.specs.Prelude.{Option, Some, slice_get, ◌↔◌}
use Rattle.std.proofs.lemmas.Bool.{false≢true}
use Rattle.lj_text.specs.declared.step.Step.{Step}
use Rattle.lj_book.specs.declared.entry.Call.TheVariants as calls
use Rattle.lj_book.proofs.EntryLaws.{no-step}
use Rattle.lj_book.proofs.book.Book.is_addition.Goals as goal

pub returns-in-Some : goal.returns-in-Some
returns-in-Some c =
    subst (λ (o : Option Step). (c.is_line.result ≡ true) ↔ (slice_get c.args.self.now.history c.args.place ≡ Some (record { seat = c.args.seat; call = calls.Add c.args.own c.args.lemma.now; step = o }))) (sym c.in-Some.is) c.is_line.ensures

pub returns-in-None : goal.returns-in-None
returns-in-None c = (
  λ e. absurd (false≢true e),
  λ e. absurd (no-step c.args.self.now c.history_is_legal.ensures c.args.place c.args.seat c.args.own c.args.lemma.now
      (subst (λ (o : Option Step). slice_get c.args.self.now.history c.args.place ≡ Some (record { seat = c.args.seat; call = calls.Add c.args.own c.args.lemma.now; step = o })) c.in-None.is e)),
)
