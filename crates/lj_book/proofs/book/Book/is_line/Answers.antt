use Rattle.std.proofs.Common.{◌≡◌, sym, ◌∙◌, subst, ℕ, true}
use Rattle.std.specs.Prelude.{List, Some, slice_get, ◌↔◌}
use Rattle.std.proofs.lemmas.Bool.{false≢true}
use Rattle.lj_text.specs.declared.line.Addition.{Addition}
use Rattle.lj_text.specs.declared.step.Step.{Step}
use Rattle.lj_book.specs.declared.entry.Call.TheVariants as calls
use Rattle.lj_book.specs.declared.entry.Entry.{Entry}
use Rattle.lj_book.specs.inner.JointLines.{line_entry}
use Rattle.lj_book.proofs.EntryLaws.{line_is, line_none, no-line}
use Rattle.lj_book.proofs.OverLaws.{reached_over}
use Rattle.lj_book.proofs.book.Book.is_line.Goals as goal

pub returns-then-is_own_lemma : goal.returns-then-is_own_lemma
returns-then-is_own_lemma c =
    let k : ℕ = c.args.place in
    let seat = c.args.seat in
    let own = c.args.own in
    let a : Addition = c.in-Add.addition in
    subst (λ (x : Step). (c.is_line.result ≡ true) ↔ (slice_get c.args.self.now.history k ≡ Some (record { seat = seat; call = calls.Add own c.args.lemma.now; step = Some x }))) (sym c.in-Add.is)
    (line_is c.self.inside.joint c.self.inside.variables c.args.self.now c.self.invariant c.self.view_is k seat own c.args.lemma.now a c.is_line.result
    (c.is_own_lemma.ensures.0 c.if-is_own_lemma.true)
    (subst (λ (es : List Entry). (c.is_line.result ≡ true) ↔ (slice_get es k ≡ Some (line_entry seat own a))) c.history.ensures c.is_line.ensures))

pub returns-else-is_own_lemma : goal.returns-else-is_own_lemma
returns-else-is_own_lemma c =
    let k : ℕ = c.args.place in
    let seat = c.args.seat in
    let own = c.args.own in
    let a : Addition = c.in-Add.addition in
    subst (λ (x : Step). (c.is_own_lemma.result ≡ true) ↔ (slice_get c.args.self.now.history k ≡ Some (record { seat = seat; call = calls.Add own c.args.lemma.now; step = Some x }))) (sym c.in-Add.is)
    (line_none c.self.inside.joint c.self.inside.variables c.args.self.now c.self.invariant c.self.view_is k seat own c.args.lemma.now a c.is_own_lemma.result c.if-is_own_lemma.false
    (λ mine. false≢true (sym c.if-is_own_lemma.false ∙ c.is_own_lemma.ensures.1 mine)))

pub returns-in-Delete : goal.returns-in-Delete
returns-in-Delete c = (
  λ e. absurd (false≢true e),
  λ e. absurd (no-line c.args.self.now (reached_over c.self.inside.joint c.self.inside.variables c.args.self.now c.self.invariant c.self.view_is) c.args.place c.args.seat c.args.own c.args.lemma.now _
      (subst (λ (x : Step). slice_get c.args.self.now.history c.args.place ≡ Some (record { seat = c.args.seat; call = calls.Add c.args.own c.args.lemma.now; step = Some x })) c.in-Delete.is e)),
)
