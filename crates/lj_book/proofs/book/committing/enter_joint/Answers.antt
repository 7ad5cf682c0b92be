use Rattle.std.proofs.Common.{◌≡◌, ap, sym, ◌∙◌, subst}
use Rattle.std.specs.Prelude.{if◌then◌else◌, Some, None}
use Rattle.lj_clause.specs.Renaming.{lemma_image}
use Rattle.lj_hint.specs.Hints.{numbers}
use Rattle.lj_text.specs.declared.step.Step.TheVariants as steps
use Rattle.lj_book.specs.declared.entry.Call.TheVariants as calls
use Rattle.lj_book.specs.declared.entry.Entry.{Entry}
use Rattle.lj_book.specs.State.{State, next}
use Rattle.lj_book.specs.History.{after_entry, IsLegal}
use Rattle.lj_book.specs.Variables.{renaming_of}
use Rattle.lj_book.specs.NamedEntries.{receipt_step}
use Rattle.lj_book.specs.inner.JointLines.{addition_of_parts, line_entry}
use Rattle.lj_book.specs.inner.VariableTables.{lemma_as_joint}
use Rattle.lj_book.specs.inner.Records.{entry_of}
use Rattle.lj_book.proofs.NamedCommits.{lemma_is, some_lemma}
use Rattle.lj_book.proofs.book.committing.enter_joint.Goals as goal

pub enter_legal-requires : goal.enter_legal-requires
enter_legal-requires c =
    let j : State = c.args.book.now in
    let t = c.args.variables.now in
    let r = c.args.receipt.now in
    let lemma : c.in-Some.lemma ≡ lemma_image (renaming_of t.variables r.seat) r.lemma =
    lemma_is t.top t.variables r.seat r.lemma c.in-Some.lemma c.requires.named
    (sym c.in-Some.is ∙ c.in_ok-lemma.ensures ∙ (λ i. lemma_as_joint t.top t.variables (c.seat-seat.ensures i) (c.lemma-named.ensures.lemma i))) in
    let step : c.new-step.result ≡ receipt_step (renaming_of t.variables r.seat) (next j) r =
    c.new-step.ensures ∙ (λ i. addition_of_parts (c.next.ensures i) (lemma i) ((c.in_ok-hints.ensures ∙ ap numbers c.listed.ensures.listed) i, c.new-groups.ensures i)) in
    subst (λ (e : Entry). IsLegal j e) (λ i. line_entry (sym c.seat-seat.ensures i) (sym c.own-own.ensures i) (sym step i)) c.requires.legal

pub returns-clause-told : goal.returns-clause-told
returns-clause-told c =
    let j : State = c.args.book.now in
    let t = c.args.variables.now in
    let r = c.args.receipt.now in
    let lemma : c.in-Some.lemma ≡ lemma_image (renaming_of t.variables r.seat) r.lemma =
    lemma_is t.top t.variables r.seat r.lemma c.in-Some.lemma c.requires.named
    (sym c.in-Some.is ∙ c.in_ok-lemma.ensures ∙ (λ i. lemma_as_joint t.top t.variables (c.seat-seat.ensures i) (c.lemma-named.ensures.lemma i))) in
    let step : c.new-step.result ≡ receipt_step (renaming_of t.variables r.seat) (next j) r =
    c.new-step.ensures ∙ (λ i. addition_of_parts (c.next.ensures i) (lemma i) ((c.in_ok-hints.ensures ∙ ap numbers c.listed.ensures.listed) i, c.new-groups.ensures i)) in
    c.in_ok-entry-in-Some.ensures ∙ (λ i. if c.args.wanted then Some (entry_of (c.seat-seat.ensures i) (calls.Add (c.own-own.ensures i) (c.lemma-named.ensures.lemma i)) (Some (steps.Add (step i)))) else None)

pub returns-clause-ok : goal.returns-clause-ok
returns-clause-ok c =
    let j : State = c.args.book.now in
    let t = c.args.variables.now in
    let r = c.args.receipt.now in
    let lemma : c.in-Some.lemma ≡ lemma_image (renaming_of t.variables r.seat) r.lemma =
    lemma_is t.top t.variables r.seat r.lemma c.in-Some.lemma c.requires.named
    (sym c.in-Some.is ∙ c.in_ok-lemma.ensures ∙ (λ i. lemma_as_joint t.top t.variables (c.seat-seat.ensures i) (c.lemma-named.ensures.lemma i))) in
    let step : c.new-step.result ≡ receipt_step (renaming_of t.variables r.seat) (next j) r =
    c.new-step.ensures ∙ (λ i. addition_of_parts (c.next.ensures i) (lemma i) ((c.in_ok-hints.ensures ∙ ap numbers c.listed.ensures.listed) i, c.new-groups.ensures i)) in
    c.in_ok-added-in-Some.ensures.ok ∙ (λ i. after_entry j (line_entry (c.seat-seat.ensures i) (c.own-own.ensures i) (step i)))

pub unreachable-requires : goal.unreachable-requires
unreachable-requires c =
    let t = c.args.variables.now in
    let r = c.args.receipt.now in
    some_lemma t.top t.variables r.seat r.lemma c.requires.named
    (sym c.in-None.is ∙ c.in_ok-lemma.ensures ∙ (λ i. lemma_as_joint t.top t.variables (c.seat-seat.ensures i) (c.lemma-named.ensures.lemma i)))
