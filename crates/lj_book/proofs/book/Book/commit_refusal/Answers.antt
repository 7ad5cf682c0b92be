use Rattle.std.proofs.Common.{◌≡◌, ap, sym, ◌∙◌}
use Rattle.std.specs.Prelude.{not, nat_lt, Option}
use Rattle.lj_hint.specs.Receipt.{ReceiptValue}
use Rattle.lj_book.specs.declared.refusal.Refusal.{Refusal}
use Rattle.lj_book.specs.State.{State, addition_count, live}
use Rattle.lj_book.specs.Calls.{free_refusal}
use Rattle.lj_book.specs.Variables.{renaming_of}
use Rattle.lj_book.specs.Named.{NamedState}
use Rattle.lj_book.specs.NamedReplies.{named_first_stale, named_commit_refusal}
use Rattle.lj_book.specs.inner.VariableTables.{TopVariables}
use Rattle.lj_book.proofs.NamedCommits.{commit_by, commit_found}
use Rattle.lj_book.proofs.book.Book.commit_refusal.Goals as goal

pub returns-in-Some : goal.returns-in-Some
returns-in-Some c =
    let j : State = c.self.inside.joint in
    let t : TopVariables = c.self.inside.variables in
    let r : ReceiptValue = c.args.receipt.now in
    let found = sym (ap (λ (s : NamedState). named_commit_refusal s r) c.self.view_is) ∙ commit_found j t r c.self.invariant in
    let free : free_refusal j r.seat r.own ≡ c.free_refusal.result = (λ i. free_refusal j (sym c.seat-seat.ensures i) (sym c.own.ensures i)) ∙ sym c.free_refusal.ensures in
    let full = not (nat_lt (addition_count j.history) j.max_steps) in
    sym (found ∙ ap (λ (o : Option Refusal). commit_by o (named_first_stale t.top (renaming_of t.variables r.seat) (live j) r.listed) full) (free ∙ c.in-Some.is))

pub returns-in-Some-first_stale : goal.returns-in-Some-first_stale
returns-in-Some-first_stale c =
    let j : State = c.self.inside.joint in
    let t : TopVariables = c.self.inside.variables in
    let r : ReceiptValue = c.args.receipt.now in
    let found = sym (ap (λ (s : NamedState). named_commit_refusal s r) c.self.view_is) ∙ commit_found j t r c.self.invariant in
    let free : free_refusal j r.seat r.own ≡ c.free_refusal.result = (λ i. free_refusal j (sym c.seat-seat.ensures i) (sym c.own.ensures i)) ∙ sym c.free_refusal.ensures in
    let full = not (nat_lt (addition_count j.history) j.max_steps) in
    let stale : named_first_stale t.top (renaming_of t.variables r.seat) (live j) r.listed ≡ c.first_stale.result =
    (λ i. named_first_stale t.top (renaming_of t.variables (sym c.seat-seat.ensures i)) (live j) (sym c.listed.ensures.listed i)) ∙ sym c.first_stale.ensures in
    sym (found ∙ (λ i. commit_by ((free ∙ c.in_default.is) i) ((stale ∙ c.in-Some-first_stale.is) i) full))

pub returns-then-is_full : goal.returns-then-is_full
returns-then-is_full c =
    let j : State = c.self.inside.joint in
    let t : TopVariables = c.self.inside.variables in
    let r : ReceiptValue = c.args.receipt.now in
    let found = sym (ap (λ (s : NamedState). named_commit_refusal s r) c.self.view_is) ∙ commit_found j t r c.self.invariant in
    let free : free_refusal j r.seat r.own ≡ c.free_refusal.result = (λ i. free_refusal j (sym c.seat-seat.ensures i) (sym c.own.ensures i)) ∙ sym c.free_refusal.ensures in
    let full = not (nat_lt (addition_count j.history) j.max_steps) in
    let stale : named_first_stale t.top (renaming_of t.variables r.seat) (live j) r.listed ≡ c.first_stale.result =
    (λ i. named_first_stale t.top (renaming_of t.variables (sym c.seat-seat.ensures i)) (live j) (sym c.listed.ensures.listed i)) ∙ sym c.first_stale.ensures in
    sym (found ∙ (λ i. commit_by ((free ∙ c.in_default.is) i) ((stale ∙ c.in_default-first_stale.is) i) ((sym c.is_full.ensures ∙ c.if-is_full.true) i)))

pub returns : goal.returns
returns c =
    let j : State = c.self.inside.joint in
    let t : TopVariables = c.self.inside.variables in
    let r : ReceiptValue = c.args.receipt.now in
    let found = sym (ap (λ (s : NamedState). named_commit_refusal s r) c.self.view_is) ∙ commit_found j t r c.self.invariant in
    let free : free_refusal j r.seat r.own ≡ c.free_refusal.result = (λ i. free_refusal j (sym c.seat-seat.ensures i) (sym c.own.ensures i)) ∙ sym c.free_refusal.ensures in
    let full = not (nat_lt (addition_count j.history) j.max_steps) in
    let stale : named_first_stale t.top (renaming_of t.variables r.seat) (live j) r.listed ≡ c.first_stale.result =
    (λ i. named_first_stale t.top (renaming_of t.variables (sym c.seat-seat.ensures i)) (live j) (sym c.listed.ensures.listed i)) ∙ sym c.first_stale.ensures in
    sym (found ∙ (λ i. commit_by ((free ∙ c.in_default.is) i) ((stale ∙ c.in_default-first_stale.is) i) ((sym c.is_full.ensures ∙ c.if-is_full.false) i)))
