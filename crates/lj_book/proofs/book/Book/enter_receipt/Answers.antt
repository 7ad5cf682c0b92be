use Rattle.std.proofs.Common.{◌≡◌, ap, sym, ◌∙◌, subst, ℕ, ◌<◌, Bool, cond, true, false, arith}
use Rattle.std.specs.Prelude.{length, if◌then◌else◌, Some, None, Ok}
use Rattle.lj_clause.specs.Lemma.{LemmaValue, IsLemma}
use Rattle.lj_clause.specs.Renaming.{is_named}
use Rattle.lj_hint.specs.Receipt.{ReceiptValue}
use Rattle.lj_book.specs.declared.entry.Added.{Added}
use Rattle.lj_book.specs.declared.entry.Entry.{Entry}
use Rattle.lj_book.specs.State.{State, next}
use Rattle.lj_book.specs.History.{IsLegal}
use Rattle.lj_book.specs.Variables.{IsVariables, renaming_of, given}
use Rattle.lj_book.specs.Named.{NamedState, named_over, given_in, after_named}
use Rattle.lj_book.specs.NamedReplies.{named_commit_refusal, named_commit}
use Rattle.lj_book.specs.NamedEntries.{receipt_entry, named_commit_entry}
use Rattle.lj_book.specs.inner.Over.{IsOver}
use Rattle.lj_book.specs.inner.VariableTables.{TopVariables, variables_at, are_left}
use Rattle.lj_book.proofs.GivenBack.{given_goes_on}
use Rattle.lj_book.proofs.NamedCommits.{joint_line, seat_within, named_then, given_is, legal_then, entered_then, reply_left, reply_none_left, taken_back, refused_reply, refused_is, on_err}
use Rattle.lj_book.proofs.book.Book.enter_receipt.Goals as goal

-- the entry, once the lemma's variables have been given out
entry_then : (j : State) (t u : TopVariables) (r : ReceiptValue) → IsOver j t → named_commit_refusal (named_over j t.variables) r ≡ None → u ≡ variables_at t.top (given t.top t.variables r.seat r.lemma.clause)
    → receipt_entry (renaming_of u.variables r.seat) (next j) r ≡ named_commit_entry (named_over j t.variables) r
entry_then j t u r over free given =
    let variables : u.variables ≡ given_in (named_over j t.variables) r.seat r.lemma.clause = ap (λ (w : TopVariables). w.variables) given ∙ sym (given_is j t r over free) in
    λ i. receipt_entry (renaming_of (variables i) r.seat) (next (sym over.below i)) r

pub returns-in-Some-clause-reply : goal.returns-in-Some-clause-reply
returns-in-Some-clause-reply c = refused_is c.in-Some.refusal (named_commit c.args.self.now c.args.receipt.now) (refused_reply c.args.self.now c.args.receipt.now c.in-Some.refusal (sym c.commit_refusal.ensures ∙ c.in-Some.is))

pub give-requires : goal.give-requires
give-requires c =
    let j : State = c.self.inside.joint in
    let t : TopVariables = c.self.inside.variables in
    let r : ReceiptValue = c.args.receipt.now in
    let over = c.self.invariant in
    let free : named_commit_refusal (named_over j t.variables) r ≡ None = ap (λ (s : NamedState). named_commit_refusal s r) c.self.view_is ∙ sym c.commit_refusal.ensures ∙ c.in_default.is in
    let clause : c.clause.result.now ≡ r.lemma.clause = c.clause.ensures.clause ∙ ap (λ (l : LemmaValue). l.clause) c.lemma.ensures.lemma in
    subst (λ (k : ℕ). k < length t.variables.of_seats) (sym c.seat.ensures) (seat_within j t r over free)

pub returns-then-not-left-clause-reply : goal.returns-then-not-left-clause-reply
returns-then-not-left-clause-reply c =
    let j : State = c.self.inside.joint in
    let t : TopVariables = c.self.inside.variables in
    let r : ReceiptValue = c.args.receipt.now in
    let over = c.self.invariant in
    let free : named_commit_refusal (named_over j t.variables) r ≡ None = ap (λ (s : NamedState). named_commit_refusal s r) c.self.view_is ∙ sym c.commit_refusal.ensures ∙ c.in_default.is in
    let clause : c.clause.result.now ≡ r.lemma.clause = c.clause.ensures.clause ∙ ap (λ (l : LemmaValue). l.clause) c.lemma.ensures.lemma in
    let none : are_left t.top t.variables r.seat r.lemma.clause ≡ false =
    (λ i. are_left t.top t.variables (sym c.seat.ensures i) (sym clause i)) ∙ sym c.in_ok-left.ensures.left ∙ c.if-not-left.true in
    ap (λ (s : NamedState). named_commit s r) (sym c.self.view_is) ∙ reply_none_left j t r over free none

pub enter_joint-requires-clause-named : goal.enter_joint-requires-clause-named
enter_joint-requires-clause-named c =
    let j : State = c.self.inside.joint in
    let t : TopVariables = c.self.inside.variables in
    let r : ReceiptValue = c.args.receipt.now in
    let over = c.self.invariant in
    let free : named_commit_refusal (named_over j t.variables) r ≡ None = ap (λ (s : NamedState). named_commit_refusal s r) c.self.view_is ∙ sym c.commit_refusal.ensures ∙ c.in_default.is in
    let clause : c.clause.result.now ≡ r.lemma.clause = c.clause.ensures.clause ∙ ap (λ (l : LemmaValue). l.clause) c.lemma.ensures.lemma in
    let u : TopVariables = c.give.new.self in
    let left : are_left t.top t.variables r.seat r.lemma.clause ≡ true =
    (λ i. are_left t.top t.variables (sym c.seat.ensures i) (sym clause i)) ∙ sym c.in_ok-left.ensures.left ∙ c.if-not-left.false in
    let given : u ≡ variables_at t.top (given t.top t.variables r.seat r.lemma.clause) =
    c.in_ok-left.ensures.given
    ∙ ap (λ (b : Bool). cond b (variables_at t.top (given t.top t.variables c.seat.result c.clause.result.now)) t) c.if-not-left.false
    ∙ (λ i. variables_at t.top (given t.top t.variables (c.seat.ensures i) (clause i))) in
    (λ i. is_named (given i).top (renaming_of (given i).variables r.seat) r.lemma.clause) ∙ named_then j t r over free

pub enter_joint-requires-clause-legal : goal.enter_joint-requires-clause-legal
enter_joint-requires-clause-legal c =
    let j : State = c.self.inside.joint in
    let t : TopVariables = c.self.inside.variables in
    let r : ReceiptValue = c.args.receipt.now in
    let over = c.self.invariant in
    let free : named_commit_refusal (named_over j t.variables) r ≡ None = ap (λ (s : NamedState). named_commit_refusal s r) c.self.view_is ∙ sym c.commit_refusal.ensures ∙ c.in_default.is in
    let clause : c.clause.result.now ≡ r.lemma.clause = c.clause.ensures.clause ∙ ap (λ (l : LemmaValue). l.clause) c.lemma.ensures.lemma in
    let u : TopVariables = c.give.new.self in
    let left : are_left t.top t.variables r.seat r.lemma.clause ≡ true =
    (λ i. are_left t.top t.variables (sym c.seat.ensures i) (sym clause i)) ∙ sym c.in_ok-left.ensures.left ∙ c.if-not-left.false in
    let given : u ≡ variables_at t.top (given t.top t.variables r.seat r.lemma.clause) =
    c.in_ok-left.ensures.given
    ∙ ap (λ (b : Bool). cond b (variables_at t.top (given t.top t.variables c.seat.result c.clause.result.now)) t) c.if-not-left.false
    ∙ (λ i. variables_at t.top (given t.top t.variables (c.seat.ensures i) (clause i))) in
    subst (λ (w : TopVariables). IsLegal j (joint_line j w.variables r)) (sym given) (legal_then j t r over free c.lemma.ensures.receipt)

pub invariant_of-self-in-Ok : goal.invariant_of-self-in-Ok
invariant_of-self-in-Ok c =
    let j : State = c.self.inside.joint in
    let t : TopVariables = c.self.inside.variables in
    let r : ReceiptValue = c.args.receipt.now in
    let over = c.self.invariant in
    let free : named_commit_refusal (named_over j t.variables) r ≡ None = ap (λ (s : NamedState). named_commit_refusal s r) c.self.view_is ∙ sym c.commit_refusal.ensures ∙ c.in_default.is in
    let clause : c.clause.result.now ≡ r.lemma.clause = c.clause.ensures.clause ∙ ap (λ (l : LemmaValue). l.clause) c.lemma.ensures.lemma in
    let u : TopVariables = c.give.new.self in
    let left : are_left t.top t.variables r.seat r.lemma.clause ≡ true =
    (λ i. are_left t.top t.variables (sym c.seat.ensures i) (sym clause i)) ∙ sym c.in_ok-left.ensures.left ∙ c.if-not-left.false in
    let given : u ≡ variables_at t.top (given t.top t.variables r.seat r.lemma.clause) =
    c.in_ok-left.ensures.given
    ∙ ap (λ (b : Bool). cond b (variables_at t.top (given t.top t.variables c.seat.result c.clause.result.now)) t) c.if-not-left.false
    ∙ (λ i. variables_at t.top (given t.top t.variables (c.seat.ensures i) (clause i))) in
    let proper : IsLemma r.lemma = subst (λ (l : LemmaValue). IsLemma l) c.lemma.ensures.lemma c.clause.ensures.lemma in
    let both = entered_then j t r over free c.enter_joint.new.book u c.history_is_legal.ensures proper left given c.in-Ok.ensures.ok in
    both.0

pub returns-in-Ok-clause-reply : goal.returns-in-Ok-clause-reply
returns-in-Ok-clause-reply c =
    let j : State = c.self.inside.joint in
    let t : TopVariables = c.self.inside.variables in
    let r : ReceiptValue = c.args.receipt.now in
    let over = c.self.invariant in
    let free : named_commit_refusal (named_over j t.variables) r ≡ None = ap (λ (s : NamedState). named_commit_refusal s r) c.self.view_is ∙ sym c.commit_refusal.ensures ∙ c.in_default.is in
    let clause : c.clause.result.now ≡ r.lemma.clause = c.clause.ensures.clause ∙ ap (λ (l : LemmaValue). l.clause) c.lemma.ensures.lemma in
    let u : TopVariables = c.give.new.self in
    let left : are_left t.top t.variables r.seat r.lemma.clause ≡ true =
    (λ i. are_left t.top t.variables (sym c.seat.ensures i) (sym clause i)) ∙ sym c.in_ok-left.ensures.left ∙ c.if-not-left.false in
    let given : u ≡ variables_at t.top (given t.top t.variables r.seat r.lemma.clause) =
    c.in_ok-left.ensures.given
    ∙ ap (λ (b : Bool). cond b (variables_at t.top (given t.top t.variables c.seat.result c.clause.result.now)) t) c.if-not-left.false
    ∙ (λ i. variables_at t.top (given t.top t.variables (c.seat.ensures i) (clause i))) in
    ap (λ (s : NamedState). named_commit s r) (sym c.self.view_is) ∙ reply_left j t r over free left ∙ ap (λ (a : Added). Ok a) (sym c.in-Ok.ensures.added)

pub returns-in-Ok-clause-told : goal.returns-in-Ok-clause-told
returns-in-Ok-clause-told c =
    let j : State = c.self.inside.joint in
    let t : TopVariables = c.self.inside.variables in
    let r : ReceiptValue = c.args.receipt.now in
    let over = c.self.invariant in
    let free : named_commit_refusal (named_over j t.variables) r ≡ None = ap (λ (s : NamedState). named_commit_refusal s r) c.self.view_is ∙ sym c.commit_refusal.ensures ∙ c.in_default.is in
    let clause : c.clause.result.now ≡ r.lemma.clause = c.clause.ensures.clause ∙ ap (λ (l : LemmaValue). l.clause) c.lemma.ensures.lemma in
    let u : TopVariables = c.give.new.self in
    let left : are_left t.top t.variables r.seat r.lemma.clause ≡ true =
    (λ i. are_left t.top t.variables (sym c.seat.ensures i) (sym clause i)) ∙ sym c.in_ok-left.ensures.left ∙ c.if-not-left.false in
    let given : u ≡ variables_at t.top (given t.top t.variables r.seat r.lemma.clause) =
    c.in_ok-left.ensures.given
    ∙ ap (λ (b : Bool). cond b (variables_at t.top (given t.top t.variables c.seat.result c.clause.result.now)) t) c.if-not-left.false
    ∙ (λ i. variables_at t.top (given t.top t.variables (c.seat.ensures i) (clause i))) in
    c.in-Ok.ensures.told ∙ ap (λ (e : Entry). if c.args.wanted then Some e else None) (entry_then j t u r over free given ∙ ap (λ (s : NamedState). named_commit_entry s r) c.self.view_is)

pub returns-in-Ok-clause-ok : goal.returns-in-Ok-clause-ok
returns-in-Ok-clause-ok c =
    let j : State = c.self.inside.joint in
    let t : TopVariables = c.self.inside.variables in
    let r : ReceiptValue = c.args.receipt.now in
    let over = c.self.invariant in
    let free : named_commit_refusal (named_over j t.variables) r ≡ None = ap (λ (s : NamedState). named_commit_refusal s r) c.self.view_is ∙ sym c.commit_refusal.ensures ∙ c.in_default.is in
    let clause : c.clause.result.now ≡ r.lemma.clause = c.clause.ensures.clause ∙ ap (λ (l : LemmaValue). l.clause) c.lemma.ensures.lemma in
    let u : TopVariables = c.give.new.self in
    let left : are_left t.top t.variables r.seat r.lemma.clause ≡ true =
    (λ i. are_left t.top t.variables (sym c.seat.ensures i) (sym clause i)) ∙ sym c.in_ok-left.ensures.left ∙ c.if-not-left.false in
    let given : u ≡ variables_at t.top (given t.top t.variables r.seat r.lemma.clause) =
    c.in_ok-left.ensures.given
    ∙ ap (λ (b : Bool). cond b (variables_at t.top (given t.top t.variables c.seat.result c.clause.result.now)) t) c.if-not-left.false
    ∙ (λ i. variables_at t.top (given t.top t.variables (c.seat.ensures i) (clause i))) in
    let proper : IsLemma r.lemma = subst (λ (l : LemmaValue). IsLemma l) c.lemma.ensures.lemma c.clause.ensures.lemma in
    let both = entered_then j t r over free c.enter_joint.new.book u c.history_is_legal.ensures proper left given c.in-Ok.ensures.ok in
    both.1 ∙ ap (λ (s : NamedState). after_named s (named_commit_entry s r)) c.self.view_is

pub take_back-requires : goal.take_back-requires
take_back-requires c =
    let j : State = c.self.inside.joint in
    let t : TopVariables = c.self.inside.variables in
    let r : ReceiptValue = c.args.receipt.now in
    let over = c.self.invariant in
    let free : named_commit_refusal (named_over j t.variables) r ≡ None = ap (λ (s : NamedState). named_commit_refusal s r) c.self.view_is ∙ sym c.commit_refusal.ensures ∙ c.in_default.is in
    let clause : c.clause.result.now ≡ r.lemma.clause = c.clause.ensures.clause ∙ ap (λ (l : LemmaValue). l.clause) c.lemma.ensures.lemma in
    let u : TopVariables = c.give.new.self in
    let left : are_left t.top t.variables r.seat r.lemma.clause ≡ true =
    (λ i. are_left t.top t.variables (sym c.seat.ensures i) (sym clause i)) ∙ sym c.in_ok-left.ensures.left ∙ c.if-not-left.false in
    let given : u ≡ variables_at t.top (given t.top t.variables r.seat r.lemma.clause) =
    c.in_ok-left.ensures.given
    ∙ ap (λ (b : Bool). cond b (variables_at t.top (given t.top t.variables c.seat.result c.clause.result.now)) t) c.if-not-left.false
    ∙ (λ i. variables_at t.top (given t.top t.variables (c.seat.ensures i) (clause i))) in
    let tops = ap (λ (w : TopVariables). w.top) given in
    let nexts = ap (λ (w : TopVariables). w.variables.next) given in
    let on = given_goes_on t.top t.variables r.seat r.lemma.clause in
    let range = c.next-before.ensures.in_range in
    let next = c.next-before.ensures.next in
    (omega arith, omega arith)

pub invariant_of-self-in-Err : goal.invariant_of-self-in-Err
invariant_of-self-in-Err c =
    let j : State = c.self.inside.joint in
    let t : TopVariables = c.self.inside.variables in
    let r : ReceiptValue = c.args.receipt.now in
    let over = c.self.invariant in
    let free : named_commit_refusal (named_over j t.variables) r ≡ None = ap (λ (s : NamedState). named_commit_refusal s r) c.self.view_is ∙ sym c.commit_refusal.ensures ∙ c.in_default.is in
    let clause : c.clause.result.now ≡ r.lemma.clause = c.clause.ensures.clause ∙ ap (λ (l : LemmaValue). l.clause) c.lemma.ensures.lemma in
    let u : TopVariables = c.give.new.self in
    let left : are_left t.top t.variables r.seat r.lemma.clause ≡ true =
    (λ i. are_left t.top t.variables (sym c.seat.ensures i) (sym clause i)) ∙ sym c.in_ok-left.ensures.left ∙ c.if-not-left.false in
    let given : u ≡ variables_at t.top (given t.top t.variables r.seat r.lemma.clause) =
    c.in_ok-left.ensures.given
    ∙ ap (λ (b : Bool). cond b (variables_at t.top (given t.top t.variables c.seat.result c.clause.result.now)) t) c.if-not-left.false
    ∙ (λ i. variables_at t.top (given t.top t.variables (c.seat.ensures i) (clause i))) in
    let rules : IsVariables t.top t.variables = c.next-before.ensures.variables in
    let back : c.take_back.new.self ≡ t = c.take_back.ensures ∙ taken_back t u r.seat r.lemma.clause c.next-before.result rules given c.next-before.ensures.next in
    subst (λ (w : TopVariables). IsOver c.enter_joint.new.book w) (sym back) (subst (λ (k : State). IsOver k t) (sym c.in-Err.ensures.err) over)

pub returns-in-Err-clause-err : goal.returns-in-Err-clause-err
returns-in-Err-clause-err c =
    let j : State = c.self.inside.joint in
    let t : TopVariables = c.self.inside.variables in
    let r : ReceiptValue = c.args.receipt.now in
    let over = c.self.invariant in
    let free : named_commit_refusal (named_over j t.variables) r ≡ None = ap (λ (s : NamedState). named_commit_refusal s r) c.self.view_is ∙ sym c.commit_refusal.ensures ∙ c.in_default.is in
    let clause : c.clause.result.now ≡ r.lemma.clause = c.clause.ensures.clause ∙ ap (λ (l : LemmaValue). l.clause) c.lemma.ensures.lemma in
    let u : TopVariables = c.give.new.self in
    let left : are_left t.top t.variables r.seat r.lemma.clause ≡ true =
    (λ i. are_left t.top t.variables (sym c.seat.ensures i) (sym clause i)) ∙ sym c.in_ok-left.ensures.left ∙ c.if-not-left.false in
    let given : u ≡ variables_at t.top (given t.top t.variables r.seat r.lemma.clause) =
    c.in_ok-left.ensures.given
    ∙ ap (λ (b : Bool). cond b (variables_at t.top (given t.top t.variables c.seat.result c.clause.result.now)) t) c.if-not-left.false
    ∙ (λ i. variables_at t.top (given t.top t.variables (c.seat.ensures i) (clause i))) in
    let rules : IsVariables t.top t.variables = c.next-before.ensures.variables in
    let back : c.take_back.new.self ≡ t = c.take_back.ensures ∙ taken_back t u r.seat r.lemma.clause c.next-before.result rules given c.next-before.ensures.next in
    (λ i. named_over (c.in-Err.ensures.err i) (back i).variables) ∙ c.self.view_is

pub invariant_of-self : goal.invariant_of-self
invariant_of-self c = subst (λ (w : TopVariables). IsOver c.self.inside.joint w) (sym c.in_err-left.ensures.err) c.self.invariant

pub returns-in_err-left-clause-err : goal.returns-in_err-left-clause-err
returns-in_err-left-clause-err c = on_err c.from_residual.result (ap (λ (w : TopVariables). named_over c.self.inside.joint w.variables) c.in_err-left.ensures.err ∙ c.self.view_is)

-- what isn't given is as it was
kept_so : (t u g : TopVariables) (b : Bool) → u ≡ (cond b g t) → b ≡ false → u ≡ t
kept_so t u g b is off = is ∙ ap (λ (x : Bool). cond x g t) off

pub invariant_of-self-then-not-left : goal.invariant_of-self-then-not-left
invariant_of-self-then-not-left c =
    subst (λ (w : TopVariables). IsOver c.self.inside.joint w) (sym (kept_so c.self.inside.variables c.give.new.self _ _ c.in_ok-left.ensures.given c.if-not-left.true)) c.self.invariant

pub returns-then-not-left-clause-err : goal.returns-then-not-left-clause-err
returns-then-not-left-clause-err c =
    ap (λ (w : TopVariables). named_over c.self.inside.joint w.variables) (kept_so c.self.inside.variables c.give.new.self _ _ c.in_ok-left.ensures.given c.if-not-left.true) ∙ c.self.view_is
