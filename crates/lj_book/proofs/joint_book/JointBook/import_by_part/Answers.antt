use Rattle.std.proofs.Common.{◌≡◌, ap, refl, sym, ◌∙◌, subst, ℕ, ◌<◌, Bool, true, false, arith}
use Rattle.std.specs.Prelude.{ℤ, nat_lt, not, List, Option, Some, None, is_some, length, if◌then◌else◌, slice_get, Ok, Err}
use Rattle.std.proofs.lemmas.Bool.Decides.{nat_tests}
use Rattle.lj_clause.specs.LiteralSet.{LiteralSet, literals, from_literals}
use Rattle.lj_clause.specs.Lemma.{lemma_of}
use Rattle.lj_clause.proofs.LiteralSets.{from_literals-literals}
use Rattle.lj_text.specs.declared.line.Addition.{Addition}
use Rattle.lj_text.specs.declared.step.Step.{Step}
use Rattle.lj_text.specs.declared.step.Step.TheVariants.{Add}
use Rattle.lj_book.specs.declared.entry.Call.TheVariants as calls
use Rattle.lj_book.specs.declared.entry.Entry.{Entry}
use Rattle.lj_book.specs.declared.refusal.Refusal.TheVariants.{Full}
use Rattle.lj_book.specs.State.{State, addition_count, next}
use Rattle.lj_book.specs.Imports.{clause_lemma, part_addition}
use Rattle.lj_book.specs.History.{after_entry, IsLegal}
use Rattle.lj_book.specs.inner.JointLines.{addition_of_parts}
use Rattle.lj_book.specs.inner.Records.{entry_of, entering_entry}
use Rattle.lj_book.proofs.BindingLaws.{can_bind}
use Rattle.lj_book.proofs.Parts.{FindsPart, part_found}
use Rattle.lj_book.proofs.joint_book.JointBook.import_by_part.Goals as goal

has_room : (n m : ℕ) → not (nat_lt n m) ≡ false → n < m
has_room n m h = grind (arith, nat_tests)

fits : (n m : ℕ) → not (nat_lt n m) ≡ false → nat_lt n m ≡ true
fits n m h = grind (arith, nat_tests)

-- the lemma of a clause's literals
lemma_is : (ls : List ℤ) (c : LiteralSet) → ls ≡ literals c → lemma_of ls ≡ clause_lemma c
lemma_is ls c is = λ i. record { clause = (ap from_literals is ∙ from_literals-literals c) i; pivot = slice_get (is i) 0 }

pub enter_legal-requires : goal.enter_legal-requires
enter_legal-requires c =
    let s : State = c.args.self.now in
    let d : LiteralSet = c.args.clause.now in
    let f : FindsPart s d c.args.part = part_found s d c.args.part c.requires.found in
    let can = can_bind s c.args.seat c.args.own c.requires.free in
    let step : c.new-step.result ≡ part_addition (next s) d c.args.part =
    c.new-step.ensures ∙ (λ i. addition_of_parts (c.next.ensures i) ((c.in_ok-lemma.ensures ∙ lemma_is _ d c.lits.ensures) i) (c.in_ok-hints.ensures i, c.new-groups.ensures i)) in
    subst (λ (a : Addition). IsLegal s (entering_entry true c.args.seat c.args.own a)) (sym step)
    (record { here = can.here; unbound = can.unbound; finds = ap is_some f.number; capacity = λ some. has_room (addition_count s.history) s.max_steps (sym c.is_full.ensures ∙ c.if-is_full.false); asked = sym f.step })

pub returns-clause-reply : goal.returns-clause-reply
returns-clause-reply c =
    let s : State = c.args.self.now in
    let fitting : nat_lt (addition_count s.history) s.max_steps ≡ true = fits (addition_count s.history) s.max_steps (sym c.is_full.ensures ∙ c.if-is_full.false) in
    ap (λ b. if b then Ok (record { place = length s.history; joint = next s }) else Err Full) fitting
    ∙ (λ i. Ok (record { place = (sym c.in_ok-added.ensures.told i).place; joint = (sym c.in_ok-added.ensures.told i).joint }))

-- an entry whose step is copied where it is wanted too
copied_if : (b : Bool) (f : Option Step → Entry) (o : Option Step) → ◌≡◌ {A = Option Entry} (if b then Some (f (if b then o else None)) else None) (if b then Some (f o) else None)
copied_if true f o = refl
copied_if false f o = refl

pub returns-clause-told : goal.returns-clause-told
returns-clause-told c =
    let s : State = c.args.self.now in
    let d : LiteralSet = c.args.clause.now in
    let f : FindsPart s d c.args.part = part_found s d c.args.part c.requires.found in
    let step : c.new-step.result ≡ part_addition (next s) d c.args.part =
    c.new-step.ensures ∙ (λ i. addition_of_parts (c.next.ensures i) ((c.in_ok-lemma.ensures ∙ lemma_is _ d c.lits.ensures) i) (c.in_ok-hints.ensures i, c.new-groups.ensures i)) in
    let entry : Option Step → Entry = entry_of c.args.seat (calls.Import c.args.own c.args.named.now) in
    c.in_ok-entry.ensures
    ∙ ap (λ (o : Option Step). if c.args.wanted then Some (entry o) else None) c.in_ok-copied.ensures
    ∙ copied_if c.args.wanted entry (Some (Add c.new-step.result))
    ∙ ap (λ (o : Option Step). if c.args.wanted then Some (entry o) else None) (ap (λ (a : Addition). Some (Add a)) step ∙ sym f.step)

pub returns-clause-ok : goal.returns-clause-ok
returns-clause-ok c =
    let s : State = c.args.self.now in
    let d : LiteralSet = c.args.clause.now in
    let f : FindsPart s d c.args.part = part_found s d c.args.part c.requires.found in
    let step : c.new-step.result ≡ part_addition (next s) d c.args.part =
    c.new-step.ensures ∙ (λ i. addition_of_parts (c.next.ensures i) ((c.in_ok-lemma.ensures ∙ lemma_is _ d c.lits.ensures) i) (c.in_ok-hints.ensures i, c.new-groups.ensures i)) in
    c.in_ok-added.ensures.ok
    ∙ ap (λ (a : Addition). after_entry s (entering_entry true c.args.seat c.args.own a)) step
    ∙ ap (λ (o : Option Step). after_entry s (record { seat = c.args.seat; call = calls.Import c.args.own d; step = o })) (sym f.step)
