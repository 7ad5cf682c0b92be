use Rattle.std.proofs.Common.{◌≡◌, ap, sym, ◌∙◌, subst, ℕ, refl, arith}
use Rattle.std.specs.Prelude.{List, ℤ, [], ◌∷◌, ◌++◌, length}
use Rattle.lj_text.specs.Needed.{if_some}
use Rattle.lj_book.specs.declared.entry.Call.TheVariants as calls
use Rattle.lj_book.specs.declared.entry.Entry.{Entry}
use Rattle.lj_book.specs.inner.Records.{entry_of, leave_encoding, AreWritten, entries_in}
use Rattle.lj_book.proofs.RecordLaws.{leave_back, more_words_written, more_words_entries}
use Rattle.lj_book.proofs.history.History.push_leave.Goals as goal

pub invariant_of-self : goal.invariant_of-self
invariant_of-self c =
    let ls : List ℤ = c.self.inside.lits.items in
    let ws : List ℕ = c.self.inside.encoding.items in
    let ss : List ℕ = c.self.inside.starts.items in
    let encoding : List ℕ = leave_encoding c.args.seat c.args.died.now in
    let entry : Entry = entry_of c.args.seat calls.Leave (if_some c.args.died.now) in
    let at : c.len-start.result ≡ length ws = c.len-start.ensures ∙ c.self.inside.encoding.ok.0 in
    let starts : c.push_reserved.new.self.items ≡ ss ++ length ws ∷ [] = c.push_reserved.ensures.items ∙ ap (λ (k : ℕ). ss ++ k ∷ []) at in
    subst (λ (us : List ℕ). AreWritten ls us c.push_reserved.new.self.items) (sym c.put_leave.ensures)
    (subst (λ (us : List ℕ). AreWritten ls (ws ++ encoding) us) (sym starts)
    (more_words_written ls ws encoding ss entry (omega (arith, c.ranges.seat)) refl (λ all more. leave_back all c.args.seat c.args.died.now more) c.self.invariant))

pub returns-clause-entries : goal.returns-clause-entries
returns-clause-entries c =
    let ls : List ℤ = c.self.inside.lits.items in
    let ws : List ℕ = c.self.inside.encoding.items in
    let ss : List ℕ = c.self.inside.starts.items in
    let encoding : List ℕ = leave_encoding c.args.seat c.args.died.now in
    let entry : Entry = entry_of c.args.seat calls.Leave (if_some c.args.died.now) in
    let at : c.len-start.result ≡ length ws = c.len-start.ensures ∙ c.self.inside.encoding.ok.0 in
    let starts : c.push_reserved.new.self.items ≡ ss ++ length ws ∷ [] = c.push_reserved.ensures.items ∙ ap (λ (k : ℕ). ss ++ k ∷ []) at in
    (λ i. entries_in ls (c.put_leave.ensures i) (starts i))
    ∙ more_words_entries ls ws encoding ss entry (λ all more. leave_back all c.args.seat c.args.died.now more) c.self.invariant
    ∙ ap (λ (es : List Entry). es ++ entry ∷ []) (ap (λ h. h.entries) c.self.view_is)
