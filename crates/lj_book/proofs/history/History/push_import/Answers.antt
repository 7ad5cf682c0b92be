use Rattle.std.proofs.Common.{◌≡◌, ap, sym, ◌∙◌, subst, ℕ, refl, arith}
use Rattle.std.specs.Prelude.{List, ℤ, [], ◌∷◌, ◌++◌, length, None}
use Rattle.lj_clause.specs.LiteralSet.{literals}
use Rattle.lj_book.specs.declared.entry.Call.TheVariants as calls
use Rattle.lj_book.specs.declared.entry.Entry.{Entry}
use Rattle.lj_book.specs.inner.Records.{entry_of, import_encoding, AreWritten, entries_in}
use Rattle.lj_book.proofs.RecordLaws.{import_back, more_written, more_entries}
use Rattle.lj_book.proofs.history.History.push_import.Goals as goal

pub invariant_of-self : goal.invariant_of-self
invariant_of-self c =
    let ls : List ℤ = c.self.inside.lits.items in
    let ws : List ℕ = c.self.inside.encoding.items in
    let ss : List ℕ = c.self.inside.starts.items in
    let new : List ℤ = literals c.args.clause.now in
    let encoding : List ℕ = import_encoding c.args.seat c.args.own c.args.clause.now (length ls) in
    let entry : Entry = entry_of c.args.seat (calls.Import c.args.own c.args.clause.now) None in
    let at : c.len-start.result ≡ length ws = c.len-start.ensures ∙ c.self.inside.encoding.ok.0 in
    let starts : c.push_reserved.new.self.items ≡ ss ++ length ws ∷ [] = c.push_reserved.ensures.items ∙ ap (λ (k : ℕ). ss ++ k ∷ []) at in
    subst (λ (xs : List ℤ). AreWritten xs c.put_import.new.encoding.items c.push_reserved.new.self.items) (sym c.put_import.ensures.lits)
    (subst (λ (us : List ℕ). AreWritten (ls ++ new) us c.push_reserved.new.self.items) (sym c.put_import.ensures.encoding)
    (subst (λ (us : List ℕ). AreWritten (ls ++ new) (ws ++ encoding) us) (sym starts)
    (more_written ls new ws encoding ss entry (omega (arith, c.ranges.seat)) refl (λ all more there. import_back all c.args.seat c.args.own c.args.clause.now (length ls) more there) c.self.invariant)))

pub returns-clause-entries : goal.returns-clause-entries
returns-clause-entries c =
    let ls : List ℤ = c.self.inside.lits.items in
    let ws : List ℕ = c.self.inside.encoding.items in
    let ss : List ℕ = c.self.inside.starts.items in
    let new : List ℤ = literals c.args.clause.now in
    let encoding : List ℕ = import_encoding c.args.seat c.args.own c.args.clause.now (length ls) in
    let entry : Entry = entry_of c.args.seat (calls.Import c.args.own c.args.clause.now) None in
    let at : c.len-start.result ≡ length ws = c.len-start.ensures ∙ c.self.inside.encoding.ok.0 in
    let starts : c.push_reserved.new.self.items ≡ ss ++ length ws ∷ [] = c.push_reserved.ensures.items ∙ ap (λ (k : ℕ). ss ++ k ∷ []) at in
    (λ i. entries_in (c.put_import.ensures.lits i) (c.put_import.ensures.encoding i) (starts i))
    ∙ more_entries ls new ws encoding ss entry (λ all more there. import_back all c.args.seat c.args.own c.args.clause.now (length ls) more there) c.self.invariant
    ∙ ap (λ (es : List Entry). es ++ entry ∷ []) (ap (λ h. h.entries) c.self.view_is)
