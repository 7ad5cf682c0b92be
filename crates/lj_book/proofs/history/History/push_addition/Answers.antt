use Rattle.std.proofs.Common.{◌≡◌, ap, sym, ◌∙◌, subst, ℕ, arith}
use Rattle.std.specs.Prelude.{List, ℤ, [], ◌∷◌, ◌++◌, length}
use Rattle.lj_clause.specs.Lemma.{IsLemma}
use Rattle.lj_text.specs.declared.line.Addition.{Addition}
use Rattle.lj_book.specs.declared.entry.Entry.{Entry}
use Rattle.lj_book.specs.inner.Records.{entering_kind, entering_entry, lemma_lits, add_encoding, AreWritten, entries_in}
use Rattle.lj_book.proofs.RecordLaws.{entering_back, entering_lits, more_written, more_entries}
use Rattle.lj_book.proofs.history.History.push_addition.Goals as goal

pub invariant_of-self : goal.invariant_of-self
invariant_of-self c =
    let ls : List ℤ = c.self.inside.lits.items in
    let ws : List ℕ = c.self.inside.encoding.items in
    let ss : List ℕ = c.self.inside.starts.items in
    let lemma : IsLemma c.args.step.now.lemma = subst (λ (a : Addition). IsLemma a.lemma) c.step.view_is c.pivot.ensures.lemma in
    let new : List ℤ = lemma_lits c.args.step.now.lemma in
    let encoding : List ℕ = add_encoding (entering_kind c.args.is_import) c.args.seat c.args.own c.args.step.now (length ls) in
    let entry : Entry = entering_entry c.args.is_import c.args.seat c.args.own c.args.step.now in
    let at : c.len-start.result ≡ length ws = c.len-start.ensures ∙ c.self.inside.encoding.ok.0 in
    let starts : c.push_reserved.new.self.items ≡ ss ++ length ws ∷ [] = c.push_reserved.ensures.items ∙ ap (λ (k : ℕ). ss ++ k ∷ []) at in
    subst (λ (xs : List ℤ). AreWritten xs c.put_addition.new.encoding.items c.push_reserved.new.self.items) (sym c.put_addition.ensures.lits)
    (subst (λ (us : List ℕ). AreWritten (ls ++ new) us c.push_reserved.new.self.items) (sym c.put_addition.ensures.encoding)
    (subst (λ (us : List ℕ). AreWritten (ls ++ new) (ws ++ encoding) us) (sym starts)
    (more_written ls new ws encoding ss entry (omega (arith, c.ranges.seat)) (entering_lits c.args.is_import c.args.seat c.args.own c.args.step.now) (λ all more there. entering_back all c.args.is_import c.args.seat c.args.own c.args.step.now (length ls) more lemma there) c.self.invariant)))

pub returns-clause-entries : goal.returns-clause-entries
returns-clause-entries c =
    let ls : List ℤ = c.self.inside.lits.items in
    let ws : List ℕ = c.self.inside.encoding.items in
    let ss : List ℕ = c.self.inside.starts.items in
    let lemma : IsLemma c.args.step.now.lemma = subst (λ (a : Addition). IsLemma a.lemma) c.step.view_is c.pivot.ensures.lemma in
    let new : List ℤ = lemma_lits c.args.step.now.lemma in
    let encoding : List ℕ = add_encoding (entering_kind c.args.is_import) c.args.seat c.args.own c.args.step.now (length ls) in
    let entry : Entry = entering_entry c.args.is_import c.args.seat c.args.own c.args.step.now in
    let at : c.len-start.result ≡ length ws = c.len-start.ensures ∙ c.self.inside.encoding.ok.0 in
    let starts : c.push_reserved.new.self.items ≡ ss ++ length ws ∷ [] = c.push_reserved.ensures.items ∙ ap (λ (k : ℕ). ss ++ k ∷ []) at in
    (λ i. entries_in (c.put_addition.ensures.lits i) (c.put_addition.ensures.encoding i) (starts i))
    ∙ more_entries ls new ws encoding ss entry (λ all more there. entering_back all c.args.is_import c.args.seat c.args.own c.args.step.now (length ls) more lemma there) c.self.invariant
    ∙ ap (λ (es : List Entry). es ++ entry ∷ []) (ap (λ h. h.entries) c.self.view_is)
