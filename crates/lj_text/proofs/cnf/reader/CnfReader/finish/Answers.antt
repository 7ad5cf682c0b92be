use Rattle.std.proofs.Common.{◌≡◌, ℕ, ◌+◌, true, [], ◌∷◌, List, length, None, sym, ◌∙◌, ap, subst}
use Rattle.std.specs.Prelude.{IfErr}
use Rattle.lj_text.specs.Bytes.{tokens_of}
use Rattle.lj_text.specs.LinesRead.{last_number}
use Rattle.lj_text.specs.CnfRead.{is_cnf_no_memory, CnfRead, EndsByNumber, IsAnswer}
use Rattle.lj_text.specs.inner.CnfResuming.{formula_from_state, Reads, asks_memory, kept_fault}
use Rattle.lj_text.specs.Cnf.{HasFault}
use Rattle.lj_text.proofs.TakeLemmas.{answered, ends_at, ends_by, fault-at_end, none_kept, asks_at_end, told_line, told_memory}
use Rattle.lj_text.proofs.cnf.reader.CnfReader.finish.Goals as goal

pub returns-in-Some-clause-answer : goal.returns-in-Some-clause-answer
returns-in-Some-clause-answer c memory =
    let v = c.self.inside in
    let r : CnfRead = record { max = v.max; fed = v.fed.bytes; fault = kept_fault v.state } in
    let same : r ≡ c.args.self = c.self.view_is in
    let Q : CnfRead → Type 0 = λ x. HasFault x.max x.fed c.in-Some.fault in
    subst Q same (fault-at_end v.max v.fed.bytes c.in-Some.fault (c.self.invariant.told c.in-Some.fault (sym c.in-Some.ensures) memory))

pub returns-clause-answer : goal.returns-clause-answer
returns-clause-answer c =
    let v = c.self.inside in
    let r : CnfRead = record { max = v.max; fed = v.fed.bytes; fault = kept_fault v.state } in
    let same : r ≡ c.args.self = c.self.view_is in
    let sound : kept_fault v.state ≡ None = sym c.fault_of.ensures ∙ none_kept c.fault_of.result c.in_default.not-Some in
    let s = c.self.invariant.stands sound in
    let Q : CnfRead → Type 0 = λ x. IsAnswer x.max x.fed c.close.result in
    let R : List ℕ → Type 0 = λ b. Reads v.max (length s.lines + 1) [] c.after_line-state.result (formula_from_state v.max (length s.lines) v.state (b ∷ [])) in
    subst Q same (answered v.max v.line v.buffer.items v.state v.fed.bytes s c.after_line-state.result c.close.result c.self.invariant.none
    (subst R c.deref.ensures.value (c.after_line-state.ensures.reads (length s.lines) s.line_is []))
    (c.close.ensures.reads v.max (length s.lines) s.line_is))

pub returns-clause-line : goal.returns-clause-line
returns-clause-line c none =
    let v = c.self.inside in
    let r : CnfRead = record { max = v.max; fed = v.fed.bytes; fault = kept_fault v.state } in
    let same : r ≡ c.args.self = c.self.view_is in
    let sound : kept_fault v.state ≡ None = ap (λ (x : CnfRead). x.fault) same ∙ none in
    let Q : CnfRead → Type 0 = λ x. IfErr c.close.result (λ fault. fault.line ≡ last_number x.fed) in
    subst Q same (told_line (kept_fault c.after_line-state.result) c.close.result v.line (last_number v.fed.bytes) _ _
    (ends_at v.max v.line v.buffer.items v.state v.fed.bytes (c.self.invariant.stands sound) c.self.invariant.none)
    (c.after_line-state.ensures.told sound) c.close.ensures.told_again c.close.ensures.told)

pub returns-clause-memory : goal.returns-clause-memory
returns-clause-memory c none =
    let v = c.self.inside in
    let r : CnfRead = record { max = v.max; fed = v.fed.bytes; fault = kept_fault v.state } in
    let same : r ≡ c.args.self = c.self.view_is in
    let sound : kept_fault v.state ≡ None = ap (λ (x : CnfRead). x.fault) same ∙ none in
    let Q : CnfRead → Type 0 = λ x. IfErr c.close.result (λ fault. is_cnf_no_memory fault.kind ≡ true → EndsByNumber x.max x.fed) in
    let asked : IfErr c.close.result (λ fault. is_cnf_no_memory fault.kind ≡ true → asks_memory v.state (tokens_of c.deref.result.now) ≡ true) =
    told_memory (kept_fault c.after_line-state.result) c.close.result v.line _ (c.after_line-state.ensures.told sound) c.close.ensures.told_again c.close.ensures.told in
    subst Q same (asks_at_end c.close.result (λ asks. ends_by v.max v.line v.buffer.items v.state v.fed.bytes (c.self.invariant.stands sound) c.self.invariant.none
    (subst (λ (b : List ℕ). asks_memory v.state (tokens_of b) ≡ true) c.deref.ensures.value asks)) asked)
