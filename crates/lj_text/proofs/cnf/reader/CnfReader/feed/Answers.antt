use Rattle.std.proofs.Common.{◌≡◌, true, List, ℕ, ◌++◌, Option, None, Some, sym, ◌∙◌, ap, subst}
use Rattle.std.specs.Prelude.{IfSome}
use Rattle.lj_text.specs.declared.cnf.state.State.{State}
use Rattle.lj_text.specs.declared.cnf.fault.CnfFault.{CnfFault}
use Rattle.lj_text.specs.CnfRead.{is_cnf_no_memory, CnfRead, HasFaultAlready, NeedsMemory}
use Rattle.lj_text.specs.inner.CnfResuming.{kept_fault}
use Rattle.lj_text.specs.inner.CnfBuffered.{CnfStandsAt, NeedsMemoryFrom, Taken}
use Rattle.lj_text.proofs.TakeLemmas.{fault-fed, none_kept, scratch-fed, stands-fed}
use Rattle.lj_text.proofs.cnf.reader.CnfReader.feed.Goals as goal

pub returns-in-Some-fault-clause-memory : goal.returns-in-Some-fault-clause-memory
returns-in-Some-fault-clause-memory c none memory =
    let v = c.self.inside in
    let r : CnfRead = record { max = v.max; fed = v.fed.bytes; fault = kept_fault v.state } in
    let same : r ≡ c.args.self.now = c.self.view_is in
    let sound : kept_fault v.state ≡ None = ap (λ (x : CnfRead). x.fault) same ∙ none in
    let taken = c.take_piece-state in
    let scratch : CnfFault → State → Type 0 = λ fault state. is_cnf_no_memory fault.kind ≡ true → NeedsMemoryFrom v.max v.line state v.buffer.items c.args.piece.now fault.line in
    let Q : State → Type 0 = λ state. kept_fault state ≡ None → IfSome (kept_fault taken.result.0) (λ fault. scratch fault state) in
    let told : IfSome (kept_fault taken.result.0) (λ fault. scratch fault v.state) = subst Q c.replace-state.ensures.value taken.ensures.memory sound in
    let kept : kept_fault taken.result.0 ≡ Some c.in-Some-fault.fault = sym c.fault_of-fault.ensures ∙ c.in-Some-fault.is in
    let P : Option CnfFault → Type 0 = λ o. IfSome o (λ fault. scratch fault v.state) in
    let R : CnfRead → Type 0 = λ x. NeedsMemory x.max x.fed c.args.piece.now c.in-Some-fault.fault.line in
    let asked : scratch c.in-Some-fault.fault v.state = subst P kept told in
    subst R same (scratch-fed v.max v.line v.buffer.items v.state v.fed.bytes c.args.piece.now (c.self.invariant.stands sound) c.self.invariant.none c.in-Some-fault.fault.line (asked memory))

pub invariant_of-self-2 : goal.invariant_of-self-2
invariant_of-self-2 c =
    let v = c.self.inside in
    let taken = c.take_piece-state in
    let Q : State → Type 0 = λ state. Taken v.max v.line state v.buffer.items c.args.piece.now taken.result.0 taken.result.1 taken.new.buffer.items in
    let t : Taken v.max v.line v.state v.buffer.items c.args.piece.now taken.result.0 taken.result.1 taken.new.buffer.items = subst Q c.replace-state.ensures.value taken.ensures.taken in
    let was : kept_fault v.state ≡ None = sym c.fault_of.ensures ∙ none_kept c.fault_of.result c.in_default.not-Some in
    let s = c.self.invariant.stands was in
    let fed : c.and-self-inside.result.bytes ≡ v.fed.bytes ++ c.args.piece.now = c.and-self-inside.ensures in
    record {
      max_is = c.self.invariant.max_is;
      none = t.none;
      stands = λ sound. subst (λ (text : List ℕ). CnfStandsAt v.max taken.result.1 taken.new.buffer.items taken.result.0 text) (sym fed)
          (stands-fed v.max v.line v.buffer.items v.state v.fed.bytes c.args.piece.now s taken.result.0 taken.result.1 taken.new.buffer.items t sound);
      told = λ fault is memory. subst (λ (text : List ℕ). HasFaultAlready v.max text fault) (sym fed)
          (fault-fed v.max v.line v.buffer.items v.state v.fed.bytes c.args.piece.now s taken.result.0 taken.result.1 taken.new.buffer.items t fault is memory);
    }
