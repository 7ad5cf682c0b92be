use Rattle.std.proofs.Common.{◌≡◌, ap, sym, ◌∙◌, arith, ℕ, ◌+◌, ◌-◌}
use Rattle.lj_book.specs.inner.VariableTables.{TopVariables, variables_at, variables_before}
use Rattle.lj_book.proofs.TakenBack.{variables_before-next, variables_before-variables_before}
use Rattle.lj_book.proofs.variable_table.VariableTable.take_back.Goals as goal

pub loop-joint-init : goal.loop-joint-init
loop-joint-init c =
    let top = c.args.self.now.top in
    let v = c.args.self.now.variables in
    let all : c.next-joint-end.result + c.args.next - c.args.next ≡ v.next = (let e = c.next-joint-end.ensures.next in omega arith) in
    record {
      end = c.next-joint-end.ensures.next;
      is = sym (ap (λ n. variables_at top (variables_before n v)) all ∙ ap (variables_at top) (variables_before-next top v c.next-joint-end.ensures.variables));
    }

pub loop-joint-preserved : goal.loop-joint-preserved
loop-joint-preserved c =
    let top = c.args.self.now.top in
    let v = c.args.self.now.variables in
    let k : ℕ = c.next-joint-end.result + c.args.next - c.loop-joint._joint in
    let one_less : k - 1 ≡ c.next-joint-end.result + c.args.next - (c.loop-joint._joint + 1) = omega arith in
    record {
      end = c.next-joint-end.ensures.next;
      is = c.take_last.ensures
          ∙ ap (λ (t : TopVariables). variables_at t.top (variables_before (t.variables.next - 1) t.variables)) c.loop-joint.invariant.is
          ∙ ap (variables_at top) (variables_before-variables_before (k - 1) k v (omega arith))
          ∙ ap (λ n. variables_at top (variables_before n v)) one_less;
    }
