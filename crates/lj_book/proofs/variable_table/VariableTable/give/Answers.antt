use Rattle.std.proofs.Common.{◌≡◌, ap, refl, sym, ◌∙◌, arith, ◌+◌, false, List, ◌∷◌, drop, length}
use Rattle.std.specs.Prelude.{ℤ, map}
use Rattle.std.proofs.lemmas.Bool.{lt-leb, le-leb}
use Rattle.lj_clause.specs.Literal.{variable_of}
use Rattle.lj_clause.specs.Renaming.{has_name}
use Rattle.lj_book.specs.Variables.{Variables, renaming_of, with_names, given}
use Rattle.lj_book.specs.inner.VariableTables.{TopVariables, variables_at, variables_before}
use Rattle.lj_book.proofs.VariableLaws.{nameless, length-with}
use Rattle.lj_book.proofs.TakenBack.{variables_before-next, variables_before-with_variable}
use Rattle.lj_book.proofs.WithinTop.{within_given}
use Rattle.lj_book.proofs.GivingLaws.{from_one, first_given, next_more}
use Rattle.lj_book.proofs.variable_table.VariableTable.give.Goals as goal
use Rattle.lj_book.proofs.variable_table.VariableTable.give.Goals.{Else-has_name}

-- the literal's variable, and those behind it
here : (c : Else-has_name) → map variable_of (drop c.loop-lit.lit-index c.lits-lit-items.result.now) ≡ c.variable-variable.result ∷ map variable_of (drop (c.loop-lit.lit-index + 1) c.lits-lit-items.result.now)
here c = from_one c.lits-lit-items.result.now c.loop-lit.lit-index c.lit-item.result c.loop-lit-test.true c.lit-item.is ∙ ap (λ x. x ∷ map variable_of (drop (c.loop-lit.lit-index + 1) c.lits-lit-items.result.now)) (sym c.variable-variable.ensures.variable)

nothing : (c : Else-has_name) → has_name c.args.self.now.top (renaming_of c.loop-lit.self.variables c.args.seat) c.variable-variable.result ≡ false
nothing c = ap (λ top. has_name top (renaming_of c.loop-lit.self.variables c.args.seat) c.variable-variable.result) (sym c.loop-lit.invariant.top) ∙ sym c.has_name.ensures ∙ c.if-has_name.false

pub loop-lit-init : goal.loop-lit-init
loop-lit-init c = record {
  top = refl;
  seats = refl;
  low = omega arith;
  few = omega arith;
  back = variables_before-next c.args.self.now.top c.args.self.now.variables c.next-before.ensures.variables;
  rest = ap (λ (ls : List ℤ). with_names c.args.self.now.top c.args.self.now.variables c.args.seat (map variable_of ls)) c.lits-lit-items.ensures;
}

pub returns-then-next-gt-MAX_VARIABLE-clause-left : goal.returns-then-next-gt-MAX_VARIABLE-clause-left
returns-then-next-gt-MAX_VARIABLE-clause-left c =
    let w = (goal.at.returns-then-next-gt-MAX_VARIABLE-clause-left c).Else-has_name in
    let top = c.args.self.now.top in
    let more = next_more top c.loop-lit.self.variables c.args.seat c.variable-variable.result (map variable_of (drop (c.loop-lit.lit-index + 1) c.lits-lit-items.result.now)) (nothing w) in
    let all = ap (λ (v : Variables). v.next) (ap (with_names top c.loop-lit.self.variables c.args.seat) (sym (here w)) ∙ c.loop-lit.invariant.rest) in
    let next = c.next.ensures.next in
    let past = c.if-next-gt-MAX_VARIABLE.true in
    sym (lt-leb (given top c.args.self.now.variables c.args.seat c.args.clause.now).next _ (omega arith))

pub loop-lit-preserved : goal.loop-lit-preserved
loop-lit-preserved c =
    let w = (goal.at.loop-lit-preserved c).Else-has_name in
    let top = c.args.self.now.top in
    let v : Variables = c.loop-lit.self.variables in
    let seat = c.args.seat in
    let x = c.variable-variable.result in
    let more = map variable_of (drop (c.loop-lit.lit-index + 1) c.lits-lit-items.result.now) in
    let put = c.in_default.ensures.ok in
    let variables = ap (λ (t : TopVariables). t.variables) put in
    let next = ap (λ (t : TopVariables). t.variables.next) put in
    let before = c.next.ensures.next in
    let least = c.loop-lit.invariant.low in
    let free = nameless top (renaming_of v seat) x (nothing w) in
    record {
      top = ap (λ (t : TopVariables). t.top) put ∙ c.loop-lit.invariant.top;
      seats = ap (λ (t : TopVariables). length t.variables.of_seats) put ∙ length-with v seat x ∙ c.loop-lit.invariant.seats;
      low = omega arith;
      few = omega arith;
      back = ap (variables_before c.args.self.now.variables.next) variables ∙ variables_before-with_variable c.args.self.now.variables.next v seat x free.1 least ∙ c.loop-lit.invariant.back;
      rest = ap (λ u. with_names top u seat more) variables
          ∙ sym (first_given top v seat x more (nothing w))
          ∙ ap (with_names top v seat) (sym (here w)) ∙ c.loop-lit.invariant.rest;
    }

pub returns-then-is_within-clause-given : goal.returns-then-is_within-clause-given
returns-then-is_within-clause-given c =
    ap (variables_at c.args.self.now.top) (sym (within_given c.args.self.now.top c.args.self.now.variables c.args.seat c.is_within.ensures.variables c.args.clause.now (sym c.is_within.ensures.within ∙ c.if-is_within.true)))

pub returns-then-is_within-clause-left : goal.returns-then-is_within-clause-left
returns-then-is_within-clause-left c =
    let same = ap (λ (v : Variables). v.next) (within_given c.args.self.now.top c.args.self.now.variables c.args.seat c.is_within.ensures.variables c.args.clause.now (sym c.is_within.ensures.within ∙ c.if-is_within.true)) in
    let few = c.next-before.ensures.in_range in
    let next = c.next-before.ensures.next in
    sym (le-leb (given c.args.self.now.top c.args.self.now.variables c.args.seat c.args.clause.now).next _ (omega arith))
