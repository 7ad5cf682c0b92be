use Rattle.std.proofs.Common.{◌≡◌, ap, sym, ◌∙◌, ◌-◌, arith, List}
use Rattle.std.specs.Prelude.{Some, length, slice_get}
use Rattle.std.specs.FinMap as fin
use Rattle.lj_clause.specs.Renaming.{inverse}
use Rattle.lj_book.specs.declared.variable_table.Owner.{Owner}
use Rattle.lj_book.specs.Variables.{renaming_of}
use Rattle.lj_book.specs.inner.VariableTables.{TopVariables}
use Rattle.lj_book.proofs.VariableTables.{own_low, own_past, own_other, own_is, own_range, slice_get_at}
use Rattle.lj_book.proofs.variable_table.VariableTable.own.Goals as goal
use Rattle.lj_book.proofs.variable_table.VariableTable.own.Goals.{In-Some}

-- the owner, before the view
its_owner : (c : In-Some) → slice_get c.self.inside.owners.items (c.args.joint - c.self.inside.top - 1) ≡ Some c.in-Some.owner.now
its_owner c =
    ap (λ (os : List Owner). slice_get os (c.args.joint - c.self.inside.top - 1)) (sym c.deref.ensures.value)
    ∙ slice_get_at c.deref.result.now (c.args.joint - c.self.inside.top - 1) c.in-Some.owner.now c.in-Some.ensures.lookup.3.0
    ∙ ap Some (sym c.in-Some.ensures.lookup.1)

pub returns-then-joint-self-clause-own : goal.returns-then-joint-self-clause-own
returns-then-joint-self-clause-own c =
    sym (own_low c.self.inside.top c.self.inside.seats.items c.self.inside.owners.items c.self.invariant c.args.seat c.args.joint c.if-joint-self.true)
    ∙ ap (λ (t : TopVariables). fin.get (inverse (renaming_of t.variables c.args.seat)) c.args.joint) c.self.view_is

pub returns-then-owner-seat-clause-own : goal.returns-then-owner-seat-clause-own
returns-then-owner-seat-clause-own c =
    sym (own_is c.self.inside.top c.self.inside.seats.items c.self.inside.owners.items c.self.invariant c.args.seat c.args.joint c.if-joint-self.false c.in-Some.owner.now (its_owner (goal.at.returns-then-owner-seat-clause-own c).In-Some) c.if-owner-seat.true)
    ∙ ap (λ (t : TopVariables). fin.get (inverse (renaming_of t.variables c.args.seat)) c.args.joint) c.self.view_is

pub returns-then-owner-seat-clause-in_range : goal.returns-then-owner-seat-clause-in_range
returns-then-owner-seat-clause-in_range c =
    own_range c.self.inside.top c.self.inside.seats.items c.self.inside.owners.items c.self.invariant c.args.seat c.args.joint c.if-joint-self.false c.in-Some.owner.now (its_owner (goal.at.returns-then-owner-seat-clause-in_range c).In-Some) c.if-owner-seat.true

pub returns-else-owner-seat-clause-own : goal.returns-else-owner-seat-clause-own
returns-else-owner-seat-clause-own c =
    sym (own_other c.self.inside.top c.self.inside.seats.items c.self.inside.owners.items c.self.invariant c.args.seat c.args.joint c.if-joint-self.false c.in-Some.owner.now (its_owner (goal.at.returns-else-owner-seat-clause-own c).In-Some) c.if-owner-seat.false)
    ∙ ap (λ (t : TopVariables). fin.get (inverse (renaming_of t.variables c.args.seat)) c.args.joint) c.self.view_is

pub returns-in-None-clause-own : goal.returns-in-None-clause-own
returns-in-None-clause-own c =
    sym (own_past c.self.inside.top c.self.inside.seats.items c.self.inside.owners.items c.self.invariant c.args.seat c.args.joint c.if-joint-self.false
    (let e = ap length c.deref.ensures.value in let l = c.in-None.ensures.lookup.3 in omega arith))
    ∙ ap (λ (t : TopVariables). fin.get (inverse (renaming_of t.variables c.args.seat)) c.args.joint) c.self.view_is
