use Rattle.std.proofs.Common.{◌≡◌, ap, sym, ◌∙◌, List}
use Rattle.std.specs.Prelude.{slice_index_or}
use Rattle.std.proofs.lemmas.List.{get_or_past}
use Rattle.std.specs.Ordering.{nat_cmp}
use Rattle.std.specs.FinMap as fin
use Rattle.lj_clause.specs.Renaming.{Renaming}
use Rattle.lj_book.specs.Variables.{renaming_of}
use Rattle.lj_book.specs.inner.VariableTables.{TopVariables}
use Rattle.lj_book.proofs.VariableTables.{joint_range}
use Rattle.lj_book.proofs.variable_table.VariableTable.joint.Goals as goal
use Rattle.lj_book.proofs.variable_table.VariableTable.joint.Goals.{After-copied}

-- what the seat's map has, before the view
kept : (c : After-copied) → c.copied.result ≡ fin.get (slice_index_or c.self.inside.seats.items c.args.seat fin.empty) c.args.own
kept c =
    c.copied.ensures ∙ c.get-in-Some.ensures
    ∙ ap (fin.get c.in-Some.joints.now) c.from.ensures
    ∙ ap (λ (m : Renaming). fin.get m c.args.own) (c.in-Some.ensures.lookup.3.1 fin.empty ∙ ap (λ (ms : List Renaming). slice_index_or ms c.args.seat fin.empty) c.deref.ensures.value)

pub returns-in-Some-clause-joint : goal.returns-in-Some-clause-joint
returns-in-Some-clause-joint c = kept (goal.at.returns-in-Some-clause-joint c).After-copied ∙ ap (λ (t : TopVariables). fin.get (renaming_of t.variables c.args.seat) c.args.own) c.self.view_is

pub returns-in-Some-clause-in_range : goal.returns-in-Some-clause-in_range
returns-in-Some-clause-in_range c = joint_range c.self.inside.top c.self.inside.seats.items c.self.inside.owners.items c.args.seat c.args.own c.copied.result c.self.invariant (kept (goal.at.returns-in-Some-clause-in_range c).After-copied)

pub returns-in-None-clause-joint : goal.returns-in-None-clause-joint
returns-in-None-clause-joint c =
    sym (ap (λ (m : Renaming). fin.get m c.args.own) (ap (λ (ms : List Renaming). slice_index_or ms c.args.seat fin.empty) (sym c.deref.ensures.value) ∙ get_or_past c.deref.result.now c.args.seat fin.empty c.in-None.ensures.lookup.3)
    ∙ fin.get-empty nat_cmp c.args.own)
    ∙ ap (λ (t : TopVariables). fin.get (renaming_of t.variables c.args.seat) c.args.own) c.self.view_is
