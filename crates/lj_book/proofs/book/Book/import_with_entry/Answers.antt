use Rattle.std.proofs.Common.{ap, sym, ◌∙◌}
use Rattle.lj_clause.specs.ClauseMap.{names_up_to}
use Rattle.lj_clause.specs.Renaming.{image}
use Rattle.lj_book.specs.Variables.{renaming_of}
use Rattle.lj_book.specs.Named.{NamedState, names_of}
use Rattle.lj_book.proofs.OverLaws.{within_named, unrefused_named, over_top, reached_over}
use Rattle.lj_book.proofs.book.Book.import_with_entry.Goals as goal

pub import_joint-requires-clause-named : goal.import_joint-requires-clause-named
import_joint-requires-clause-named c =
    let top = over_top c.self.inside.joint c.self.inside.variables c.args.self.now c.self.invariant c.self.view_is in
    (within_named c.args.self.now c.args.seat c.args.own c.args.clause.now (reached_over c.self.inside.joint c.self.inside.variables c.args.self.now c.self.invariant c.self.view_is)
    (ap (λ n. names_up_to n c.args.clause.now) (sym top) ∙ sym c.is_within.ensures.within ∙ c.if-is_within.true)).0

pub import_joint-requires-clause-joint : goal.import_joint-requires-clause-joint
import_joint-requires-clause-joint c =
    let top = over_top c.self.inside.joint c.self.inside.variables c.args.self.now c.self.invariant c.self.view_is in
    (within_named c.args.self.now c.args.seat c.args.own c.args.clause.now (reached_over c.self.inside.joint c.self.inside.variables c.args.self.now c.self.invariant c.self.view_is)
    (ap (λ n. names_up_to n c.args.clause.now) (sym top) ∙ sym c.is_within.ensures.within ∙ c.if-is_within.true)).1

pub import_joint-requires-2-clause-named : goal.import_joint-requires-2-clause-named
import_joint-requires-2-clause-named c =
    unrefused_named c.args.self.now c.args.seat c.args.own c.args.clause.now (sym c.import_refusal.ensures ∙ c.in_default.is)

pub import_joint-requires-2-clause-joint : goal.import_joint-requires-2-clause-joint
import_joint-requires-2-clause-joint c =
    ap (λ (s : NamedState). image (names_of s c.args.seat) c.args.clause.now) (sym c.self.view_is)
    ∙ (λ i. image (renaming_of (sym c.to_joint.ensures.0 i).variables (sym c.to_joint.ensures.1 i)) c.args.clause.now)
    ∙ sym c.in_ok-renamed.ensures
