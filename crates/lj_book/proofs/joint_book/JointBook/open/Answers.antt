use Rattle.std.proofs.Common.{ap, sym, ◌∙◌, subst, ℕ}
use Rattle.std.specs.Prelude.{replicate, Some, None}
use Rattle.lj_book.specs.Tables.{up_to}
use Rattle.lj_book.specs.State.{State}
use Rattle.lj_book.specs.inner.Kept.{IsKept}
use Rattle.lj_book.proofs.BookLaws.{IsKept-opening, same_state}
use Rattle.lj_book.proofs.joint_book.JointBook.open.Goals as goal

pub invariant_of-result : goal.invariant_of-result
invariant_of-result c =
    let f = c.args.formula in
    let tables = c.in_ok-tables.ensures ∙ ap (λ (n : ℕ). replicate c.args.seats (Some (up_to n))) c.len.ensures.len in
    let is = same_state f c.args.max_steps c.in_ok-tables.tables (replicate c.args.seats (Some (up_to _))) c.in_ok-clause_log.clause_log.history.entries _ tables c.in_ok-clause_log.ensures.entries in
    subst (λ (s : State). IsKept s c.in_ok-clause_log.clause_log.live 0 None) (sym is) (IsKept-opening f c.args.seats c.args.max_steps c.in_ok-clause_log.clause_log.live c.requires c.in_ok-clause_log.ensures.live)
