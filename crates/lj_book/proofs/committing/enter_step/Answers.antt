use Rattle.std.proofs.Common.{◌≡◌, ap, ◌∙◌, arith}
use Rattle.std.specs.FinMap as fin
use Rattle.lj_text.specs.declared.line.Addition.{Addition}
use Rattle.lj_book.specs.Tables.{Table, with_table, is_here, has_holder}
use Rattle.lj_book.proofs.TableLaws.{none_held, put_and_taken, here-with_table}
use Rattle.lj_book.specs.inner.Holders.{holders_of}
use Rattle.lj_book.proofs.committing.enter_step.Goals as goal

pub bind-requires-clause-capacity : goal.bind-requires-clause-capacity
bind-requires-clause-capacity c =
    let no_holder = ap (λ (a : Addition). has_holder c.args.tables.now a.number) c.step.view_is ∙ c.requires.no_holder in
    let none : holders_of c.args.tables.now c.step.inside.number ≡ 0 = none_held c.args.tables.now c.step.inside.number no_holder in
    omega arith

pub returns-in-Err-clause-err : goal.returns-in-Err-clause-err
returns-in-Err-clause-err c = (
  c.in-Err.ensures.lives,
  c.unbind.ensures.removed
      ∙ ap (λ ts. with_table (λ (t : Table). fin.remove t c.args.own) ts c.args.seat) c.in_ok-bind.ensures.ok
      ∙ put_and_taken c.args.tables.now c.args.seat c.args.own c.step.inside.number c.requires.here c.requires.unbound,
)

pub unbind-requires : goal.unbind-requires
unbind-requires c = record {
  here = ap (λ ts. is_here ts c.args.seat) c.in_ok-bind.ensures.ok ∙ here-with_table (λ (t : Table). fin.insert t c.args.own c.step.inside.number) c.args.tables.now c.args.seat ∙ c.requires.here;
}
