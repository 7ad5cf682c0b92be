use Rattle.std.proofs.Common.{ap, sym, ◌∙◌, subst, arith, ◌<◌}
use Rattle.std.specs.Prelude.{length, Some, is_some}
use Rattle.std.specs.FinMap as fin
use Rattle.lj_book.specs.Tables.{Table, Tables, is_here, is_bound, with_table}
use Rattle.lj_book.specs.inner.Holders.{AreHolders}
use Rattle.lj_book.proofs.TableLaws.{here_in_range, table_of-at, joint_in_table, AreHolders-unbind, bound_is_counted, with_table-set, no_table}
use Rattle.std.proofs.Math.ListN.{set}
use Rattle.lj_book.proofs.seat_tables.SeatTables.unbind.Goals as goal

pub index_mut-requires : goal.index_mut-requires
index_mut-requires c =
    let ts = c.self.inside.seats.items in
    let lt : c.args.seat < length ts = here_in_range ts c.args.seat (ap (λ (us : Tables). is_here us c.args.seat) c.self.view_is ∙ c.requires.here) in
    omega (arith, c.self.inside.seats.ok.0)

pub unbind_in-requires : goal.unbind_in-requires
unbind_in-requires c =
    let ts = c.self.inside.seats.items in
    let lt = here_in_range ts c.args.seat (ap (λ (us : Tables). is_here us c.args.seat) c.self.view_is ∙ c.requires.here) in
    let at = table_of-at ts c.args.seat c.index_mut.result.now lt ∙ sym c.index_mut.ensures.value ∙ c.in-Some.is in
    λ joint e. bound_is_counted ts c.args.seat c.args.own joint c.in-Some.table c.self.inside.holders at c.self.invariant e

pub invariant_of-self : goal.invariant_of-self
invariant_of-self c =
    let ts = c.self.inside.seats.items in
    let lt = here_in_range ts c.args.seat (ap (λ (us : Tables). is_here us c.args.seat) c.self.view_is ∙ c.requires.here) in
    let at = table_of-at ts c.args.seat c.index_mut.result.now lt ∙ sym c.index_mut.ensures.value ∙ c.in-Some.is in
    subst (λ (t : Table). AreHolders (set ts c.args.seat (Some t)) c.unbind_in.new.holders) (sym c.unbind_in.ensures.table)
    (AreHolders-unbind ts c.args.seat c.args.own c.in-Some.table c.self.inside.holders c.unbind_in.new.holders at c.self.invariant c.unbind_in.ensures.holders)

pub returns-in-Some-clause-bound : goal.returns-in-Some-clause-bound
returns-in-Some-clause-bound c =
    let ts = c.self.inside.seats.items in
    let lt = here_in_range ts c.args.seat (ap (λ (us : Tables). is_here us c.args.seat) c.self.view_is ∙ c.requires.here) in
    let at = table_of-at ts c.args.seat c.index_mut.result.now lt ∙ sym c.index_mut.ensures.value ∙ c.in-Some.is in
    c.unbind_in.ensures.bound
    ∙ ap is_some (sym (joint_in_table ts c.args.seat c.args.own c.in-Some.table at))
    ∙ ap (λ (us : Tables). is_bound us c.args.seat c.args.own) c.self.view_is

pub returns-in-Some-clause-removed : goal.returns-in-Some-clause-removed
returns-in-Some-clause-removed c =
    let ts = c.self.inside.seats.items in
    let lt = here_in_range ts c.args.seat (ap (λ (us : Tables). is_here us c.args.seat) c.self.view_is ∙ c.requires.here) in
    let at = table_of-at ts c.args.seat c.index_mut.result.now lt ∙ sym c.index_mut.ensures.value ∙ c.in-Some.is in
    ap (λ t. set ts c.args.seat (Some t)) c.unbind_in.ensures.table
    ∙ with_table-set (λ t. fin.remove t c.args.own) ts c.args.seat c.in-Some.table at
    ∙ ap (λ (us : Tables). with_table (λ t. fin.remove t c.args.own) us c.args.seat) c.self.view_is

pub returns-in-None-clause-bound : goal.returns-in-None-clause-bound
returns-in-None-clause-bound c =
    let ts = c.self.inside.seats.items in
    let here = ap (λ (us : Tables). is_here us c.args.seat) c.self.view_is ∙ c.requires.here in
    no_table ts c.args.seat (table_of-at ts c.args.seat c.index_mut.result.now (here_in_range ts c.args.seat here) ∙ sym c.index_mut.ensures.value ∙ c.in-None.is) here

pub returns-in-None-clause-removed : goal.returns-in-None-clause-removed
returns-in-None-clause-removed c =
    let ts = c.self.inside.seats.items in
    let here = ap (λ (us : Tables). is_here us c.args.seat) c.self.view_is ∙ c.requires.here in
    no_table ts c.args.seat (table_of-at ts c.args.seat c.index_mut.result.now (here_in_range ts c.args.seat here) ∙ sym c.index_mut.ensures.value ∙ c.in-None.is) here
