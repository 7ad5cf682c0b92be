use Rattle.std.proofs.Common.{ap, sym, ◌∙◌, subst, arith, ◌<◌, ◌+◌}
use Rattle.std.specs.Prelude.{length, Some}
use Rattle.lj_book.specs.Tables.{Table, Tables, is_here, with_table, without_keys, table_of, keys_lost}
use Rattle.lj_book.specs.inner.Holders.{AreHolders, count_in, count_at}
use Rattle.lj_book.proofs.TableLaws.{here_in_range, table_of-at, AreHolders-with_table, holders_at_least, with_table-set, no_table}
use Rattle.std.proofs.Math.ListN.{set}
use Rattle.lj_book.proofs.seat_tables.SeatTables.unbind_u32s.Goals as goal

pub index_mut-requires : goal.index_mut-requires
index_mut-requires c =
    let ts = c.self.inside.seats.items in
    let lt : c.args.seat < length ts = here_in_range ts c.args.seat (ap (λ (us : Tables). is_here us c.args.seat) c.self.view_is ∙ c.requires.here) in
    omega (arith, c.self.inside.seats.ok.0)

pub unbind_all_in-requires : goal.unbind_all_in-requires
unbind_all_in-requires c = λ joint.
    let ts = c.self.inside.seats.items in
    let lt = here_in_range ts c.args.seat (ap (λ (us : Tables). is_here us c.args.seat) c.self.view_is ∙ c.requires.here) in
    let at = table_of-at ts c.args.seat c.index_mut.result.now lt ∙ sym c.index_mut.ensures.value ∙ c.in-Some.is in
    let all = c.self.invariant joint in
    let least = holders_at_least ts c.args.seat joint c.in-Some.table at in
    omega arith

pub invariant_of-self : goal.invariant_of-self
invariant_of-self c =
    let ts = c.self.inside.seats.items in
    let lt = here_in_range ts c.args.seat (ap (λ (us : Tables). is_here us c.args.seat) c.self.view_is ∙ c.requires.here) in
    let at = table_of-at ts c.args.seat c.index_mut.result.now lt ∙ sym c.index_mut.ensures.value ∙ c.in-Some.is in
    let change = without_keys c.args.owns.now in
    subst (λ (us : Tables). AreHolders us c.unbind_all_in.new.holders)
    (sym (ap (λ (t : Table). set ts c.args.seat (Some t)) c.unbind_all_in.ensures.table ∙ with_table-set change ts c.args.seat c.in-Some.table at))
    (AreHolders-with_table change ts c.args.seat c.in-Some.table c.self.inside.holders c.unbind_all_in.new.holders at c.self.invariant
    (λ joint. c.unbind_all_in.ensures.holders joint ∙ ap (λ (t : Table). count_at c.self.inside.holders joint + count_in (Some t) joint) c.unbind_all_in.ensures.table))

pub returns-in-Some-clause-removed : goal.returns-in-Some-clause-removed
returns-in-Some-clause-removed c =
    let ts = c.self.inside.seats.items in
    let lt = here_in_range ts c.args.seat (ap (λ (us : Tables). is_here us c.args.seat) c.self.view_is ∙ c.requires.here) in
    let at = table_of-at ts c.args.seat c.index_mut.result.now lt ∙ sym c.index_mut.ensures.value ∙ c.in-Some.is in
    ap (λ t. set ts c.args.seat (Some t)) c.unbind_all_in.ensures.table
    ∙ with_table-set (without_keys c.args.owns.now) ts c.args.seat c.in-Some.table at
    ∙ ap (λ (us : Tables). with_table (without_keys c.args.owns.now) us c.args.seat) c.self.view_is

pub returns-in-Some-clause-count : goal.returns-in-Some-clause-count
returns-in-Some-clause-count c =
    let ts = c.self.inside.seats.items in
    let lt = here_in_range ts c.args.seat (ap (λ (us : Tables). is_here us c.args.seat) c.self.view_is ∙ c.requires.here) in
    let at = table_of-at ts c.args.seat c.index_mut.result.now lt ∙ sym c.index_mut.ensures.value ∙ c.in-Some.is in
    c.unbind_all_in.ensures.count
    ∙ ap (keys_lost c.args.owns.now) (sym at)
    ∙ ap (λ (us : Tables). keys_lost c.args.owns.now (table_of us c.args.seat)) c.self.view_is

pub returns-in-None-clause-removed : goal.returns-in-None-clause-removed
returns-in-None-clause-removed c =
    let ts = c.self.inside.seats.items in
    let here = ap (λ (us : Tables). is_here us c.args.seat) c.self.view_is ∙ c.requires.here in
    no_table ts c.args.seat (table_of-at ts c.args.seat c.index_mut.result.now (here_in_range ts c.args.seat here) ∙ sym c.index_mut.ensures.value ∙ c.in-None.is) here

pub returns-in-None-clause-count : goal.returns-in-None-clause-count
returns-in-None-clause-count c =
    let ts = c.self.inside.seats.items in
    let here = ap (λ (us : Tables). is_here us c.args.seat) c.self.view_is ∙ c.requires.here in
    no_table ts c.args.seat (table_of-at ts c.args.seat c.index_mut.result.now (here_in_range ts c.args.seat here) ∙ sym c.index_mut.ensures.value ∙ c.in-None.is) here
