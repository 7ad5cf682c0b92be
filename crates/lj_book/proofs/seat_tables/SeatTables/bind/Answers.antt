use Rattle.std.proofs.Common.{ap, sym, ◌∙◌, arith, ◌<◌}
use Rattle.std.specs.Prelude.{length, Some}
use Rattle.std.specs.FinMap as fin
use Rattle.lj_book.specs.Tables.{Tables, is_here, is_bound, with_table}
use Rattle.lj_book.specs.inner.Holders.{holders_of}
use Rattle.lj_book.proofs.TableLaws.{here_in_range, table_of-at, free_in_table, invariant-bind, ok_then, with_table-set, no_table}
use Rattle.std.proofs.Math.ListN.{set}
use Rattle.lj_book.proofs.seat_tables.SeatTables.bind.Goals as goal

pub index_mut-requires : goal.index_mut-requires
index_mut-requires c =
    let ts = c.self.inside.seats.items in
    let lt : c.args.seat < length ts = here_in_range ts c.args.seat (ap (λ (us : Tables). is_here us c.args.seat) c.self.view_is ∙ c.requires.here) in
    omega (arith, c.self.inside.seats.ok.0)

pub bind_in-requires : goal.bind_in-requires
bind_in-requires c =
    let ts = c.self.inside.seats.items in
    let lt = here_in_range ts c.args.seat (ap (λ (us : Tables). is_here us c.args.seat) c.self.view_is ∙ c.requires.here) in
    let at = table_of-at ts c.args.seat c.index_mut.result.now lt ∙ sym c.index_mut.ensures.value ∙ c.in-Some.is in
    record {
      unbound = free_in_table ts c.args.seat c.args.own c.in-Some.table at (ap (λ (us : Tables). is_bound us c.args.seat c.args.own) c.self.view_is ∙ c.requires.unbound);
      capacity =
          let some = c.requires.capacity in
          let all = c.self.invariant c.args.joint in
          let same = ap (λ (us : Tables). holders_of us c.args.joint) c.self.view_is in
          let many = ap (λ (us : Tables). length us) c.self.view_is in
          omega (arith, c.self.inside.seats.ok.0, c.self.inside.seats.ok.1, c.self.inside.seats.small);
    }

pub invariant_of-self : goal.invariant_of-self
invariant_of-self c =
    let ts = c.self.inside.seats.items in
    let lt = here_in_range ts c.args.seat (ap (λ (us : Tables). is_here us c.args.seat) c.self.view_is ∙ c.requires.here) in
    let at = table_of-at ts c.args.seat c.index_mut.result.now lt ∙ sym c.index_mut.ensures.value ∙ c.in-Some.is in
    let free = free_in_table ts c.args.seat c.args.own c.in-Some.table at (ap (λ (us : Tables). is_bound us c.args.seat c.args.own) c.self.view_is ∙ c.requires.unbound) in
    invariant-bind ts c.args.seat c.args.own c.args.joint c.in-Some.table c.bind_in.new.table c.self.inside.holders c.bind_in.new.holders c.bind_in.result at c.self.invariant free c.bind_in.ensures.table c.bind_in.ensures.holders c.bind_in.ensures.err

pub returns-in-Some-clause-ok : goal.returns-in-Some-clause-ok
returns-in-Some-clause-ok c =
    let ts = c.self.inside.seats.items in
    let lt = here_in_range ts c.args.seat (ap (λ (us : Tables). is_here us c.args.seat) c.self.view_is ∙ c.requires.here) in
    let at = table_of-at ts c.args.seat c.index_mut.result.now lt ∙ sym c.index_mut.ensures.value ∙ c.in-Some.is in
    ok_then c.bind_in.result c.bind_in.ensures.table (λ e.
    ap (λ t. set ts c.args.seat (Some t)) e
    ∙ with_table-set (λ t. fin.insert t c.args.own c.args.joint) ts c.args.seat c.in-Some.table at
    ∙ ap (λ (us : Tables). with_table (λ t. fin.insert t c.args.own c.args.joint) us c.args.seat) c.self.view_is)

pub returns-in-None-clause-ok : goal.returns-in-None-clause-ok
returns-in-None-clause-ok c =
    let ts = c.self.inside.seats.items in
    let here = ap (λ (us : Tables). is_here us c.args.seat) c.self.view_is ∙ c.requires.here in
    no_table ts c.args.seat (table_of-at ts c.args.seat c.index_mut.result.now (here_in_range ts c.args.seat here) ∙ sym c.index_mut.ensures.value ∙ c.in-None.is) here
