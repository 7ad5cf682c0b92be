use Rattle.std.proofs.Common.{◌≡◌, ◌+◌, ◌≤◌, true, [], None, length}
use Rattle.lj_text.specs.Streams.{source_state, HasEnded}
use Rattle.lj_run.specs.inner.Reading.{MayRead}
use Rattle.lj_run.proofs.StreamLemmas.{EnteredBefore}
use Rattle.lj_run.proofs.stream.run_lines.Given as goal
use Rattle.lj_clause.specs.declared.lit.TheConstants.{MAX_VARIABLE}

abbrev pub invariant-loop : goal.invariant-loop
invariant-loop g l =
    let seen = source_state g.S.Source.given g.S.Source.ended g.S.Source.rest g.S.Source.failures in
    record {
      goes : (goal.iterator-loop g).can_next l.iterator';
      finite : (goal.iterator-loop g).is_finite l.iterator';
      unfailed : g.S.Source.failures l.source ≡ 0;
      may_read : l.fault ≡ None → MayRead l.reader l.ended;
      empty : l.lines.items ≡ [];
      ended : l.ended ≡ true → HasEnded (seen l.source);
      max : l.reader.max ≡ MAX_VARIABLE;
      scratch : length l.scratch ≡ 65536;
      known : l.tally.added + l.tally.deleted + l.tally.imported ≤ g.E.Entering.known l.seat;
      runs : EnteredBefore (λ lines. g.E.Entering.entered l.fn.seat lines l.seat) (seen l.fn.source) (seen l.source) l.tally l.reader l.fault;
    }
