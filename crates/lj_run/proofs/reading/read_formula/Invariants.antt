use Rattle.std.proofs.Common.{◌≡◌, length}
use Rattle.lj_text.specs.Streams.{source_state, HasGiven}
use Rattle.lj_run.proofs.reading.read_formula.Given as goal
use Rattle.lj_clause.specs.declared.lit.TheConstants.{MAX_VARIABLE}

abbrev pub invariant-loop : goal.invariant-loop
invariant-loop g l =
    let seen = source_state g.F.Source.given g.F.Source.ended g.F.Source.rest g.F.Source.failures in
    record {
      goes : (goal.iterator-loop g).can_next l.iterator';
      finite : (goal.iterator-loop g).is_finite l.iterator';
      unfailed : g.F.Source.failures l.source ≡ 0;
      max : l.reader.max ≡ MAX_VARIABLE;
      scratch : length l.scratch ≡ 65536;
      gave : HasGiven (seen l.fn.source) (seen l.source) l.reader.fed;
    }
