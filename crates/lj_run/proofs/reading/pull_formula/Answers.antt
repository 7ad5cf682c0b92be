use Rattle.std.proofs.Common.{[], take, sym}
use Rattle.std.proofs.lemmas.List.{append-nil}
use Rattle.lj_text.specs.Streams.{source_state}
use Rattle.lj_run.proofs.GivenLemmas.{given_at_end}
use Rattle.lj_run.proofs.reading.pull_formula.Goals as goal

pub returns-then-count-eq0-clause-onward : goal.returns-then-count-eq0-clause-onward
returns-then-count-eq0-clause-onward g c =
    let seen = source_state g.F.Source.given g.F.Source.ended g.F.Source.rest g.F.Source.failures in
    record {
      piece = [];
      gave = given_at_end (seen c.args.source.now) (seen c.pull.new.self) c.in_ok-count.count c.pull.new.buffer (record { given = c.in_ok-count.ensures.given; rest = c.in_ok-count.ensures.rest }) c.if-count-eq0.true;
      fed = sym (append-nil c.args.reader.now.fed);
    }

pub returns-clause-onward : goal.returns-clause-onward
returns-clause-onward g c = record {
  piece = take c.in_ok-count.count c.pull.new.buffer;
  gave = record { given = c.in_ok-count.ensures.given; rest = c.in_ok-count.ensures.rest };
  fed = c.feed.ensures.fed;
}
