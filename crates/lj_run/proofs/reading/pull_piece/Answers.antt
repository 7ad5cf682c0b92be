use Rattle.std.proofs.Common.{take}
use Rattle.lj_run.proofs.reading.pull_piece.Goals as goal

pub returns-in-Ok-feed-clause-onward : goal.returns-in-Ok-feed-clause-onward
returns-in-Ok-feed-clause-onward g c = λ fed handed was. record {
  piece = take c.in-Ok.count c.pull.new.buffer;
  gave = record { given = c.in-Ok.ensures.given; rest = c.in-Ok.ensures.rest };
  stands = c.in-Ok-feed.ensures.stands fed handed was;
}
