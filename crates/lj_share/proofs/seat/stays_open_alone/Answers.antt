use Rattle.lj_share.proofs.KeptLaws.{kept_init}
use Rattle.lj_share.proofs.seat.stays_open_alone.Goals as goal

pub invariant_of-seen : goal.invariant_of-seen
invariant_of-seen g c = (c.requires.formula, kept_init g.L.BookId.formula c.args.own.now c.scratch.inside.dead c.args.account.now.view c.scratch.invariant c.requires.own)
