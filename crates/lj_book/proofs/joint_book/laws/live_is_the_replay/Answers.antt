use Rattle.lj_book.proofs.BookLaws.{replayed}
use Rattle.lj_book.proofs.joint_book.laws.live_is_the_replay.Goals as goal

pub returns : goal.returns
returns c = replayed _ _ c.book.view_is c.book.invariant.reached
