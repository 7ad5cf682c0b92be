-- A half of a name names no thread's key, so it may go to another thread.
use denote.Param.Send.{IsSend}
use Rattle.lj_share.specs.inner.Copies.{book_copy_owns}
use Rattle.lj_share.specs.contracts.copies.BookCopy.{the_row}

pub send : IsSend the_row
unfolding book_copy_owns
send = record { owned = λ d vs. ((λ vss. (tt, tt)), tt); leaving = λ k f vs. tt }
