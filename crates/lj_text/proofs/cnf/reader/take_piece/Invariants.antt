use Rattle.std.proofs.Common.{◌≡◌, length, None}
use Rattle.lj_text.specs.LinesRead.{HasNoLineEnd}
use Rattle.lj_text.specs.inner.CnfResuming.{kept_fault}
use Rattle.lj_text.proofs.TakeLemmas.{Going}
use Rattle.lj_text.proofs.cnf.reader.take_piece.Given as goal

abbrev pub invariant-loop-front : goal.invariant-loop-front
invariant-loop-front l = record {
  none : HasNoLineEnd l.buffer.items;
  sound : kept_fault l.fn.before ≡ None → kept_fault l.state ≡ None;
  going : Going l.max l.first l.fn.before l.fn.buffer.items l.piece l.state l.number l.buffer.items l.rest;
}

abbrev pub decreases-loop-front : goal.decreases-loop-front
decreases-loop-front l = length l.rest
