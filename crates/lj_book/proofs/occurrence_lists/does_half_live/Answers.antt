use Rattle.std.proofs.Common.{arith}
use Rattle.std.specs.Prelude.{List}
use Rattle.lj_book.specs.declared.occurrence_lists.Link.{Link}
use Rattle.lj_book.proofs.Chains.{before_less}
use Rattle.lj_book.proofs.occurrence_lists.does_half_live.Goals as goal

pub loop-at-preserved : goal.loop-at-preserved
loop-at-preserved c =
    let none : Link = record { number = 0; before = 0 } in
    let links : List Link = c.args.links.now in
    let l = c.loop-at.invariant.there in
    let less = before_less links c.loop-at.at none c.requires.linked c.loop-at-test.true l in
    record { there = omega (arith, less, l) }
