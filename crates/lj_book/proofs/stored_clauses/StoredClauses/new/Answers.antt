use Rattle.lj_book.proofs.RangeLaws.{places_empty, placed_empty}
use Rattle.lj_book.proofs.stored_clauses.StoredClauses.new.Goals as goal

pub invariant_of-result : goal.invariant_of-result
invariant_of-result c = places_empty c.new.result.items c.new-2.result c.new-2.ensures

pub returns : goal.returns
returns c = placed_empty c.new.result.items c.new-2.result c.new-2.ensures
