use Rattle.std.proofs.Common.{◌≡◌, ap, sym, ◌∙◌}
use Rattle.lj_clause.specs.LiteralSet.{LiteralSet}
use Rattle.lj_clause.specs.ClauseMap.{ClauseMap}
use Rattle.lj_book.specs.State.{State, live}
use Rattle.lj_book.specs.Lookup.{least_number, least_part}
use Rattle.lj_book.specs.Imports.{found_by}
use Rattle.lj_book.proofs.joint_book.JointBook.found.Goals as goal

pub returns-in-Some-clause-found : goal.returns-in-Some-clause-found
returns-in-Some-clause-found c =
    let s : State = c.args.self.now in
    let d : LiteralSet = c.args.clause.now in
    let lives : c.make_lists.new.self.live ≡ live s = ap (λ r. r.live) c.make_lists.ensures ∙ c.self.invariant.lives ∙ ap live c.self.view_is in
    ap (λ o. found_by o (least_part (live s) d)) (sym c.in-Some.is ∙ c.least_number.ensures.least ∙ ap (λ (m : ClauseMap). least_number m d) lives)
