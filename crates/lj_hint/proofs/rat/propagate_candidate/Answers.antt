use Rattle.std.proofs.Common.{ap, sym, ◌∙◌}
use Rattle.std.specs.Prelude.{[], option_map}
use Rattle.lj_clause.specs.LiteralSet.{LiteralSet, from_literals}
use Rattle.lj_clause.specs.Propagation.{propagate_over}
use Rattle.lj_clause.specs.Rat.{candidate_propagation}
use Rattle.lj_hint.specs.Ending.{ending_of}
use Rattle.lj_hint.proofs.Propagations.{closed_at_once, open_at_end, with_others}
use Rattle.lj_hint.proofs.rat.propagate_candidate.Goals as goal

pub returns-then-is_contradictory-clause-ending : goal.returns-then-is_contradictory-clause-ending
returns-then-is_contradictory-clause-ending g c =
    let a = from_literals c.args.assigned.now in
    let q = c.args.pivot in
    let d = c.args.clause.now in
    let new = from_literals c.insert_negations_but.new.self in
    let is = with_others a new d q _ _ c.negated.ensures c.lits.ensures c.in_ok-insert_negations_but.ensures.ok in
    sym
    (ap (λ o. ending_of (candidate_propagation a q d (option_map g.H.HintList.hints o))) c.in-None.is
    ∙ ap (λ (s : LiteralSet). ending_of (propagate_over s [])) (sym is)
    ∙ ap ending_of (closed_at_once new [] (sym c.if-is_contradictory.ensures)))

pub returns-else-is_contradictory-clause-ending : goal.returns-else-is_contradictory-clause-ending
returns-else-is_contradictory-clause-ending g c =
    let a = from_literals c.args.assigned.now in
    let q = c.args.pivot in
    let d = c.args.clause.now in
    let new = from_literals c.insert_negations_but.new.self in
    let is = with_others a new d q _ _ c.negated.ensures c.lits.ensures c.in_ok-insert_negations_but.ensures.ok in
    sym
    (ap (λ o. ending_of (candidate_propagation a q d (option_map g.H.HintList.hints o))) c.in-None.is
    ∙ ap (λ (s : LiteralSet). ending_of (propagate_over s [])) (sym is)
    ∙ ap ending_of (open_at_end new (sym c.if-is_contradictory.ensures)))
