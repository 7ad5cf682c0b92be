use Rattle.std.proofs.Common.{◌+◌, ap, sym, subst, ◌∙◌, arith}
use Rattle.std.specs.Prelude.{Some, None}
use Rattle.lj_clause.specs.LiteralSet.{LiteralSet, from_literals}
use Rattle.lj_hint.specs.inner.Trail.{Extends}
use Rattle.lj_hint.specs.Ending.{ending_of}
use Rattle.lj_hint.proofs.Propagations.{Reads, propagate_from, ends_contradictory, ends_open, ends_closed, ends_stuck, ends_nowhere, goes_on, left_unopposed}
use Rattle.lj_hint.proofs.TrailLaws.{from_literals-with_assigned, Extends-trans, Extends-with_assigned}
use Rattle.lj_hint.proofs.propagate.propagate.Goals as goal

pub returns-then-is_contradictory-clause-ending : goal.returns-then-is_contradictory-clause-ending
returns-then-is_contradictory-clause-ending g c =
    ends_contradictory (from_literals c.args.assigned.now) (g.H.HintList.hints c.args.hints.now) 0 (sym c.is_contradictory.ensures ∙ c.if-is_contradictory.true) (omega arith)

pub returns-in_default-clause-ending : goal.returns-in_default-clause-ending
returns-in_default-clause-ending g c =
    let a = from_literals c.loop-index.assigned in
    let hs = g.H.HintList.hints c.args.hints.now in
    let r : Reads a hs c.loop-index.index None = record {
      is = sym c.in_default.is ∙ c.clause.ensures;
      within = omega (arith, c.count-index-end.ensures);
      open_yet = c.loop-index.invariant.consistent;
    } in
    ends_nowhere a hs c.loop-index.index r ∙ ap ending_of (sym c.loop-index.invariant.propagated)

pub returns-in-Nothing-clause-ending : goal.returns-in-Nothing-clause-ending
returns-in-Nothing-clause-ending g c =
    let a = from_literals c.loop-index.assigned in
    let hs = g.H.HintList.hints c.args.hints.now in
    let r : Reads a hs c.loop-index.index (Some c.in-Some.clause) = record {
      is = sym c.in-Some.is ∙ c.clause.ensures;
      within = omega (arith, c.count-index-end.ensures);
      open_yet = c.loop-index.invariant.consistent;
    } in
    ends_closed a hs c.loop-index.index c.in-Some.clause r c.in-Nothing.ensures ∙ ap ending_of (sym c.loop-index.invariant.propagated)

pub returns-in-More-clause-ending : goal.returns-in-More-clause-ending
returns-in-More-clause-ending g c =
    let a = from_literals c.loop-index.assigned in
    let hs = g.H.HintList.hints c.args.hints.now in
    let r : Reads a hs c.loop-index.index (Some c.in-Some.clause) = record {
      is = sym c.in-Some.is ∙ c.clause.ensures;
      within = omega (arith, c.count-index-end.ensures);
      open_yet = c.loop-index.invariant.consistent;
    } in
    ends_stuck a hs c.loop-index.index c.in-Some.clause r c.in-More.ensures ∙ ap ending_of (sym c.loop-index.invariant.propagated)

pub insert_unopposed-requires : goal.insert_unopposed-requires
insert_unopposed-requires g c = left_unopposed (from_literals c.loop-index.assigned) c.in-Some.clause c.in-One.lit c.in-One.ensures

pub loop-index-preserved : goal.loop-index-preserved
loop-index-preserved g c =
    let before = c.loop-index.assigned in
    let a = from_literals before in
    let hs = g.H.HintList.hints c.args.hints.now in
    let ok = c.in_ok-insert_unopposed-in-One.ensures.ok in
    let r : Reads a hs c.loop-index.index (Some c.in-Some.clause) = record {
      is = sym c.in-Some.is ∙ c.clause.ensures;
      within = omega (arith, c.count-index-end.ensures);
      open_yet = c.loop-index.invariant.consistent;
    } in
    record {
      propagated = c.loop-index.invariant.propagated
          ∙ goes_on a hs c.loop-index.index c.in-Some.clause c.in-One.lit r c.in-One.ensures
          ∙ ap (λ (s : LiteralSet). propagate_from s hs (c.loop-index.index + 1)) (sym (ap from_literals ok ∙ from_literals-with_assigned before c.in-One.lit));
      extends = Extends-trans c.args.assigned.now before c.insert_unopposed.new.self c.loop-index.invariant.extends (subst (Extends before) (sym ok) (Extends-with_assigned before c.in-One.lit));
      consistent = c.in_ok-insert_unopposed-in-One.ensures.contradictory ∙ c.loop-index.invariant.consistent;
    }

pub returns-clause-ending : goal.returns-clause-ending
returns-clause-ending g c =
    let hs = g.H.HintList.hints c.args.hints.now in
    ap ending_of (sym (c.loop-index.invariant.propagated ∙ ends_open (from_literals c.loop-index.assigned) hs c.loop-index.index c.loop-index.invariant.consistent (omega (arith, c.count-index-end.ensures))))

pub returns-clause-assigned : goal.returns-clause-assigned
returns-clause-assigned g c = λ _.
    let hs = g.H.HintList.hints c.args.hints.now in
    c.loop-index.invariant.propagated ∙ ends_open (from_literals c.loop-index.assigned) hs c.loop-index.index c.loop-index.invariant.consistent (omega (arith, c.count-index-end.ensures))
