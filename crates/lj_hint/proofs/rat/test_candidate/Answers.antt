use Rattle.std.proofs.Common.{ap, sym, ◌∙◌}
use Rattle.std.specs.Prelude.{is_some, option_map, neg_ℤ}
use Rattle.lj_clause.specs.LiteralSet.{from_literals, with_negations}
use Rattle.lj_clause.specs.Propagation.{Propagation}
use Rattle.lj_clause.specs.Rat.{others}
use Rattle.lj_hint.specs.inner.Groups.{lent_hints, candidate_told}
use Rattle.lj_hint.proofs.Used.{closed_reads}
use Rattle.lj_hint.proofs.rat.test_candidate.Goals as goal

pub returns-in-ClosedAfter-clause-reply : goal.returns-in-ClosedAfter-clause-reply
returns-in-ClosedAfter-clause-reply g c =
    let a = with_negations (from_literals c.args.assigned.now) (others c.args.clause.now (neg_ℤ c.args.pivot)) in
    let hs = lent_hints (option_map g.H.HintList.hints c.args.hints.now) in
    let propagated = c.in_ok-ending.ensures in
    ap (λ (w : Propagation). candidate_told c.args.number (is_some c.args.hints.now) w) (closed_reads a hs c.in-ClosedAfter.read (sym c.in-ClosedAfter.is ∙ propagated.ending)).0

pub returns-in-ClosedAfter-clause-within : goal.returns-in-ClosedAfter-clause-within
returns-in-ClosedAfter-clause-within g c =
    let a = with_negations (from_literals c.args.assigned.now) (others c.args.clause.now (neg_ℤ c.args.pivot)) in
    let hs = lent_hints (option_map g.H.HintList.hints c.args.hints.now) in
    let propagated = c.in_ok-ending.ensures in
    (closed_reads a hs c.in-ClosedAfter.read (sym c.in-ClosedAfter.is ∙ propagated.ending)).1
