use Rattle.std.proofs.Common.{sym, subst}
use Rattle.std.specs.Prelude.{ℤ, List, Option, Result}
use Rattle.lj_clause.specs.LiteralSet.{from_literals}
use Rattle.lj_clause.specs.Rat.{HintGroup, groups_in, candidates, rat_over}
use Rattle.lj_hint.specs.declared.rat_refusal.RatRefusal.{RatRefusal}
use Rattle.lj_hint.specs.RatTest.{rat_told, rat_reply}
use Rattle.lj_hint.specs.inner.Coverings.{plain_groups, IsCovering}
use Rattle.lj_hint.proofs.Coverings.{given_groups}
use Rattle.lj_hint.proofs.live_line.test_open.Goals as goal

pub returns : goal.returns
returns g c =
    let live = g.L.Clauses.clauses c.args.live.now in
    let a = from_literals c.args.assigned.now in
    let q = c.in-Some.pivot in
    let given : List HintGroup = c.args.groups.now in
    let reply : List HintGroup → Result (List HintGroup) RatRefusal = λ gs. rat_told (rat_over a q (groups_in live gs) (candidates live q)) in
    let named : IsCovering (plain_groups (groups_in live c.in-Ok.groups)) c.cover.result (reply c.in-Ok.groups) = c.cover.ensures in
    let plain : IsCovering (plain_groups (groups_in live given)) c.cover.result (reply given) = subst (λ (gs : List HintGroup). IsCovering (plain_groups (groups_in live gs)) c.cover.result (reply gs)) c.in-Ok.ensures named in
    subst (λ (p : Option ℤ). IsCovering given c.cover.result (rat_reply live a p (groups_in live given))) (sym c.in-Some.is)
    (subst (λ (gs : List HintGroup). IsCovering gs c.cover.result (reply given)) (given_groups live given) plain)
