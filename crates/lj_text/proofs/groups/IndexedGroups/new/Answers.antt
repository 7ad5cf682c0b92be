use Rattle.std.proofs.Common.{◌≡◌, sym, subst, ap, ◌∙◌, ◌-◌, ◌+◌, ◌∷◌, ◌++◌, [], arith, ℕ, suc, List, Option, drop, length}
use Rattle.std.specs.Option.{unwrap_or}
use Rattle.lj_text.proofs.GroupRows.{IsListed, list_next}
use Rattle.lj_text.proofs.groups.IndexedGroups.new.Goals as goal

pub loop-preserved : goal.loop-preserved
loop-preserved c =
    let row : List ℕ = c.row.inside.rest in
    let rest : List ℕ = c.loop.rest in
    let next : List ℕ = c.behind-rest-in-loop.result in
    let hints : ℕ = c.unwrap_or-hints.result in
    let k : ℕ = c.row.inside.count - (c.loop.counter + 1) in
    let counted : c.row.inside.count - c.loop.counter ≡ suc k = omega (arith, c.loop.invariant.0, c.loop-test.true) in
    let is = subst (λ m. IsListed row rest c.loop.starts m c.args.groups.now) counted c.loop.invariant.1 in
    let more = list_next k hints row rest next c.loop.starts c.args.groups.now is (c.unwrap_or-hints.ensures ∙ ap (λ (o : Option ℕ). unwrap_or o 0) c.get.ensures) (sym (c.behind-rest-in-loop.ensures ∙ ap (drop hints) c.behind.ensures)) in
    let start : c.len.result - c.len-in-loop.result ≡ length row - length rest = omega (arith, c.len.ensures, c.len-in-loop.ensures) in
    let pushed : c.push.new.self ≡ c.loop.starts ++ (length row - length rest) ∷ [] = c.in_ok-push.ensures.ok ∙ ap (λ (n : ℕ). c.loop.starts ++ n ∷ []) start in
    (omega (arith, c.loop-test.true), subst (λ (starts : List ℕ). IsListed row next starts k c.args.groups.now) (sym pushed) more)
