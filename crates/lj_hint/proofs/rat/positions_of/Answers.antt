use Rattle.std.proofs.Common.{◌≡◌, sym, subst, ◌∙◌, ℕ, ◌+◌, ◌-◌, ◌<◌, List, Ok, Err, arith, length}
use Rattle.std.proofs.lemmas.List.{get_or-set_same, get_or-set_other, length-set}
use Rattle.std.proofs.lemmas.List.Sorted.{searched}
use Rattle.std.specs.List.Sorted.{IsBinarySearchResult}
use Rattle.std.specs.Ordering.{nat_cmp}
use Rattle.lj_hint.proofs.Places.{ArePlacedFrom, placed_at, placed_nowhere, not_falling}
use Rattle.lj_hint.proofs.rat.positions_of.Goals as goal

pub loop-at-preserved-in-Ok : goal.loop-at-preserved-in-Ok
loop-at-preserved-in-Ok g c =
    let gs = g.G.GroupList.groups c.args.groups.now in
    let cs : List ℕ = c.args.candidates.now in
    let ps : List ℕ = c.loop-at.positions.items in
    let k : ℕ = c.loop-at.at - 1 in
    let i : ℕ = c.in-Ok.index in
    let next : k + 1 ≡ c.loop-at.at = omega arith in
    let within : k < length gs = omega (arith, c.loop-at.invariant.0) in
    let found = searched cs c.candidate.result (Ok i) (subst (IsBinarySearchResult (λ y. nat_cmp y c.candidate.result) cs) c.in-Ok.is c.binary_search.ensures.position) (not_falling cs c.requires) in
    let capacity : i < length ps = omega (arith, found.0, c.loop-at.invariant.1.0) in
    let positioned = subst (ArePlacedFrom gs cs ps) (sym next) c.loop-at.invariant.1.1 in (
      omega (arith, c.loop-at.invariant.0),
      (length-set ps i (k + 1) ∙ c.loop-at.invariant.1.0, placed_at gs cs ps _ k i within c.requires found.0 (found.1 ∙ c.candidate.ensures) (get_or-set_same ps i (k + 1) 0 capacity) (λ j covered. get_or-set_other ps i j (k + 1) 0 covered) positioned),
    )

pub loop-at-preserved : goal.loop-at-preserved
loop-at-preserved g c =
    let gs = g.G.GroupList.groups c.args.groups.now in
    let cs : List ℕ = c.args.candidates.now in
    let ps : List ℕ = c.loop-at.positions.items in
    let k : ℕ = c.loop-at.at - 1 in
    let i : ℕ = c.in_default.field-0 in
    let next : k + 1 ≡ c.loop-at.at = omega arith in
    let within : k < length gs = omega (arith, c.loop-at.invariant.0) in
    let nowhere = searched cs c.candidate.result (Err i) (subst (IsBinarySearchResult (λ y. nat_cmp y c.candidate.result) cs) c.in_default.is c.binary_search.ensures.position) (not_falling cs c.requires) in
    let positioned = subst (ArePlacedFrom gs cs ps) (sym next) c.loop-at.invariant.1.1 in (
      omega (arith, c.loop-at.invariant.0),
      (c.loop-at.invariant.1.0, placed_nowhere gs cs ps k i within (λ j lt. omega (arith, nowhere.1 j lt, c.candidate.ensures)) (λ j le lt. omega (arith, nowhere.2 j le lt, c.candidate.ensures)) positioned),
    )
