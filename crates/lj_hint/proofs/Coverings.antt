-- Groups that cover candidates as they are given.
use Rattle.std.proofs.Common.{◌≡◌, ap, refl, sym, ◌∙◌, ℕ, ◌+◌, ◌<◌, arith, add-one, get_or, length, take}
use Rattle.std.proofs.lemmas.List.{take_more, take_all, take_min, get_or-map, length-map}
use Rattle.std.proofs.lemmas.Bool.{false≢true}
use Rattle.std.specs.Prelude.{false, is_some, min, List, [], ◌∷◌, ◌++◌, Option, None, Some, option_map}
use Rattle.lj_clause.specs.ClauseMap.{ClauseMap}
use Rattle.lj_clause.specs.Propagation.{Hint, hints_in}
use Rattle.lj_clause.specs.Rat.{HintGroup, NamedGroup, groups_in}
use Rattle.lj_hint.specs.inner.Hints.{hint_numbers}
use Rattle.lj_hint.specs.inner.Groups.{no_group, group_in, group_at, before, lent_hints, read_group}
use Rattle.lj_hint.specs.inner.Coverings.{plain_group, plain_groups, covered_before}
use Rattle.lj_hint.proofs.RatTests.{there}

-- the group at an index, without its clauses
plain_at : (gs : List NamedGroup) (k : ℕ) → k < length gs → get_or (plain_groups gs) k (plain_group no_group) ≡ plain_group (group_in gs k)
plain_at gs k lt = get_or-map plain_group gs k no_group (plain_group no_group) lt

-- the next group with all its hints
pub next_read : (gs : List NamedGroup) (k n read : ℕ) (hs : List Hint) → k < length gs → n ≡ (group_in gs k).candidate → hs ≡ (group_in gs k).hints → read ≡ length hs
    → take (k + 1) (plain_groups gs) ≡ take k (plain_groups gs) ++ read_group n hs read ∷ []
next_read gs k n read hs lt is are all =
    let made : ℕ → List Hint → HintGroup = λ m ms. record { candidate = m; hints = hint_numbers ms } in
    let whole : take read hs ≡ hs = take_all read hs (omega (arith, all)) in
    take_more (plain_groups gs) k (plain_group no_group) (omega (arith, lt, length-map gs plain_group))
    ∙ ap (λ (g : HintGroup). take k (plain_groups gs) ++ g ∷ [])
    (plain_at gs k lt ∙ (λ i. made (sym is i) (sym (whole ∙ are) i)))

-- the next group, where it is that of the next candidate and all its hints were read
pub given_next : (gs : List NamedGroup) (k n read position : ℕ) → k < length gs → position ≡ k + 1 → n ≡ (group_in gs k).candidate → read ≡ length (group_in gs k).hints
    → take (k + 1) (plain_groups gs) ≡ take k (plain_groups gs) ++ read_group n (lent_hints (group_at gs (before position))) read ∷ []
given_next gs k n read position lt at is all =
    let found : lent_hints (group_at gs (before position)) ≡ (group_in gs k).hints =
    ap (λ (m : ℕ). lent_hints (group_at gs (before m))) (at ∙ add-one k) ∙ ap (λ (o : Option NamedGroup). lent_hints (option_map (λ h. h.hints) o)) (there gs k lt) in
    next_read gs k n read (lent_hints (group_at gs (before position))) lt is found (all ∙ ap length (sym found))

-- and where those before it stand as they are given, so do they with it
pub stays_given : (gs : List NamedGroup) (k n read position : ℕ) (apart : Option (List HintGroup)) → is_some apart ≡ false → k < length gs → position ≡ k + 1 → n ≡ (group_in gs k).candidate → read ≡ length (group_in gs k).hints
    → covered_before gs (k + 1) apart ≡ covered_before gs k apart ++ read_group n (lent_hints (group_at gs (before position))) read ∷ []
stays_given gs k n read position None none lt at is all = given_next gs k n read position lt at is all
stays_given gs k n read position (Some covered) none lt at is all = absurd (false≢true (sym none))

-- the numbers of hints that are given by their numbers
given_hints : (p : ClauseMap) (ns : List ℕ) → hint_numbers (hints_in p ns) ≡ ns
given_hints p [] = refl
given_hints p (n ∷ ns) = ap (λ (ms : List ℕ). n ∷ ms) (given_hints p ns)

-- and groups that are
pub given_groups : (p : ClauseMap) (gs : List HintGroup) → plain_groups (groups_in p gs) ≡ gs
given_groups p [] = refl
given_groups p (g ∷ gs) =
    let made : List ℕ → HintGroup = λ ns. record { candidate = g.candidate; hints = ns } in
    λ i. made (given_hints p g.hints i) ∷ given_groups p gs i
