-- A propagation goes by the clauses that its hints name, and not by their numbers.
use Rattle.std.proofs.Common.{◌≡◌, ℕ, ap, refl, sym, ◌∙◌}
use Rattle.std.specs.Prelude.{ℤ, Bool, true, false, cond, List, [], ◌∷◌, map, Option, Some, None}
use Rattle.std.proofs.lemmas.List.{length-map}
use Rattle.lj_clause.specs.LiteralSet.{LiteralSet, with_literal}
use Rattle.lj_clause.specs.Propagation.{Propagation, Closed, Open, Stuck, Hint, rest, is_contradictory, after_hint, by_rest, by_hint, propagate_over}
use Rattle.lj_hint.specs.declared.propagate.Ending.TheVariants.{ClosedAfter}
use Rattle.lj_hint.specs.Ending.{ending_of}
use Rattle.lj_hint.specs.Laws.{HaveSameClauses, PropagationsGoByClauses, OpenPropagationsGoByClauses}

-- the propagation with 0 for each number
abbrev unnamed : Propagation → Propagation
unnamed (Closed used) = Closed (map (λ _. 0) used)
unnamed (Open a) = Open a
unnamed (Stuck position) = Stuck position

-- the hints that name these clauses, all under 0
abbrev nameless : List (Option LiteralSet) → List Hint
nameless cs = map (λ c. record { number = 0; clause = c }) cs

unnamed-after : (n : ℕ) (w : Propagation) → unnamed (after_hint n w) ≡ after_hint 0 (unnamed w)
unnamed-after n (Closed used) = refl
unnamed-after n (Open a) = refl
unnamed-after n (Stuck position) = refl

unnamed-rest : (n : ℕ) (ls : List ℤ) (onward plain : ℤ → Propagation) → ((l : ℤ) → unnamed (onward l) ≡ plain l) → unnamed (by_rest n ls onward) ≡ by_rest 0 ls plain
unnamed-rest n [] onward plain same = refl
unnamed-rest n (l ∷ []) onward plain same = unnamed-after n (onward l) ∙ ap (after_hint 0) (same l)
unnamed-rest n (l ∷ m ∷ ls) onward plain same = refl

unnamed-hint : (n : ℕ) (d : Option LiteralSet) (a : LiteralSet) (onward plain : ℤ → Propagation) → ((l : ℤ) → unnamed (onward l) ≡ plain l) → unnamed (by_hint n d a onward) ≡ by_hint 0 d a plain
unnamed-hint n None a onward plain same = refl
unnamed-hint n (Some d) a onward plain same = unnamed-rest n (rest d a) onward plain same

unnamed-cond : (b : Bool) (w v : Propagation) → unnamed w ≡ v → unnamed (cond b (Closed []) w) ≡ cond b (Closed []) v
unnamed-cond true w v e = refl
unnamed-cond false w v e = e

unnamed-propagate : (a : LiteralSet) (hs : List Hint) → unnamed (propagate_over a hs) ≡ propagate_over a (nameless (map (λ (h : Hint). h.clause) hs))
unfolding propagate_over
unnamed-propagate a [] = unnamed-cond (is_contradictory a) (Open a) (Open a) refl
unnamed-propagate a (h ∷ hs) =
    let onward : ℤ → Propagation = λ l. propagate_over (with_literal a l) hs in
    let plain : ℤ → Propagation = λ l. propagate_over (with_literal a l) (nameless (map (λ (g : Hint). g.clause) hs)) in
    unnamed-cond (is_contradictory a) (by_hint h.number h.clause a onward) (by_hint 0 h.clause a plain)
    (unnamed-hint h.number h.clause a onward plain (λ l. unnamed-propagate (with_literal a l) hs))

unnamed-same : (a : LiteralSet) (hs gs : List Hint) → HaveSameClauses hs gs → unnamed (propagate_over a hs) ≡ unnamed (propagate_over a gs)
unnamed-same a hs gs same =
    unnamed-propagate a hs ∙ ap (λ (cs : List (Option LiteralSet)). propagate_over a (nameless cs)) same ∙ sym (unnamed-propagate a gs)

ending-unnamed : (w : Propagation) → ending_of (unnamed w) ≡ ending_of w
ending-unnamed (Closed used) = ap ClosedAfter (length-map used (λ (n : ℕ). 0))
ending-unnamed (Open a) = refl
ending-unnamed (Stuck position) = refl

pub propagations_by_clauses : PropagationsGoByClauses
propagations_by_clauses a hs gs same =
    sym (ending-unnamed (propagate_over a hs)) ∙ ap ending_of (unnamed-same a hs gs same) ∙ ending-unnamed (propagate_over a gs)

open-unnamed : (w : Propagation) (b : LiteralSet) → unnamed w ≡ Open b → w ≡ Open b
open-unnamed (Closed used) b e = cc
open-unnamed (Open a) b e = e
open-unnamed (Stuck position) b e = cc

pub open_by_clauses : OpenPropagationsGoByClauses
open_by_clauses a b hs gs same opens =
    open-unnamed (propagate_over a gs) b (sym (unnamed-same a hs gs same) ∙ ap unnamed opens)
