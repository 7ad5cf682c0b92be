-- The hints that a closed propagation read make a receipt.
use Rattle.std.proofs.Common.{◌≡◌, ℕ, ap, refl, sym, ◌∙◌, ◌≤◌, length, take, arith, min}
use Rattle.std.specs.Prelude.{List, [], ◌∷◌, map, Some}
use Rattle.std.specs.List.{take-map}
use Rattle.std.proofs.lemmas.List.{length-take, length-map}
use Rattle.lj_clause.specs.LiteralSet.{LiteralSet}
use Rattle.lj_clause.specs.Propagation.{Propagation, Closed, Open, Stuck, Hint, propagate_over}
use Rattle.lj_clause.proofs.PropagationLaws.{propagate_over-used, used-numbers}
use Rattle.lj_hint.specs.declared.pair.Pair.{Pair}
use Rattle.lj_hint.specs.declared.propagate.Ending.TheVariants.{ClosedAfter}
use Rattle.lj_hint.specs.Hints.{named_hints, numbers}
use Rattle.lj_hint.specs.inner.Hints.{hint_numbers}
use Rattle.lj_hint.specs.Ending.{ending_of}

closed_propagation : (w : Propagation) (read : ℕ) → ClosedAfter read ≡ ending_of w → (used : List ℕ) × (w ≡ Closed used) × (length used ≡ read)
closed_propagation (Closed used) read e = let same : length used ≡ read = cc in (used, refl, same)
closed_propagation (Open a) read e = cc
closed_propagation (Stuck position) read e = cc

numbers-named : (ps : List Pair) → map (λ (h : Hint). h.number) (named_hints ps) ≡ numbers ps
numbers-named [] = refl
numbers-named (p ∷ ps) = ap (λ ns. p.joint ∷ ns) (numbers-named ps)

take-named : (k : ℕ) (ps : List Pair) → take k (named_hints ps) ≡ named_hints (take k ps)
take-named k ps = take-map (λ (p : Pair). record { number = p.joint; clause = Some p.clause }) k ps

first_used : (a : LiteralSet) (ps : List Pair) (used : List ℕ) → propagate_over a (named_hints ps) ≡ Closed used → propagate_over a (named_hints (take (length used) ps)) ≡ Closed (numbers (take (length used) ps))
first_used a ps used e =
    ap (propagate_over a) (sym (take-named (length used) ps))
    ∙ propagate_over-used a (named_hints ps) used e
    ∙ ap Closed (sym (used-numbers a (named_hints ps) used e) ∙ ap (map (λ (h : Hint). h.number)) (take-named (length used) ps) ∙ numbers-named (take (length used) ps))

-- the first hints, as many as were read, close the propagation, and it reads each of them
pub closed_by_read : (a : LiteralSet) (ps : List Pair) (read : ℕ) → ClosedAfter read ≡ ending_of (propagate_over a (named_hints ps)) → propagate_over a (named_hints (take read ps)) ≡ Closed (numbers (take read ps))
closed_by_read a ps read e =
    let w = closed_propagation (propagate_over a (named_hints ps)) read e in
    ap (λ k. propagate_over a (named_hints (take k ps))) (sym w.2) ∙ first_used a ps w.0 w.1 ∙ ap (λ k. Closed (numbers (take k ps))) w.2

-- a closed propagation read the first hints, and there are so many
pub closed_reads : (a : LiteralSet) (hs : List Hint) (read : ℕ) → ClosedAfter read ≡ ending_of (propagate_over a hs) → (propagate_over a hs ≡ Closed (hint_numbers (take read hs))) × (read ≤ length hs)
closed_reads a hs read e =
    let w = closed_propagation (propagate_over a hs) read e in
    let numbers = used-numbers a hs w.0 w.1 in
    let count : min (length w.0) (length hs) ≡ length w.0 = sym (length-take (length w.0) hs) ∙ sym (length-map (take (length w.0) hs) (λ (h : Hint). h.number)) ∙ ap length numbers in (
      w.1 ∙ ap Closed (sym numbers ∙ ap (λ (k : ℕ). hint_numbers (take k hs)) w.2),
      (let all = w.2 in omega arith),
    )
