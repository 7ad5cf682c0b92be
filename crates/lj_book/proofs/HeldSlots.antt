-- Maps in slots of few bytes.
use Rattle.std.proofs.Common.{◌≡◌, ap, ◌∙◌, refl, ℕ, suc, zero, ◌<◌, ◌≤◌, arith}
use Rattle.std.specs.Prelude.{List, [], ◌∷◌, ◌++◌, map, Option, Some, None, slice_index_or, slice_set, length}
use Rattle.std.proofs.lemmas.List.{map-append, length-map, map-set}
use Rattle.std.specs.FinMap as fin
use Rattle.lj_book.specs.inner.Slots.{slot_map, held_map}
use Rattle.lj_book.proofs.Slots.{get_slot, slot_within, slot_past, set_slot, empty_slot, push_empty}

-- what stands in a slot, and in none
pub mapped_at : {S V : Type 0} (held : S → Option V) (xs : List S) (k : ℕ) (d : S) (o : Option V) → k < length xs → slice_index_or (map held xs) k o ≡ held (slice_index_or xs k d)
mapped_at held [] k d o h = absurd (grind arith)
mapped_at held (x ∷ xs) zero d o h = refl
mapped_at held (x ∷ xs) (suc k) d o h = mapped_at held xs k d o (grind arith)

pub within : {S V : Type 0} (held : S → Option V) (xs : List S) (k : ℕ) → k < length xs → k < length (map held xs)
within held xs k h = let e = length-map xs held in omega arith

pub get_held : {S V : Type 0} (held : S → Option V) (xs : List S) (k : ℕ) (d : S) → k < length xs → fin.get (held_map held xs) k ≡ held (slice_index_or xs k d)
get_held held xs k d h =
    get_slot (map held xs) k
    ∙ slot_within (map held xs) k None (within held xs k h)
    ∙ mapped_at held xs k d None h

pub get_held_past : {S V : Type 0} (held : S → Option V) (xs : List S) (k : ℕ) → length xs ≤ k → fin.get (held_map held xs) k ≡ None
get_held_past held xs k h = get_slot (map held xs) k ∙ slot_past (map held xs) k (let e = length-map xs held in omega arith)

-- a slot that is set, emptied, or put behind the others
pub held_set : {S V : Type 0} (held : S → Option V) (xs : List S) (k : ℕ) (x : S) (v : V) → k < length xs → held x ≡ Some v → held_map held (slice_set xs k x) ≡ fin.insert (held_map held xs) k v
held_set held xs k x v h e =
    ap slot_map (map-set held xs k x ∙ ap (slice_set (map held xs) k) e)
    ∙ set_slot (map held xs) k v (within held xs k h)

pub held_emptied : {S V : Type 0} (held : S → Option V) (xs : List S) (k : ℕ) (x : S) → k < length xs → held x ≡ None → held_map held (slice_set xs k x) ≡ fin.remove (held_map held xs) k
held_emptied held xs k x h e =
    ap slot_map (map-set held xs k x ∙ ap (slice_set (map held xs) k) e)
    ∙ empty_slot (map held xs) k (within held xs k h)

pub held_pushed : {S V : Type 0} (held : S → Option V) (xs : List S) (x : S) → held x ≡ None → held_map held (xs ++ x ∷ []) ≡ held_map held xs
held_pushed held xs x e =
    ap slot_map (map-append held xs (x ∷ []) ∙ ap (λ o. map held xs ++ o ∷ []) e)
    ∙ push_empty (map held xs)
