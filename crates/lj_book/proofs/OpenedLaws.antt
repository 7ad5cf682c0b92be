-- The numbers that are held from an opening on, as slots and as a map.
use Rattle.std.proofs.Common.{◌≡◌, ap, refl, sym, ◌∙◌, subst, ℕ, zero, suc, Bool, true, false, arith, ◌+◌, ◌<◌, ◌≤◌}
use Rattle.std.specs.Prelude.{List, [], ◌∷◌, ◌++◌, length, not, Option, Some, None, slice_index_or, slice_set, if◌then◌else◌}
use Rattle.std.specs.FinMap as fin
use Rattle.lj_book.specs.Tables.{up_to}
use Rattle.lj_book.specs.inner.Slots.{slot_map}
use Rattle.lj_book.specs.inner.Opened.{opened_slots}
use Rattle.lj_book.proofs.Slots.{slot, get_slot, slot_past, empty_slot, push_slot, push_empty}

pub opened-length : (n : ℕ) (gone : List Bool) (count : ℕ) → length (opened_slots n gone count) ≡ count
opened-length n gone zero = refl
opened-length n [] (suc count) = ap suc (opened-length (suc n) [] count)
opened-length n (b ∷ bs) (suc count) = ap suc (opened-length (suc n) bs count)

opened-listed : (n : ℕ) (gone : List Bool) (count k : ℕ) (d : Bool) → k < count → k < length gone → slot (opened_slots n gone count) k ≡ (if not (slice_index_or gone k d) then Some (n + k) else None)
opened-listed n gone zero k d h there = absurd (let no : ⊥ = omega (arith, h) in no)
opened-listed n [] (suc count) k d h there = absurd (grind arith)
opened-listed n (true ∷ bs) (suc count) zero d h there = refl
opened-listed n (false ∷ bs) (suc count) zero d h there = let same : n ≡ n + 0 = omega arith in ap (λ (m : ℕ). Some m) same
opened-listed n (b ∷ bs) (suc count) (suc k) d h there =
    let same : suc n + k ≡ n + suc k = omega arith in
    opened-listed (suc n) bs count k d (grind arith) (grind arith) ∙ ap (λ (m : ℕ). if not (slice_index_or bs k d) then Some m else None) same

opened-behind : (n : ℕ) (gone : List Bool) (count k : ℕ) → k < count → length gone ≤ k → slot (opened_slots n gone count) k ≡ Some (n + k)
opened-behind n gone zero k h past = absurd (let no : ⊥ = omega (arith, h) in no)
opened-behind n [] (suc count) zero h past = let same : n ≡ n + 0 = omega arith in ap (λ (m : ℕ). Some m) same
opened-behind n [] (suc count) (suc k) h past =
    let same : suc n + k ≡ n + suc k = omega arith in
    opened-behind (suc n) [] count k (grind arith) (grind arith) ∙ ap (λ (m : ℕ). Some m) same
opened-behind n (b ∷ bs) (suc count) zero h past = absurd (grind arith)
opened-behind n (b ∷ bs) (suc count) (suc k) h past =
    let same : suc n + k ≡ n + suc k = omega arith in
    opened-behind (suc n) bs count k (grind arith) (grind arith) ∙ ap (λ (m : ℕ). Some m) same

-- a number that the list tells of, one behind it, and one beyond all
pub get_listed : (gone : List Bool) (count k : ℕ) (d : Bool) → k < count → k < length gone → fin.get (slot_map (opened_slots 0 gone count)) k ≡ (if not (slice_index_or gone k d) then Some k else None)
get_listed gone count k d h there =
    let same : 0 + k ≡ k = omega arith in
    get_slot (opened_slots 0 gone count) k ∙ opened-listed 0 gone count k d h there ∙ ap (λ (m : ℕ). if not (slice_index_or gone k d) then Some m else None) same

pub get_behind : (gone : List Bool) (count k : ℕ) → k < count → length gone ≤ k → fin.get (slot_map (opened_slots 0 gone count)) k ≡ Some k
get_behind gone count k h past =
    let same : 0 + k ≡ k = omega arith in
    get_slot (opened_slots 0 gone count) k ∙ opened-behind 0 gone count k h past ∙ ap (λ (m : ℕ). Some m) same

pub get_beyond : (gone : List Bool) (count k : ℕ) → count ≤ k → fin.get (slot_map (opened_slots 0 gone count)) k ≡ None
get_beyond gone count k h = get_slot (opened_slots 0 gone count) k ∙ slot_past (opened_slots 0 gone count) k (subst (λ (n : ℕ). n ≤ k) (sym (opened-length 0 gone count)) h)

-- a number more that isn't given up says what was so before
pub push_none : (n : ℕ) (gone : List Bool) (count : ℕ) → opened_slots n (gone ++ false ∷ []) count ≡ opened_slots n gone count
push_none n gone zero = refl
push_none n [] (suc count) = refl
push_none n (b ∷ bs) (suc count) = ap (λ (xs : List (Option ℕ)). (if b then None else Some n) ∷ xs) (push_none (suc n) bs count)

opened-set : (n : ℕ) (gone : List Bool) (count k : ℕ) → k < length gone → opened_slots n (slice_set gone k true) count ≡ slice_set (opened_slots n gone count) k None
opened-set n gone zero k there = refl
opened-set n [] (suc count) k there = absurd (grind arith)
opened-set n (b ∷ bs) (suc count) zero there = refl
opened-set n (b ∷ bs) (suc count) (suc k) there = ap (λ (xs : List (Option ℕ)). (if b then None else Some n) ∷ xs) (opened-set (suc n) bs count k (grind arith))

-- a number that is given up
pub give_up : (gone : List Bool) (count k : ℕ) → k < count → k < length gone → slot_map (opened_slots 0 (slice_set gone k true) count) ≡ fin.remove (slot_map (opened_slots 0 gone count)) k
give_up gone count k h there =
    ap slot_map (opened-set 0 gone count k there)
    ∙ empty_slot (opened_slots 0 gone count) k (subst (λ (n : ℕ). k < n) (sym (opened-length 0 gone count)) h)

opened-more : (n : ℕ) (gone : List Bool) (count : ℕ) → length gone ≤ count → opened_slots n gone (suc count) ≡ opened_slots n gone count ++ Some (n + count) ∷ []
opened-more n [] zero h = let same : n ≡ n + 0 = omega arith in ap (λ (m : ℕ). Some m ∷ []) same
opened-more n (b ∷ bs) zero h = absurd (grind arith)
opened-more n [] (suc count) h =
    let same : suc n + count ≡ n + suc count = omega arith in
    ap (λ (xs : List (Option ℕ)). Some n ∷ xs)
    (opened-more (suc n) [] count (grind arith) ∙ ap (λ (m : ℕ). opened_slots (suc n) [] count ++ Some m ∷ []) same)
opened-more n (b ∷ bs) (suc count) h =
    let same : suc n + count ≡ n + suc count = omega arith in
    ap (λ (xs : List (Option ℕ)). (if b then None else Some n) ∷ xs)
    (opened-more (suc n) bs count (grind arith) ∙ ap (λ (m : ℕ). opened_slots (suc n) bs count ++ Some m ∷ []) same)

-- at the opening, where the number 0 alone is given up
pub opened_up_to : (last : ℕ) → slot_map (opened_slots 0 (true ∷ []) (suc last)) ≡ up_to last
opened_up_to zero = push_empty []
opened_up_to (suc last) =
    let same : 0 + suc last ≡ suc last = omega arith in
    ap slot_map (opened-more 0 (true ∷ []) (suc last) (grind arith) ∙ ap (λ (m : ℕ). opened_slots 0 (true ∷ []) (suc last) ++ Some m ∷ []) same)
    ∙ push_slot (opened_slots 0 (true ∷ []) (suc last)) (suc last) (suc last) (sym (opened-length 0 (true ∷ []) (suc last)))
    ∙ ap (λ m. fin.insert m (suc last) (suc last)) (opened_up_to last)
