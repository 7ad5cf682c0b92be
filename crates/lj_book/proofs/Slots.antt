-- Maps in slots, and two maps in one.
use Rattle.std.proofs.Common.{inl, inr, ◌≡◌, ap, refl, sym, ◌∙◌, ℕ, Bool, cond, arith, suc, zero, ◌+◌, ◌<◌, ◌≤◌, true, false, ◌==◌}
use Rattle.std.specs.Prelude.{◌⊎◌, ◌||◌, is_some, Result, Ok, Err, OnOk, OnErr, IfOk, List, [], ◌∷◌, ◌++◌, map, filter, drop, Option, Some, None, slice_index_or, slice_set, length}
use Rattle.std.specs.Option.{option_or}
use Rattle.std.proofs.lemmas.List.{length-append}
use Rattle.std.specs.Ordering.{nat_cmp, eq_by_cmp}
use Rattle.std.specs.Cmp.{nat_cmp_total, eq_by_cmp_equiv}
use Rattle.std.specs.FinMap as fin
use Rattle.std.specs.FinMap.Entries.{find}
use Rattle.std.specs.List.{AllByRecursion}
use Rattle.std.specs.List.Sorted.{IsStrictlySortedBy}
use Rattle.std.specs.declared.cmp.Ordering.TheVariants.{Less}
use Rattle.lj_book.specs.inner.Slots.{slot_entries, slot_map, slot_numbers, joined_map, AreDisjoint}
use Rattle.lj_book.proofs.Scans.{numbers_in, entries_are}
use Rattle.lj_book.specs.Tables.{is_among}
use Rattle.lj_book.proofs.NumberMaps.{same_map}
use Rattle.lj_book.proofs.HistoryLaws.{among-keys}
use Rattle.lj_book.proofs.DropLaws.{same_rising, Rises-sorted, Rises-keys}

-- what stands in a slot
abbrev pub slot : {V : Type 0} → List (Option V) → ℕ → Option V
slot [] k = None
slot (x ∷ xs) zero = x
slot (x ∷ xs) (suc k) = slot xs k

differ : (q n : ℕ) → q < n → eq_by_cmp nat_cmp q n ≡ false
differ q n h = grind arith

alike : (n : ℕ) → eq_by_cmp nat_cmp n n ≡ true
alike n = grind arith

past : {V : Type 0} (xs : List (Option V)) (n q : ℕ) → q < n → find nat_cmp q (slot_entries n xs) ≡ None
past [] n q h = refl
past (None ∷ xs) n q h = past xs (suc n) q (grind arith)
past (Some v ∷ xs) n q h = ap (λ b. cond b (Some v) (find nat_cmp q (slot_entries (suc n) xs))) (differ q n h) ∙ past xs (suc n) q (grind arith)

find_slot : {V : Type 0} (xs : List (Option V)) (n k q : ℕ) → q ≡ n + k → find nat_cmp q (slot_entries n xs) ≡ slot xs k
find_slot [] n k q e = refl
find_slot (None ∷ xs) n zero q e = past xs (suc n) q (grind arith)
find_slot (None ∷ xs) n (suc k) q e = find_slot xs (suc n) k q (grind arith)
find_slot (Some v ∷ xs) n zero q e = ap (λ b. cond b (Some v) (find nat_cmp q (slot_entries (suc n) xs))) (ap (λ m. eq_by_cmp nat_cmp m n) (grind arith) ∙ alike n)
find_slot (Some v ∷ xs) n (suc k) q e = ap (λ b. cond b (Some v) (find nat_cmp q (slot_entries (suc n) xs))) (flip (differ n q (grind arith))) ∙ find_slot xs (suc n) k q (grind arith)
  where
    flip : eq_by_cmp nat_cmp n q ≡ false → eq_by_cmp nat_cmp q n ≡ false
    flip h = (eq_by_cmp_equiv nat_cmp_total).symm q n ∙ h

-- what the map that slots make has at a number
pub get_slot : {V : Type 0} (xs : List (Option V)) (q : ℕ) → fin.get (slot_map xs) q ≡ slot xs q
get_slot xs q = fin.get-from_entries nat_cmp_total (slot_entries 0 xs) q ∙ find_slot xs 0 q q (grind arith)

by_first : {V : Type 0} (b : Bool) (v : V) (both one other : Option V) → both ≡ option_or one other → cond b (Some v) both ≡ option_or (cond b (Some v) one) other
by_first true v both one other h = refl
by_first false v both one other h = h

find_joined : {V : Type 0} (es fs : List (ℕ × V)) (q : ℕ) → find nat_cmp q (es ++ fs) ≡ option_or (find nat_cmp q es) (find nat_cmp q fs)
find_joined [] fs q = refl
find_joined (e ∷ es) fs q = by_first (eq_by_cmp nat_cmp q e.0) e.1 _ _ _ (find_joined es fs q)

-- what two maps in one have at a number
pub get_joined : {V : Type 0} (dense sparse : fin.FinMap nat_cmp V) (q : ℕ) → fin.get (joined_map dense sparse) q ≡ option_or (fin.get dense q) (fin.get sparse q)
get_joined dense sparse q =
    fin.get-from_entries nat_cmp_total (fin.entries dense ++ fin.entries sparse) q
    ∙ find_joined (fin.entries dense) (fin.entries sparse) q
    ∙ ap (λ o. option_or o (find nat_cmp q (fin.entries sparse))) (sym (fin.get-entries dense q))
    ∙ ap (option_or (fin.get dense q)) (sym (fin.get-entries sparse q))

pub slot_within : {V : Type 0} (xs : List (Option V)) (k : ℕ) (d : Option V) → k < length xs → slot xs k ≡ slice_index_or xs k d
slot_within [] k d h = refl_of (grind arith)
  where
    refl_of : ⊥ → slot [] k ≡ slice_index_or [] k d
    refl_of e = absurd e
slot_within (x ∷ xs) zero d h = refl
slot_within (x ∷ xs) (suc k) d h = slot_within xs k d (grind arith)

pub slot_past : {V : Type 0} (xs : List (Option V)) (k : ℕ) → length xs ≤ k → slot xs k ≡ None
slot_past [] k h = refl
slot_past (x ∷ xs) zero h = absurd (grind arith)
slot_past (x ∷ xs) (suc k) h = slot_past xs k (grind arith)

slot_same : {V : Type 0} (xs : List (Option V)) (k : ℕ) (x : Option V) → k < length xs → slot (slice_set xs k x) k ≡ x
slot_same [] k x h = absurd (grind arith)
slot_same (y ∷ xs) zero x h = refl
slot_same (y ∷ xs) (suc k) x h = slot_same xs k x (grind arith)

slot_other : {V : Type 0} (xs : List (Option V)) (k : ℕ) (x : Option V) (q : ℕ) → (q == k) ≡ false → slot (slice_set xs k x) q ≡ slot xs q
slot_other [] zero x q e = refl
slot_other [] (suc k) x q e = refl
slot_other (y ∷ xs) zero x zero e = absurd (grind arith)
slot_other (y ∷ xs) zero x (suc q) e = refl
slot_other (y ∷ xs) (suc k) x zero e = refl
slot_other (y ∷ xs) (suc k) x (suc q) e = slot_other xs k x q (grind arith)

to_equal : (q k : ℕ) → (q == k) ≡ true → q ≡ k
to_equal q k e = grind arith

slot_set : {V : Type 0} (xs : List (Option V)) (k : ℕ) (x : Option V) (q : ℕ) → k < length xs → slot (slice_set xs k x) q ≡ cond (q == k) x (slot xs q)
slot_set xs k x q h = by (q == k) refl
  where
    by : (b : Bool) → (q == k) ≡ b → slot (slice_set xs k x) q ≡ cond (q == k) x (slot xs q)
    by true e = ap (slot (slice_set xs k x)) (to_equal q k e) ∙ slot_same xs k x h ∙ ap (λ b. cond b x (slot xs q)) (sym e)
    by false e = slot_other xs k x q e ∙ ap (λ b. cond b x (slot xs q)) (sym e)

slot_push : {V : Type 0} (xs : List (Option V)) (q : ℕ) → slot (xs ++ None ∷ []) q ≡ slot xs q
slot_push [] zero = refl
slot_push [] (suc q) = refl
slot_push (x ∷ xs) zero = refl
slot_push (x ∷ xs) (suc q) = slot_push xs q

same_number : (q k : ℕ) → eq_by_cmp nat_cmp q k ≡ (q == k)
same_number q k = grind arith

-- a slot that is set
pub set_slot : {V : Type 0} (xs : List (Option V)) (k : ℕ) (v : V) → k < length xs → slot_map (slice_set xs k (Some v)) ≡ fin.insert (slot_map xs) k v
set_slot xs k v h = same_map _ _ (λ q.
    get_slot (slice_set xs k (Some v)) q ∙ slot_set xs k (Some v) q h
    ∙ sym (fin.get-insert nat_cmp_total (slot_map xs) k v q ∙ ap (λ b. cond b (Some v) (fin.get (slot_map xs) q)) (same_number q k) ∙ ap (cond (q == k) (Some v)) (get_slot xs q)))

-- a slot that is emptied
pub empty_slot : {V : Type 0} (xs : List (Option V)) (k : ℕ) → k < length xs → slot_map (slice_set xs k None) ≡ fin.remove (slot_map xs) k
empty_slot xs k h = same_map _ _ (λ q.
    get_slot (slice_set xs k None) q ∙ slot_set xs k None q h
    ∙ sym (fin.get-remove nat_cmp_total (slot_map xs) k q ∙ ap (λ b. cond b None (fin.get (slot_map xs) q)) (same_number q k) ∙ ap (cond (q == k) None) (get_slot xs q)))

-- a number that isn't in a map is taken out of it already
pub remove_absent : {V : Type 0} (m : fin.FinMap nat_cmp V) (k : ℕ) → fin.get m k ≡ None → fin.remove m k ≡ m
remove_absent m k h = same_map _ _ (λ q. fin.get-remove nat_cmp_total m k q ∙ ap (λ b. cond b None (fin.get m q)) (same_number q k) ∙ by q (q == k) refl)
  where
    by : (q : ℕ) (b : Bool) → (q == k) ≡ b → cond (q == k) None (fin.get m q) ≡ fin.get m q
    by q true e = ap (λ b. cond b None (fin.get m q)) e ∙ sym (ap (fin.get m) (to_equal q k e) ∙ h)
    by q false e = ap (λ b. cond b None (fin.get m q)) e

not_none : (n : ℕ) → (suc n == zero) ≡ false
not_none n = grind arith

none_not : (n : ℕ) → (zero == suc n) ≡ false
none_not n = grind arith

both_more : (q n : ℕ) → (suc q == suc n) ≡ (q == n)
both_more q n = grind arith

slot_behind : {V : Type 0} (xs : List (Option V)) (x : Option V) (q : ℕ) → slot (xs ++ x ∷ []) q ≡ cond (q == length xs) x (slot xs q)
slot_behind [] x zero = refl
slot_behind [] x (suc q) = sym (ap (λ b. cond b x None) (not_none q))
slot_behind (y ∷ xs) x zero = sym (ap (λ b. cond b x y) (none_not (length xs)))
slot_behind (y ∷ xs) x (suc q) = slot_behind xs x q ∙ sym (ap (λ b. cond b x (slot xs q)) (both_more q (length xs)))

-- a slot that is put behind the others
pub push_slot : {V : Type 0} (xs : List (Option V)) (k : ℕ) (v : V) → k ≡ length xs → slot_map (xs ++ Some v ∷ []) ≡ fin.insert (slot_map xs) k v
push_slot xs k v e = same_map _ _ (λ q.
    get_slot (xs ++ Some v ∷ []) q ∙ slot_behind xs (Some v) q ∙ ap (λ n. cond (q == n) (Some v) (slot xs q)) (sym e)
    ∙ sym (fin.get-insert nat_cmp_total (slot_map xs) k v q ∙ ap (λ b. cond b (Some v) (fin.get (slot_map xs) q)) (same_number q k) ∙ ap (cond (q == k) (Some v)) (get_slot xs q)))

pub push_empty : {V : Type 0} (xs : List (Option V)) → slot_map (xs ++ None ∷ []) ≡ slot_map xs
push_empty xs = same_map _ _ (λ q. get_slot (xs ++ None ∷ []) q ∙ slot_push xs q ∙ sym (get_slot xs q))

pub length_push : {V : Type 0} (xs : List (Option V)) → length (xs ++ None ∷ []) ≡ length xs + 1
length_push xs = length-append xs (None ∷ [])

pub on_err : {T E : Type 0} (r : Result T E) (P : Type 0) → P → OnErr r P
on_err (Ok x) P h = tt
on_err (Err e) P h = h

-- ---- two maps in one

abbrev Numbered : Type 0 → Type 0
Numbered V = fin.FinMap nat_cmp V

or_none : {V : Type 0} (o p : Option V) → o ≡ None → option_or o p ≡ p
or_none o p h = ap (λ x. option_or x p) h

pub joined_dense : {V : Type 0} (dense sparse : Numbered V) (k : ℕ) (v : V) → fin.get dense k ≡ Some v → fin.get (joined_map dense sparse) k ≡ Some v
joined_dense dense sparse k v h = get_joined dense sparse k ∙ ap (λ x. option_or x (fin.get sparse k)) h

pub joined_sparse : {V : Type 0} (dense sparse : Numbered V) (k : ℕ) → fin.get dense k ≡ None → fin.get (joined_map dense sparse) k ≡ fin.get sparse k
joined_sparse dense sparse k h = get_joined dense sparse k ∙ or_none _ _ h

-- where the second map has nothing
pub joined_alone : {V : Type 0} (dense sparse : Numbered V) (k : ℕ) → fin.get sparse k ≡ None → fin.get (joined_map dense sparse) k ≡ fin.get dense k
joined_alone dense sparse k h = get_joined dense sparse k ∙ ap (option_or (fin.get dense k)) h ∙ alone (fin.get dense k)
  where
    alone : {V : Type 0} (o : Option V) → option_or o None ≡ o
    alone (Some v) = refl
    alone None = refl

pub joined_empty : {V : Type 0} → joined_map (fin.empty {X = V}) fin.empty ≡ fin.empty
joined_empty {V} = same_map (joined_map (fin.empty {X = V}) fin.empty) fin.empty (λ q. get_joined fin.empty fin.empty q ∙ or_none (fin.get fin.empty q) (fin.get fin.empty q) (fin.get-empty nat_cmp q))

pub joined_none : {V : Type 0} (dense : Numbered V) → joined_map dense fin.empty ≡ dense
joined_none dense = same_map (joined_map dense fin.empty) dense (λ q. joined_alone dense fin.empty q (fin.get-empty nat_cmp q))

put_first : {V : Type 0} (b : Bool) (v : V) (o p : Option V) → option_or (cond b (Some v) o) p ≡ cond b (Some v) (option_or o p)
put_first true v o p = refl
put_first false v o p = refl

pub insert_dense : {V : Type 0} (dense sparse : Numbered V) (k : ℕ) (v : V) → joined_map (fin.insert dense k v) sparse ≡ fin.insert (joined_map dense sparse) k v
insert_dense dense sparse k v = same_map _ _ (λ q.
    get_joined (fin.insert dense k v) sparse q
    ∙ ap (λ o. option_or o (fin.get sparse q)) (fin.get-insert nat_cmp_total dense k v q)
    ∙ put_first (eq_by_cmp nat_cmp q k) v (fin.get dense q) (fin.get sparse q)
    ∙ ap (cond (eq_by_cmp nat_cmp q k) (Some v)) (sym (get_joined dense sparse q))
    ∙ sym (fin.get-insert nat_cmp_total (joined_map dense sparse) k v q))

put_last : {V : Type 0} (b : Bool) (v : V) (o p : Option V) → (b ≡ true → o ≡ None) → option_or o (cond b (Some v) p) ≡ cond b (Some v) (option_or o p)
put_last true v o p h = or_none o (Some v) (h refl)
put_last false v o p h = refl

absent_at : {V : Type 0} (m : Numbered V) (k q : ℕ) → fin.get m k ≡ None → eq_by_cmp nat_cmp q k ≡ true → fin.get m q ≡ None
absent_at m k q h e = ap (fin.get m) (to_equal q k (sym (same_number q k) ∙ e)) ∙ h

pub insert_sparse : {V : Type 0} (dense sparse : Numbered V) (k : ℕ) (v : V) → fin.get dense k ≡ None → joined_map dense (fin.insert sparse k v) ≡ fin.insert (joined_map dense sparse) k v
insert_sparse dense sparse k v h = same_map _ _ (λ q.
    get_joined dense (fin.insert sparse k v) q
    ∙ ap (option_or (fin.get dense q)) (fin.get-insert nat_cmp_total sparse k v q)
    ∙ put_last (eq_by_cmp nat_cmp q k) v (fin.get dense q) (fin.get sparse q) (absent_at dense k q h)
    ∙ ap (cond (eq_by_cmp nat_cmp q k) (Some v)) (sym (get_joined dense sparse q))
    ∙ sym (fin.get-insert nat_cmp_total (joined_map dense sparse) k v q))

cut_first : {V : Type 0} (b : Bool) (o p : Option V) → (b ≡ true → p ≡ None) → option_or (cond b None o) p ≡ cond b None (option_or o p)
cut_first true o p h = h refl
cut_first false o p h = refl

cut_last : {V : Type 0} (b : Bool) (o p : Option V) → (b ≡ true → o ≡ None) → option_or o (cond b None p) ≡ cond b None (option_or o p)
cut_last true o p h = or_none o None (h refl)
cut_last false o p h = refl

pub remove_dense : {V : Type 0} (dense sparse : Numbered V) (k : ℕ) → fin.get sparse k ≡ None → joined_map (fin.remove dense k) sparse ≡ fin.remove (joined_map dense sparse) k
remove_dense dense sparse k h = same_map _ _ (λ q.
    get_joined (fin.remove dense k) sparse q
    ∙ ap (λ o. option_or o (fin.get sparse q)) (fin.get-remove nat_cmp_total dense k q)
    ∙ cut_first (eq_by_cmp nat_cmp q k) (fin.get dense q) (fin.get sparse q) (absent_at sparse k q h)
    ∙ ap (cond (eq_by_cmp nat_cmp q k) None) (sym (get_joined dense sparse q))
    ∙ sym (fin.get-remove nat_cmp_total (joined_map dense sparse) k q))

pub remove_sparse : {V : Type 0} (dense sparse : Numbered V) (k : ℕ) → fin.get dense k ≡ None → joined_map dense (fin.remove sparse k) ≡ fin.remove (joined_map dense sparse) k
remove_sparse dense sparse k h = same_map _ _ (λ q.
    get_joined dense (fin.remove sparse k) q
    ∙ ap (option_or (fin.get dense q)) (fin.get-remove nat_cmp_total sparse k q)
    ∙ cut_last (eq_by_cmp nat_cmp q k) (fin.get dense q) (fin.get sparse q) (absent_at dense k q h)
    ∙ ap (cond (eq_by_cmp nat_cmp q k) None) (sym (get_joined dense sparse q))
    ∙ sym (fin.get-remove nat_cmp_total (joined_map dense sparse) k q))

pub remove_both : {V : Type 0} (dense sparse : Numbered V) (k : ℕ) → joined_map (fin.remove dense k) (fin.remove sparse k) ≡ fin.remove (joined_map dense sparse) k
remove_both dense sparse k = same_map _ _ (λ q.
    get_joined (fin.remove dense k) (fin.remove sparse k) q
    ∙ ap (λ o. option_or o (fin.get (fin.remove sparse k) q)) (fin.get-remove nat_cmp_total dense k q)
    ∙ ap (option_or (cond (eq_by_cmp nat_cmp q k) None (fin.get dense q))) (fin.get-remove nat_cmp_total sparse k q)
    ∙ cut_both (eq_by_cmp nat_cmp q k) (fin.get dense q) (fin.get sparse q)
    ∙ ap (cond (eq_by_cmp nat_cmp q k) None) (sym (get_joined dense sparse q))
    ∙ sym (fin.get-remove nat_cmp_total (joined_map dense sparse) k q))
  where
    cut_both : {V : Type 0} (b : Bool) (o p : Option V) → option_or (cond b None o) (cond b None p) ≡ cond b None (option_or o p)
    cut_both true o p = refl
    cut_both false o p = refl

-- what is set in the second map is taken out of the first
pub insert_beside : {V : Type 0} (dense sparse : Numbered V) (k : ℕ) (v : V) → joined_map (fin.remove dense k) (fin.insert sparse k v) ≡ fin.insert (joined_map dense sparse) k v
insert_beside dense sparse k v = same_map _ _ (λ q.
    get_joined (fin.remove dense k) (fin.insert sparse k v) q
    ∙ ap (λ o. option_or o (fin.get (fin.insert sparse k v) q)) (fin.get-remove nat_cmp_total dense k q)
    ∙ ap (option_or (cond (eq_by_cmp nat_cmp q k) None (fin.get dense q))) (fin.get-insert nat_cmp_total sparse k v q)
    ∙ put_beside (eq_by_cmp nat_cmp q k) v (fin.get dense q) (fin.get sparse q)
    ∙ ap (cond (eq_by_cmp nat_cmp q k) (Some v)) (sym (get_joined dense sparse q))
    ∙ sym (fin.get-insert nat_cmp_total (joined_map dense sparse) k v q))
  where
    put_beside : {V : Type 0} (b : Bool) (v : V) (o p : Option V) → option_or (cond b None o) (cond b (Some v) p) ≡ cond b (Some v) (option_or o p)
    put_beside true v o p = refl
    put_beside false v o p = refl

not_some : {V : Type 0} (o : Option V) → o ≡ None → is_some o ≡ true → ⊥
not_some o h e = distinct (ap is_some (sym h) ∙ e)
  where
    distinct : false ≡ true → ⊥
    distinct f = grind arith

-- ---- no number is in both

some_at : {V : Type 0} (b : Bool) (v : V) (o : Option V) → is_some (cond b (Some v) o) ≡ true → (b ≡ true) ⊎ (is_some o ≡ true)
some_at true v o h = inl refl
some_at false v o h = inr h

pub apart-empty : {V : Type 0} → AreDisjoint (fin.empty {X = V}) fin.empty
apart-empty q h = fin.get-empty nat_cmp q

pub apart-insert_dense : {V : Type 0} (dense sparse : Numbered V) (k : ℕ) (v : V) → AreDisjoint dense sparse → fin.get sparse k ≡ None → AreDisjoint (fin.insert dense k v) sparse
apart-insert_dense dense sparse k v apart h q e = by (some_at (eq_by_cmp nat_cmp q k) v (fin.get dense q) (ap is_some (sym (fin.get-insert nat_cmp_total dense k v q)) ∙ e))
  where
    by : (eq_by_cmp nat_cmp q k ≡ true) ⊎ (is_some (fin.get dense q) ≡ true) → fin.get sparse q ≡ None
    by (inl same) = absent_at sparse k q h same
    by (inr there) = apart q there

none_put : {V : Type 0} (b : Bool) (v : V) (p : Option V) → (b ≡ true → ⊥) → p ≡ None → cond b (Some v) p ≡ None
none_put true v p differs h = absurd (differs refl)
none_put false v p differs h = h

pub apart-insert_sparse : {V : Type 0} (dense sparse : Numbered V) (k : ℕ) (v : V) → AreDisjoint dense sparse → fin.get dense k ≡ None → AreDisjoint dense (fin.insert sparse k v)
apart-insert_sparse dense sparse k v apart h q e =
    fin.get-insert nat_cmp_total sparse k v q
    ∙ none_put (eq_by_cmp nat_cmp q k) v (fin.get sparse q) (λ same. not_some (fin.get dense q) (absent_at dense k q h same) e) (apart q e)

some_cut : {V : Type 0} (b : Bool) (o : Option V) → is_some (cond b None o) ≡ true → is_some o ≡ true
some_cut {V} true o h = absurd (not_some none refl h)
  where
    none : Option V
    none = None
some_cut false o h = h

pub apart-remove_dense : {V : Type 0} (dense sparse : Numbered V) (k : ℕ) → AreDisjoint dense sparse → AreDisjoint (fin.remove dense k) sparse
apart-remove_dense dense sparse k apart q e = apart q (some_cut (eq_by_cmp nat_cmp q k) (fin.get dense q) (ap is_some (sym (fin.get-remove nat_cmp_total dense k q)) ∙ e))

none_cut : {V : Type 0} (b : Bool) (p : Option V) → p ≡ None → cond b None p ≡ None
none_cut true p h = refl
none_cut false p h = h

pub apart-remove_sparse : {V : Type 0} (dense sparse : Numbered V) (k : ℕ) → AreDisjoint dense sparse → AreDisjoint dense (fin.remove sparse k)
apart-remove_sparse dense sparse k apart q e = fin.get-remove nat_cmp_total sparse k q ∙ none_cut (eq_by_cmp nat_cmp q k) (fin.get sparse q) (apart q e)

pub either_way : {T E : Type 0} (r : Result T E) (P Q X : Type 0) → OnOk r P → OnErr r Q → (P → X) → (Q → X) → X
either_way (Ok x) P Q X p q fine otherwise = fine p
either_way (Err e) P Q X p q fine otherwise = otherwise q

pub ok_then : {T E : Type 0} (r : Result T E) (P Q : Type 0) → OnOk r P → (P → Q) → OnOk r Q
ok_then (Ok x) P Q p f = f p
ok_then (Err e) P Q p f = tt

pub err_then : {T E : Type 0} (r : Result T E) (P Q : Type 0) → OnErr r P → (P → Q) → OnErr r Q
err_then (Ok x) P Q p f = tt
err_then (Err e) P Q p f = f p

-- ---- slots one after the other

slot_step : {V : Type 0} (xs : List (Option V)) (k : ℕ) (d : Option V) → k < length xs → drop k xs ≡ slice_index_or xs k d ∷ drop (suc k) xs
slot_step [] k d h = absurd (grind arith)
slot_step (x ∷ xs) zero d h = refl
slot_step (x ∷ xs) (suc k) d h = slot_step xs k d (grind arith)

suc_is : (k : ℕ) → suc k ≡ k + 1
suc_is k = grind arith

numbers-after : {V : Type 0} (test : V → Bool) (xs : List (Option V)) (k : ℕ) → slot_numbers test (suc k) (drop (suc k) xs) ≡ slot_numbers test (k + 1) (drop (k + 1) xs)
numbers-after test xs k = ap (λ n. slot_numbers test n (drop n xs)) (suc_is k)

numbers-at : {V : Type 0} (test : V → Bool) (xs : List (Option V)) (k : ℕ) (d x : Option V) → k < length xs → slice_index_or xs k d ≡ x → slot_numbers test k (drop k xs) ≡ slot_numbers test k (x ∷ drop (suc k) xs)
numbers-at test xs k d x h e = ap (slot_numbers test k) (slot_step xs k d h) ∙ ap (λ y. slot_numbers test k (y ∷ drop (suc k) xs)) e

-- the numbers from a slot on: an empty slot, one whose value passes, and one whose value doesn't
pub numbers-empty : {V : Type 0} (test : V → Bool) (xs : List (Option V)) (k : ℕ) (d : Option V) → k < length xs → slice_index_or xs k d ≡ None → slot_numbers test (k + 1) (drop (k + 1) xs) ≡ slot_numbers test k (drop k xs)
numbers-empty test xs k d h e = sym (numbers-at test xs k d None h e ∙ numbers-after test xs k)

pub numbers-taken : {V : Type 0} (test : V → Bool) (xs : List (Option V)) (k : ℕ) (d : Option V) (v : V) → k < length xs → slice_index_or xs k d ≡ Some v → test v ≡ true → slot_numbers test k (drop k xs) ≡ k ∷ slot_numbers test (k + 1) (drop (k + 1) xs)
numbers-taken test xs k d v h e t =
    numbers-at test xs k d (Some v) h e
    ∙ ap (λ b. cond b (k ∷ slot_numbers test (suc k) (drop (suc k) xs)) (slot_numbers test (suc k) (drop (suc k) xs))) t
    ∙ ap (λ ns. k ∷ ns) (numbers-after test xs k)

pub numbers-passed : {V : Type 0} (test : V → Bool) (xs : List (Option V)) (k : ℕ) (d : Option V) (v : V) → k < length xs → slice_index_or xs k d ≡ Some v → test v ≡ false → slot_numbers test (k + 1) (drop (k + 1) xs) ≡ slot_numbers test k (drop k xs)
numbers-passed test xs k d v h e t = sym (numbers-at test xs k d (Some v) h e
    ∙ ap (λ b. cond b (k ∷ slot_numbers test (suc k) (drop (suc k) xs)) (slot_numbers test (suc k) (drop (suc k) xs))) t
    ∙ numbers-after test xs k)

some_is : {V : Type 0} (x : Option V) → is_some x ≡ true → (v : V) × (x ≡ Some v)
some_is (Some v) h = (v, refl)
some_is None h = absurd (not_some none refl h)
  where
    none : Option Bool
    none = None

pub none_is : {V : Type 0} (x : Option V) → is_some x ≡ false → x ≡ None
none_is (Some v) h = absurd (distinct h)
  where
    distinct : true ≡ false → ⊥
    distinct f = grind arith
none_is None h = refl

-- the same for any value
pub keys-taken : {V : Type 0} (xs : List (Option V)) (k : ℕ) (x : Option V) → k < length xs → x ≡ slice_index_or xs k x → is_some x ≡ true → slot_numbers (λ (v : V). true) k (drop k xs) ≡ k ∷ slot_numbers (λ (v : V). true) (k + 1) (drop (k + 1) xs)
keys-taken {V} xs k x h is e = let found = some_is x e in numbers-taken (λ (v : V). true) xs k x found.0 h (sym is ∙ found.1) refl

pub keys-passed : {V : Type 0} (xs : List (Option V)) (k : ℕ) (x : Option V) → k < length xs → x ≡ slice_index_or xs k x → is_some x ≡ false → slot_numbers (λ (v : V). true) (k + 1) (drop (k + 1) xs) ≡ slot_numbers (λ (v : V). true) k (drop k xs)
keys-passed {V} xs k x h is e = numbers-empty (λ (v : V). true) xs k x h (sym is ∙ none_is x e)

past_end : {V : Type 0} (xs : List (Option V)) (k : ℕ) → length xs ≤ k → drop k xs ≡ []
past_end [] zero h = refl
past_end [] (suc k) h = refl
past_end (x ∷ xs) zero h = absurd (grind arith)
past_end (x ∷ xs) (suc k) h = past_end xs k (grind arith)

pub numbers-end : {V : Type 0} (test : V → Bool) (xs : List (Option V)) (k : ℕ) → length xs ≤ k → slot_numbers test k (drop k xs) ≡ []
numbers-end test xs k h = ap (slot_numbers test k) (past_end xs k h)

slots-above : {V : Type 0} (xs : List (Option V)) (k n : ℕ) → k < n → AllByRecursion (λ y. nat_cmp k y ≡ Less) (map (λ e. e.0) (slot_entries n xs))
slots-above [] k n h = tt
slots-above (None ∷ xs) k n h = slots-above xs k (suc n) (grind arith)
slots-above (Some v ∷ xs) k n h = (lesser k n h, slots-above xs k (suc n) (grind arith))
  where
    lesser : (k n : ℕ) → k < n → nat_cmp k n ≡ Less
    lesser k n h = grind arith

slots-rise : {V : Type 0} (xs : List (Option V)) (n : ℕ) → IsStrictlySortedBy nat_cmp (map (λ e. e.0) (slot_entries n xs))
unfolding IsStrictlySortedBy
slots-rise [] n = tt
slots-rise (None ∷ xs) n = slots-rise xs (suc n)
slots-rise (Some v ∷ xs) n = (slots-above xs n (suc n) (grind arith), slots-rise xs (suc n))

-- the entries of the map that slots make
pub slot_entries_are : {V : Type 0} (xs : List (Option V)) → fin.entries (slot_map xs) ≡ slot_entries 0 xs
slot_entries_are xs = entries_are (slot_entries 0 xs) (slots-rise xs 0)

numbers-entries : {V : Type 0} (test : V → Bool) (n : ℕ) (xs : List (Option V)) → slot_numbers test n xs ≡ numbers_in test (slot_entries n xs)
numbers-entries test n [] = refl
numbers-entries test n (None ∷ xs) = numbers-entries test (suc n) xs
numbers-entries {V} test n (Some v ∷ xs) = by (test v) (numbers-entries test (suc n) xs)
  where
    by : (b : Bool) → slot_numbers test (suc n) xs ≡ numbers_in test (slot_entries (suc n) xs)
        → cond b (n ∷ slot_numbers test (suc n) xs) (slot_numbers test (suc n) xs) ≡ map (λ (e : ℕ × V). e.0) (cond b ((n, v) ∷ filter (λ e. test e.1) (slot_entries (suc n) xs)) (filter (λ e. test e.1) (slot_entries (suc n) xs)))
    by true h = ap (λ ns. n ∷ ns) h
    by false h = h

-- the numbers of the entries whose value passes
pub slot_numbers_are : {V : Type 0} (test : V → Bool) (xs : List (Option V)) → slot_numbers test 0 xs ≡ numbers_in test (fin.entries (slot_map xs))
slot_numbers_are test xs = numbers-entries test 0 xs ∙ ap (numbers_in test) (sym (slot_entries_are xs))

all_keys : {V : Type 0} (es : List (ℕ × V)) → numbers_in (λ _. true) es ≡ map (λ e. e.0) es
all_keys [] = refl
all_keys (e ∷ es) = ap (λ ns. e.0 ∷ ns) (all_keys es)

pub slot_keys_are : {V : Type 0} (xs : List (Option V)) → slot_numbers (λ _. true) 0 xs ≡ fin.keys (slot_map xs)
slot_keys_are xs = slot_numbers_are (λ _. true) xs ∙ all_keys (fin.entries (slot_map xs))

-- the keys of two maps in one
pub joined_keys : {V : Type 0} (dense sparse : Numbered V) (all : List ℕ) → IsStrictlySortedBy nat_cmp all → ((q : ℕ) → is_among all q ≡ is_among (fin.keys dense ++ fin.keys sparse) q) → all ≡ fin.keys (joined_map dense sparse)
joined_keys dense sparse all rising same = same_rising all (fin.keys (joined_map dense sparse)) (Rises-sorted all rising) (Rises-keys (joined_map dense sparse)) (λ q.
    same q
    ∙ among-append (fin.keys dense) (fin.keys sparse) q
    ∙ ap (λ b. b || is_among (fin.keys sparse) q) (among-keys dense q)
    ∙ ap (λ b. fin.contains_key dense q || b) (among-keys sparse q)
    ∙ either (fin.get dense q) (fin.get sparse q)
    ∙ ap is_some (sym (get_joined dense sparse q))
    ∙ sym (among-keys (joined_map dense sparse) q))
  where
    among-append : (xs ys : List ℕ) (q : ℕ) → is_among (xs ++ ys) q ≡ (is_among xs q || is_among ys q)
    among-append [] ys q = refl
    among-append (x ∷ xs) ys q = ap (λ b. x == q || b) (among-append xs ys q) ∙ or_assoc (x == q) (is_among xs q) (is_among ys q)
      where
        or_assoc : (a b c : Bool) → (a || (b || c)) ≡ ((a || b) || c)
        or_assoc true b c = refl
        or_assoc false b c = refl

    either : {V : Type 0} (o p : Option V) → (is_some o || is_some p) ≡ is_some (option_or o p)
    either (Some v) p = refl
    either None p = refl

pub if_ok_then : {A E : Type 0} (r : Result A E) (P Q : A → Type 0) → IfOk r P → ((x : A) → P x → Q x) → IfOk r Q
if_ok_then (Ok x) P Q p f = f x p
if_ok_then (Err e) P Q p f = tt

-- a number that isn't in two maps in one isn't in the first
first_none : {V : Type 0} (x y : Option V) → option_or x y ≡ None → x ≡ None
first_none None y e = refl
first_none (Some v) y e = grind arith

pub neither_dense : {V : Type 0} (dense sparse m : Numbered V) (k : ℕ) → joined_map dense sparse ≡ m → fin.get m k ≡ None → fin.get dense k ≡ None
neither_dense dense sparse m k is e = first_none (fin.get dense k) (fin.get sparse k) (sym (get_joined dense sparse k) ∙ ap (λ n. fin.get n k) is ∙ e)
