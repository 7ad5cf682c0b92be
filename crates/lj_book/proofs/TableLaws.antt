-- How often joint numbers are held, and what a change of one table does.
use Rattle.std.proofs.Common.{◌≡◌, ap, refl, sym, ◌∙◌, subst, ℕ, zero, suc, ◌+◌, ◌*◌, ◌<◌, ◌≤◌, ◌-◌, Bool, cond, true, false, arith}
use Rattle.std.specs.Prelude.{List, [], ◌∷◌, ◌++◌, map, Option, Some, None, option_map, option_and_then, filter, not, ◌==◌, ◌||◌, ◌&&◌, nat_le, if◌then◌else◌, is_some, nat_lt, replicate, get_or, set, length}
use Rattle.std.specs.declared.cmp.Ordering.TheVariants.{Less, Equal, Greater}
use Rattle.std.proofs.lemmas.Bool.{false≢true}
use Rattle.std.proofs.lemmas.Bool.Decides.{nat_tests}
use Rattle.std.specs.Ordering.{nat_cmp, eq_by_cmp, is_eq}
use Rattle.std.specs.Cmp.{nat_cmp_total, tied_itself, unsigned_tied}
use Rattle.std.specs.FinMap as fin
use Rattle.std.specs.Result.{OnOk, OnErr}
use Rattle.std.specs.declared.result.Result.{Result}
use Rattle.std.specs.declared.result.Result.TheVariants.{Ok, Err}
use Rattle.lj_clause.specs.declared.memory.NoMemory.{NoMemory}
use Rattle.lj_clause.proofs.Tests.{turned}
use Rattle.std.specs.FinMap.Entries.{find, put, by_order}
use Rattle.std.specs.FinMap.{nat_cmp-IsAntisymmetric}
use Rattle.lj_book.specs.Tables.{Table, Tables, table_of, is_here, joint_of, is_bound, with_table, is_among, without_keys, holds_joint, has_holder, up_to, keys_lost}
use Rattle.lj_book.specs.inner.Holders.{Counted, occurrences, count_in, holders_of, count_or_none, slot_count, count_beyond, count_at, AreHolders, one_if_at, all_up_to}
use Rattle.lj_book.proofs.NumberMaps.{same_map, entries-retain_keys}

pub among_occurs : (ms : List ℕ) (n : ℕ) → is_among ms n ≡ nat_lt 0 (occurrences ms n)
among_occurs [] n = refl
among_occurs (m ∷ ms) n =
    elim (m == n) as (λ b. (b || is_among ms n) ≡ nat_lt 0 ((if b then 1 else 0) + occurrences ms n)) [
      | true ↦ sym (grind (arith, nat_tests))
      | false ↦ among_occurs ms n ∙ ap (nat_lt 0) (omega arith)
    ]

either_counts : (a b : ℕ) → (nat_lt 0 a || nat_lt 0 b) ≡ nat_lt 0 (a + b)
either_counts zero b = ap (nat_lt 0) (omega arith)
either_counts (suc a) b = sym (grind (arith, nat_tests))

joint_counts : (t : Option Table) (n : ℕ) → holds_joint n t ≡ nat_lt 0 (count_in t n)
joint_counts None n = refl
joint_counts (Some t) n = among_occurs (fin.values t) n

-- a number is held where it is held at least once
pub held_counts : (ts : Tables) (n : ℕ) → has_holder ts n ≡ nat_lt 0 (holders_of ts n)
held_counts [] n = refl
held_counts (t ∷ ts) n = ap (λ b. b || has_holder ts n) (joint_counts t n) ∙ ap (λ b. nat_lt 0 (count_in t n) || b) (held_counts ts n) ∙ either_counts (count_in t n) (holders_of ts n)

values_put : (k v : ℕ) (es : List (ℕ × ℕ)) (n : ℕ) → find nat_cmp k es ≡ None → occurrences (map (λ e. e.1) (put nat_cmp k v es)) n ≡ (if v == n then 1 else 0) + occurrences (map (λ e. e.1) es) n
values_put k v [] n none = refl
values_put k v (e ∷ es) n none =
    elim (nat_cmp k e.0) as (λ r. cond (is_eq r) (Some e.1) (find nat_cmp k es) ≡ None → occurrences (map (λ (e : ℕ × ℕ). e.1) (by_order r ((k, v) ∷ e ∷ es) ((e.0, v) ∷ es) (e ∷ put nat_cmp k v es))) n ≡ (if v == n then 1 else 0) + ((if e.1 == n then 1 else 0) + occurrences (map (λ e. e.1) es) n)) [
      | Less ↦ λ h. refl
      | Equal ↦ λ h. cc
      | Greater ↦ λ h. let rest = values_put k v es n h in omega arith
    ] none

-- a binding of a number that wasn't bound adds one to the count of its joint number
pub count-insert : (t : Table) (own joint n : ℕ) → fin.get t own ≡ None → count_in (Some (fin.insert t own joint)) n ≡ (if joint == n then 1 else 0) + count_in (Some t) n
count-insert t own joint n none =
    ap (λ es. occurrences (map (λ (e : ℕ × ℕ). e.1) es) n) (fin.entries-insert nat_cmp_total t own joint)
    ∙ values_put own joint (fin.entries t) n (sym (fin.get-entries t own) ∙ none)

-- all entries are those that pass and those that don't
pub counts_split : (p : ℕ → Bool) (es : List (ℕ × ℕ)) (n : ℕ) → occurrences (map (λ e. e.1) (filter (λ e. p e.0) es)) n + occurrences (map (λ e. e.1) (filter (λ e. not (p e.0)) es)) n ≡ occurrences (map (λ e. e.1) es) n
counts_split p [] n = refl
counts_split p (e ∷ es) n =
    let rest = counts_split p es n in
    elim (p e.0) as (λ b. occurrences (map (λ (e : ℕ × ℕ). e.1) (cond b (e ∷ filter (λ e. p e.0) es) (filter (λ e. p e.0) es))) n + occurrences (map (λ (e : ℕ × ℕ). e.1) (cond (not b) (e ∷ filter (λ e. not (p e.0)) es) (filter (λ e. not (p e.0)) es))) n ≡ (if e.1 == n then 1 else 0) + occurrences (map (λ e. e.1) es) n) [
      | true ↦ omega arith
      | false ↦ omega arith
    ]

-- fewer keys hold a joint number no more often
pub count-without_keys : (numbers : List ℕ) (t : Table) (n : ℕ) → count_in (Some (without_keys numbers t)) n ≤ count_in (Some t) n
count-without_keys numbers t n =
    let split = counts_split (λ own. not (is_among numbers own)) (fin.entries t) n in
    let is = ap (λ es. occurrences (map (λ (e : ℕ × ℕ). e.1) es) n) (entries-retain_keys t (λ own. not (is_among numbers own))) in
    omega arith

-- nothing holds a number that isn't held
pub none_held : (ts : Tables) (n : ℕ) → has_holder ts n ≡ false → holders_of ts n ≡ 0
none_held ts n h = let e : nat_lt 0 (holders_of ts n) ≡ false = sym (held_counts ts n) ∙ h in grind (arith, nat_tests)

with_table_counts : (change : Table → Table) (ts : Tables) (seat : ℕ) (t : Table) (n : ℕ) → table_of ts seat ≡ Some t → holders_of (with_table change ts seat) n + count_in (Some t) n ≡ holders_of ts n + count_in (Some (change t)) n
with_table_counts change [] seat t n h = cc
with_table_counts change (None ∷ ts) zero t n h = cc
with_table_counts change (Some u ∷ ts) zero t n h =
    let is : u ≡ t = cc in
    subst (λ (w : Table). (count_in (Some (change u)) n + holders_of ts n) + count_in (Some w) n ≡ (count_in (Some u) n + holders_of ts n) + count_in (Some (change w)) n) is (omega arith)
with_table_counts change (u ∷ ts) (suc seat) t n h = let rest = with_table_counts change ts seat t n h in omega arith

-- what a change of a seat's table does to the counts
pub holders-with_table : (change : Table → Table) (ts : Tables) (seat : ℕ) (t : Table) (n : ℕ) → table_of ts seat ≡ Some t → holders_of (with_table change ts seat) n + count_in (Some t) n ≡ holders_of ts n + count_in (Some (change t)) n
holders-with_table = with_table_counts

same_number : (q k : ℕ) → eq_by_cmp nat_cmp q k ≡ true → q ≡ k
same_number q k e = let f : (q == k) ≡ true = sym (unsigned_tied q k) ∙ e in grind (arith, nat_tests)

-- a key that isn't there leaves the map as it is
pub remove-absent : {X : Type 0} (m : fin.FinMap nat_cmp X) (k : ℕ) → fin.get m k ≡ None → fin.remove m k ≡ m
remove-absent {X} m k none = same_map _ _ (λ q.
    fin.get-remove nat_cmp_total m k q
    ∙ elim (eq_by_cmp nat_cmp q k) as (λ b. eq_by_cmp nat_cmp q k ≡ b → cond b None (fin.get m q) ≡ fin.get m q) [
      | true ↦ λ e. sym (ap (fin.get m) (same_number q k e) ∙ none)
      | false ↦ λ e. refl
    ] refl)

-- what was taken out, put in again, gives the map before
pub insert-remove : {X : Type 0} (m : fin.FinMap nat_cmp X) (k : ℕ) (v : X) → fin.get m k ≡ Some v → fin.insert (fin.remove m k) k v ≡ m
insert-remove {X} m k v some = same_map _ _ (λ q.
    fin.get-insert nat_cmp_total (fin.remove m k) k v q
    ∙ ap (cond (eq_by_cmp nat_cmp q k) (Some v)) (fin.get-remove nat_cmp_total m k q)
    ∙ elim (eq_by_cmp nat_cmp q k) as (λ b. eq_by_cmp nat_cmp q k ≡ b → cond b (Some v) (cond b None (fin.get m q)) ≡ fin.get m q) [
      | true ↦ λ e. sym (ap (fin.get m) (same_number q k e) ∙ some)
      | false ↦ λ e. refl
    ] refl)

-- what was put in at a free key, taken out again, gives the map before
pub remove-insert : {X : Type 0} (m : fin.FinMap nat_cmp X) (k : ℕ) (v : X) → fin.get m k ≡ None → fin.remove (fin.insert m k v) k ≡ m
remove-insert {X} m k v none = same_map _ _ (λ q.
    fin.get-remove nat_cmp_total (fin.insert m k v) k q
    ∙ ap (cond (eq_by_cmp nat_cmp q k) None) (fin.get-insert nat_cmp_total m k v q)
    ∙ elim (eq_by_cmp nat_cmp q k) as (λ b. eq_by_cmp nat_cmp q k ≡ b → cond b None (cond b (Some v) (fin.get m q)) ≡ fin.get m q) [
      | true ↦ λ e. sym (ap (fin.get m) (same_number q k e) ∙ none)
      | false ↦ λ e. refl
    ] refl)

is_itself : (k : ℕ) → eq_by_cmp nat_cmp k k ≡ true
is_itself k = ap is_eq (tied_itself nat_cmp_total k)

pub get-removed : {X : Type 0} (m : fin.FinMap nat_cmp X) (k : ℕ) → fin.get (fin.remove m k) k ≡ None
get-removed m k = fin.get-remove nat_cmp_total m k k ∙ ap (λ b. cond b None (fin.get m k)) (is_itself k)

-- giving a bound number up takes one from the count of its joint number
pub count-remove : (t : Table) (own joint n : ℕ) → fin.get t own ≡ Some joint → count_in (Some t) n ≡ (if joint == n then 1 else 0) + count_in (Some (fin.remove t own)) n
count-remove t own joint n some =
    ap (λ (m : Table). count_in (Some m) n) (sym (insert-remove t own joint some))
    ∙ count-insert (fin.remove t own) own joint n (get-removed t own)

-- ---- one table in the list

pub with_table-set : (change : Table → Table) (ts : Tables) (seat : ℕ) (t : Table) → table_of ts seat ≡ Some t → set ts seat (Some (change t)) ≡ with_table change ts seat
with_table-set change [] seat t h = refl
with_table-set change (u ∷ ts) zero t h = ap (λ o. option_map change o ∷ ts) (sym h)
with_table-set change (u ∷ ts) (suc seat) t h = ap (λ us. u ∷ us) (with_table-set change ts seat t h)

pub with_table-with_table : (f g : Table → Table) (ts : Tables) (seat : ℕ) → with_table f (with_table g ts seat) seat ≡ with_table (λ t. f (g t)) ts seat
with_table-with_table f g [] seat = refl
with_table-with_table f g (None ∷ ts) zero = refl
with_table-with_table f g (Some t ∷ ts) zero = refl
with_table-with_table f g (t ∷ ts) (suc seat) = ap (λ us. t ∷ us) (with_table-with_table f g ts seat)

pub with_table-id : (f : Table → Table) (ts : Tables) (seat : ℕ) (t : Table) → table_of ts seat ≡ Some t → f t ≡ t → with_table f ts seat ≡ ts
with_table-id f [] seat t h e = refl
with_table-id f (u ∷ ts) zero t h e = ap (λ o. option_map f o ∷ ts) h ∙ ap (λ w. Some w ∷ ts) e ∙ ap (λ o. o ∷ ts) (sym h)
with_table-id f (u ∷ ts) (suc seat) t h e = ap (λ us. u ∷ us) (with_table-id f ts seat t h e)

pub table_of-with_table : (f : Table → Table) (ts : Tables) (seat : ℕ) → table_of (with_table f ts seat) seat ≡ option_map f (table_of ts seat)
table_of-with_table f [] seat = refl
table_of-with_table f (t ∷ ts) zero = refl
table_of-with_table f (t ∷ ts) (suc seat) = table_of-with_table f ts seat

pub table_of-at : (ts : Tables) (seat : ℕ) (d : Option Table) → seat < length ts → table_of ts seat ≡ get_or ts seat d
table_of-at [] seat d h = absurd (omega arith)
table_of-at (t ∷ ts) zero d h = refl
table_of-at (t ∷ ts) (suc seat) d h = table_of-at ts seat d (omega arith)

pub table_of-past : (ts : Tables) (seat : ℕ) → length ts ≤ seat → table_of ts seat ≡ None
table_of-past [] seat h = refl
table_of-past (t ∷ ts) zero h = absurd (omega arith)
table_of-past (t ∷ ts) (suc seat) h = table_of-past ts seat (omega arith)

-- ---- the counts after a change

pub here_in_range : (ts : Tables) (seat : ℕ) → is_here ts seat ≡ true → seat < length ts
here_in_range [] seat h = absurd (false≢true h)
here_in_range (t ∷ ts) zero h = omega arith
here_in_range (t ∷ ts) (suc seat) h = let rest = here_in_range ts seat h in omega arith

pub none_from : {X : Type 0} (o : Option X) → is_some o ≡ false → o ≡ None
none_from None h = refl
none_from (Some x) h = absurd (false≢true (sym h))

pub free_in_table : (ts : Tables) (seat own : ℕ) (t : Table) → table_of ts seat ≡ Some t → is_bound ts seat own ≡ false → fin.get t own ≡ None
free_in_table ts seat own t at free = none_from (fin.get t own) (ap (λ o. is_some (option_and_then (λ (u : Table). fin.get u own) o)) (sym at) ∙ free)

pub joint_in_table : (ts : Tables) (seat own : ℕ) (t : Table) → table_of ts seat ≡ Some t → joint_of ts seat own ≡ fin.get t own
joint_in_table ts seat own t at = ap (option_and_then (λ (u : Table). fin.get u own)) at

pub set-same : (ts : Tables) (seat : ℕ) (t : Table) → table_of ts seat ≡ Some t → set ts seat (Some t) ≡ ts
set-same ts seat t at = with_table-set (λ u. u) ts seat t at ∙ with_table-id (λ u. u) ts seat t at refl

pub AreHolders-with_table : (change : Table → Table) (ts : Tables) (seat : ℕ) (t : Table) (m n : Counted) → table_of ts seat ≡ Some t → AreHolders ts m → ((q : ℕ) → count_at n q + count_in (Some t) q ≡ count_at m q + count_in (Some (change t)) q) → AreHolders (with_table change ts seat) n
AreHolders-with_table change ts seat t m n at holders changes = λ q.
    let a = holders-with_table change ts seat t q at in
    let b = holders q in
    let c = changes q in
    omega arith

pub same_here : (j q : ℕ) → (j == q) ≡ true → j ≡ q
same_here j q e = grind (arith, nat_tests)

bound_counts : (t : Table) (m n : Counted) (own joint q : ℕ) → fin.get t own ≡ None → count_at n q ≡ one_if_at (Some joint) q + count_at m q → count_at n q + count_in (Some t) q ≡ count_at m q + count_in (Some (fin.insert t own joint)) q
bound_counts t m n own joint q free more = let a = count-insert t own joint q free in omega arith

AreHolders-bind : (ts : Tables) (seat own joint : ℕ) (t : Table) (m n : Counted) → table_of ts seat ≡ Some t → AreHolders ts m → fin.get t own ≡ None → ((q : ℕ) → count_at n q ≡ one_if_at (Some joint) q + count_at m q) → AreHolders (set ts seat (Some (fin.insert t own joint))) n
AreHolders-bind ts seat own joint t m n at holders free more =
    subst (λ (us : Tables). AreHolders us n) (sym (with_table-set (λ u. fin.insert u own joint) ts seat t at))
    (AreHolders-with_table (λ u. fin.insert u own joint) ts seat t m n at holders (λ q. bound_counts t m n own joint q free (more q)))

pub count_removed : (t : Table) (own q : ℕ) (o : Option ℕ) → fin.get t own ≡ o → count_in (Some t) q ≡ one_if_at o q + count_in (Some (fin.remove t own)) q
count_removed t own q None e = let same = ap (λ (u : Table). count_in (Some u) q) (sym (remove-absent t own e)) in omega arith
count_removed t own q (Some j) e = count-remove t own j q e

pub AreHolders-unbind : (ts : Tables) (seat own : ℕ) (t : Table) (m n : Counted) → table_of ts seat ≡ Some t → AreHolders ts m → ((q : ℕ) → count_at m q ≡ one_if_at (fin.get t own) q + count_at n q) → AreHolders (set ts seat (Some (fin.remove t own))) n
AreHolders-unbind ts seat own t m n at holders less =
    subst (λ (us : Tables). AreHolders us n) (sym (with_table-set (λ u. fin.remove u own) ts seat t at))
    (AreHolders-with_table (λ u. fin.remove u own) ts seat t m n at holders (λ q.
    let a = less q in
    let b = count_removed t own q (fin.get t own) refl in
    omega arith))

pub holders_at_least : (ts : Tables) (seat q : ℕ) (t : Table) → table_of ts seat ≡ Some t → count_in (Some t) q ≤ holders_of ts q
holders_at_least [] seat q t at = cc
holders_at_least (None ∷ ts) zero q t at = cc
holders_at_least (Some u ∷ ts) zero q t at =
    let is : u ≡ t = cc in
    subst (λ (w : Table). count_in (Some w) q ≤ count_in (Some u) q + holders_of ts q) is (omega arith)
holders_at_least (u ∷ ts) (suc seat) q t at = let rest = holders_at_least ts seat q t at in omega arith

self_tied : (j : ℕ) → (j == j) ≡ true
self_tied j = grind (arith, nat_tests)

pub self_counts : (j n : ℕ) → (if j == j then 1 else 0) + n ≡ 1 + n
self_counts j n = ap (λ b. (if b then 1 else 0) + n) (self_tied j)

-- a joint number to which an own number is bound is counted
pub bound_is_counted : (ts : Tables) (seat own joint : ℕ) (t : Table) (m : Counted) → table_of ts seat ≡ Some t → AreHolders ts m → fin.get t own ≡ Some joint → 0 < count_at m joint
bound_is_counted ts seat own joint t m at holders here =
    let a = count-remove t own joint joint here in
    let b = self_counts joint (count_in (Some (fin.remove t own)) joint) in
    let c = holders joint in
    let d = holders_at_least ts seat joint t at in
    omega arith

-- ---- what the code's steps leave

pub invariant-bind : (ts : Tables) (seat own joint : ℕ) (t u : Table) (m n : Counted) (r : Result (Unit {0}) NoMemory) → table_of ts seat ≡ Some t → AreHolders ts m → fin.get t own ≡ None → OnOk r (u ≡ fin.insert t own joint) → OnOk r ((q : ℕ) → count_at n q ≡ one_if_at (Some joint) q + count_at m q) → OnErr r ((u ≡ t) × ((q : ℕ) → count_at n q ≡ count_at m q)) → AreHolders (set ts seat (Some u)) n
invariant-bind ts seat own joint t u m n (Ok x) at holders free a b e =
    subst (λ (w : Table). AreHolders (set ts seat (Some w)) n) (sym a) (AreHolders-bind ts seat own joint t m n at holders free b)
invariant-bind ts seat own joint t u m n (Err x) at holders free a b e =
    subst (λ (w : Table). AreHolders (set ts seat (Some w)) n) (sym e.0)
    (subst (λ (us : Tables). AreHolders us n) (sym (set-same ts seat t at)) (λ q. e.1 q ∙ holders q))

pub ok_then : {T E : Type 0} (r : Result T E) {P Q : Type 0} → OnOk r P → (P → Q) → OnOk r Q
ok_then (Ok x) p f = f p
ok_then (Err x) p f = tt

-- a seat that is there has a table
pub no_table : {P : Type 0} (ts : Tables) (seat : ℕ) → table_of ts seat ≡ None → is_here ts seat ≡ true → P
no_table ts seat none here = absurd (false≢true (ap is_some (sym none) ∙ here))

-- ---- several numbers given up

pub among_push : (ns : List ℕ) (n q : ℕ) → is_among (ns ++ n ∷ []) q ≡ (is_among ns q || n == q)
among_push [] n q = elim (n == q) as (λ b. (b || false) ≡ b) [ true ↦ refl | false ↦ refl ]
among_push (m ∷ ns) n q = elim (m == q) as (λ b. (b || is_among (ns ++ n ∷ []) q) ≡ ((b || is_among ns q) || n == q)) [ true ↦ refl | false ↦ among_push ns n q ]

alike : (p : ℕ → Bool) (q x : ℕ) → nat_cmp q x ≡ Equal → p x ≡ p q
alike p q x e = ap p (sym (nat_cmp-IsAntisymmetric q x e))

pub get-without_keys : (ns : List ℕ) (t : Table) (q : ℕ) → fin.get (without_keys ns t) q ≡ cond (not (is_among ns q)) (fin.get t q) None
get-without_keys ns t q = fin.get-retain_keys t (λ own. not (is_among ns own)) q (alike (λ own. not (is_among ns own)) q)

removed_or_kept : (a b : Bool) (o : Option ℕ) → cond (not (a || b)) o None ≡ cond b None (cond (not a) o None)
removed_or_kept true true o = refl
removed_or_kept true false o = refl
removed_or_kept false true o = refl
removed_or_kept false false o = refl

pub without_keys-push : (ns : List ℕ) (n : ℕ) (t : Table) → without_keys (ns ++ n ∷ []) t ≡ fin.remove (without_keys ns t) n
without_keys-push ns n t = same_map _ _ (λ q.
    get-without_keys (ns ++ n ∷ []) t q
    ∙ ap (λ b. cond (not b) (fin.get t q) None) (among_push ns n q)
    ∙ removed_or_kept (is_among ns q) (n == q) (fin.get t q)
    ∙ sym (fin.get-remove nat_cmp_total (without_keys ns t) n q ∙ ap (λ b. cond b None (fin.get (without_keys ns t) q)) (unsigned_tied q n ∙ turned q n) ∙ ap (cond (n == q) None) (get-without_keys ns t q)))

pub without_keys-none : (t : Table) → without_keys [] t ≡ t
without_keys-none t = same_map _ _ (λ q. get-without_keys [] t q)

fewer_pass : {X : Type 0} (p : X → Bool) (xs : List X) → length (filter p xs) ≤ length xs
fewer_pass p [] = omega arith
fewer_pass p (x ∷ xs) = let rest = fewer_pass p xs in elim (p x) as (λ b. length (cond b (x ∷ filter p xs) (filter p xs)) ≤ suc (length xs)) [ true ↦ omega arith | false ↦ omega arith ]

len-without_keys : (ns : List ℕ) (t : Table) → fin.len (without_keys ns t) ≤ fin.len t
len-without_keys ns t =
    let a = fin.len-entries (without_keys ns t) ∙ ap length (entries-retain_keys t (λ own. not (is_among ns own))) in
    let b = fin.len-entries t in
    let c = fewer_pass (λ (e : ℕ × ℕ). not (is_among ns e.0)) (fin.entries t) in
    omega arith

some_key : (t : Table) (k : ℕ) → fin.contains_key t k ≡ true → 0 < fin.len t
some_key t k h = more (fin.len t) (λ e. false≢true (sym (ap is_some (ap (λ (m : Table). fin.get m k) (fin.empty_of_len t e) ∙ fin.get-empty nat_cmp k)) ∙ h))
  where
    more : (n : ℕ) → (n ≡ 0 → ⊥) → 0 < n
    more zero h = absurd (h refl)
    more (suc n) h = omega arith

pub keys_lost-push : (ns : List ℕ) (n : ℕ) (o : Option Table) → keys_lost (ns ++ n ∷ []) o ≡ keys_lost ns o + (if is_some (option_and_then (λ (t : Table). fin.get (without_keys ns t) n) o) then 1 else 0)
keys_lost-push ns n None = omega arith
keys_lost-push ns n (Some t) =
    let w : Table = without_keys ns t in
    let a = len-without_keys ns t in
    let b = ap (λ (m : Table). fin.len m) (without_keys-push ns n t) ∙ fin.len-remove nat_cmp_total w n in
    elim (fin.contains_key w n) as (λ b. fin.contains_key w n ≡ b → fin.len (without_keys (ns ++ n ∷ []) t) ≡ cond b (fin.len w - 1) (fin.len w) → fin.len t - fin.len (without_keys (ns ++ n ∷ []) t) ≡ (fin.len t - fin.len w) + (if b then 1 else 0)) [
      | true ↦ λ e f. let g = some_key w n e in omega arith
      | false ↦ λ e f. omega arith
    ] refl b

pub bound-with_table : (f : Table → Table) (ts : Tables) (seat own : ℕ) → is_bound (with_table f ts seat) seat own ≡ is_some (option_and_then (λ (t : Table). fin.get (f t) own) (table_of ts seat))
bound-with_table f [] seat own = refl
bound-with_table f (None ∷ ts) zero own = refl
bound-with_table f (Some t ∷ ts) zero own = refl
bound-with_table f (t ∷ ts) (suc seat) own = bound-with_table f ts seat own

pub here-with_table : (f : Table → Table) (ts : Tables) (seat : ℕ) → is_here (with_table f ts seat) seat ≡ is_here ts seat
here-with_table f [] seat = refl
here-with_table f (None ∷ ts) zero = refl
here-with_table f (Some t ∷ ts) zero = refl
here-with_table f (t ∷ ts) (suc seat) = here-with_table f ts seat

pub with_table-pointwise : (f g : Table → Table) (ts : Tables) (seat : ℕ) → ((t : Table) → f t ≡ g t) → with_table f ts seat ≡ with_table g ts seat
with_table-pointwise f g [] seat e = refl
with_table-pointwise f g (None ∷ ts) zero e = refl
with_table-pointwise f g (Some t ∷ ts) zero e = ap (λ (u : Table). Some u ∷ ts) (e t)
with_table-pointwise f g (t ∷ ts) (suc seat) e = ap (λ us. t ∷ us) (with_table-pointwise f g ts seat e)

pub with_table-none : (ts : Tables) (seat : ℕ) → with_table (without_keys []) ts seat ≡ ts
with_table-none [] seat = refl
with_table-none (None ∷ ts) zero = refl
with_table-none (Some t ∷ ts) zero = ap (λ (u : Table). Some u ∷ ts) (without_keys-none t)
with_table-none (t ∷ ts) (suc seat) = ap (λ us. t ∷ us) (with_table-none ts seat)

pub keys_lost-none : (o : Option Table) → keys_lost [] o ≡ 0
keys_lost-none None = refl
keys_lost-none (Some t) = let a = ap (λ (m : Table). fin.len m) (without_keys-none t) in omega arith

pub with_table-push : (ns : List ℕ) (n : ℕ) (ts : Tables) (seat : ℕ) → with_table (λ t. fin.remove t n) (with_table (without_keys ns) ts seat) seat ≡ with_table (without_keys (ns ++ n ∷ [])) ts seat
with_table-push ns n ts seat =
    with_table-with_table (λ t. fin.remove t n) (without_keys ns) ts seat
    ∙ with_table-pointwise (λ t. fin.remove (without_keys ns t) n) (without_keys (ns ++ n ∷ [])) ts seat (λ t. sym (without_keys-push ns n t))

-- ---- the opening

abbrev one_if : Bool → ℕ
one_if b = if b then 1 else 0

no_entries : {X : Type 0} (es : List X) → length es ≡ 0 → es ≡ []
no_entries [] e = refl
no_entries (x ∷ es) e = absurd (omega arith)

pub entries-empty : {X : Type 0} → fin.entries (fin.empty {X = X} {R = nat_cmp}) ≡ []
entries-empty {X} = no_entries _ (sym (fin.len-entries (fin.empty {X = X} {R = nat_cmp})) ∙ fin.len-empty nat_cmp X)

pub up_to-above : (k q : ℕ) → k < q → fin.get (up_to k) q ≡ None
up_to-above zero q h = fin.get-empty nat_cmp q
up_to-above (suc k) q h =
    fin.get-insert nat_cmp_total (up_to k) (suc k) (suc k) q
    ∙ ap (λ b. cond b (Some (suc k)) (fin.get (up_to k) q)) (unsigned_tied q (suc k) ∙ apart)
    ∙ up_to-above k q (omega arith)
  where
    apart : (q == suc k) ≡ false
    apart = grind (arith, nat_tests)

pub count-empty : (q : ℕ) → count_in (Some fin.empty) q ≡ 0
count-empty q = ap (λ es. occurrences (map (λ (e : ℕ × ℕ). e.1) es) q) entries-empty

-- each number up to the last is held once by such a table
pub count-up_to : (k q : ℕ) → count_in (Some (up_to k)) q ≡ one_if (nat_lt 0 q && nat_le q k)
count-up_to zero q = count-empty q ∙ none q
  where
    none : (q : ℕ) → ◌≡◌ {A = ℕ} 0 (one_if (nat_lt 0 q && nat_le q 0))
    none q = grind (arith, nat_tests)
count-up_to (suc k) q =
    let a = count-insert (up_to k) (suc k) (suc k) q (up_to-above k (suc k) (omega arith)) in
    let b = count-up_to k q in
    sums k q a b
  where
    sums : (k q : ℕ) → count_in (Some (up_to (suc k))) q ≡ one_if (suc k == q) + count_in (Some (up_to k)) q → count_in (Some (up_to k)) q ≡ one_if (nat_lt 0 q && nat_le q k) → count_in (Some (up_to (suc k))) q ≡ one_if (nat_lt 0 q && nat_le q (suc k))
    sums k q a b = grind (arith, nat_tests)

pub holders-replicate : (n : ℕ) (t : Table) (q : ℕ) → holders_of (replicate n (Some t)) q ≡ n * count_in (Some t) q
holders-replicate zero t q = omega arith
holders-replicate (suc n) t q = let rest = holders-replicate n t q in let law = suc_times n (count_in (Some t) q) in omega arith
  where
    suc_times : (n m : ℕ) → suc n * m ≡ m + n * m
    suc_times n m = grind arith

counts-same : (k n q : ℕ) → slot_count (replicate k n) q ≡ n * one_if (nat_lt q k)
counts-same zero n q = sym (nothing n) ∙ ap (λ (b : Bool). n * one_if b) (none q)
  where
    nothing : (n : ℕ) → n * 0 ≡ 0
    nothing n = grind arith

    none : (q : ℕ) → false ≡ nat_lt q 0
    none q = grind (arith, nat_tests)
counts-same (suc k) n zero = sym (once n) ∙ ap (λ (b : Bool). n * one_if b) (first k)
  where
    once : (n : ℕ) → n * 1 ≡ n
    once n = omega arith

    first : (k : ℕ) → true ≡ nat_lt 0 (suc k)
    first k = grind (arith, nat_tests)
counts-same (suc k) n (suc q) = counts-same k n q ∙ ap (λ (b : Bool). n * one_if b) (both k q)
  where
    both : (k q : ℕ) → nat_lt q k ≡ nat_lt (suc q) (suc k)
    both k q = grind (arith, nat_tests)

counts-opened : (k n q : ℕ) → slot_count (0 ∷ replicate k n) q ≡ n * one_if (nat_lt 0 q && nat_le q k)
counts-opened k n zero = sym (nothing n) ∙ ap (λ (b : Bool). n * one_if b) (none k)
  where
    nothing : (n : ℕ) → n * 0 ≡ 0
    nothing n = grind arith

    none : (k : ℕ) → false ≡ (nat_lt 0 0 && nat_le 0 k)
    none k = grind (arith, nat_tests)
counts-opened k n (suc q) = counts-same k n q ∙ ap (λ (b : Bool). n * one_if b) (behind k q)
  where
    behind : (k q : ℕ) → nat_lt q k ≡ (nat_lt 0 (suc q) && nat_le (suc q) k)
    behind k q = grind (arith, nat_tests)

counts-up_to : (k n q : ℕ) → count_at (all_up_to k n) q ≡ n * count_in (Some (up_to k)) q
counts-up_to k n q =
    none_more (slot_count (0 ∷ replicate k n) q) (count_beyond fin.empty q) (ap count_or_none (fin.get-empty nat_cmp q))
    ∙ counts-opened k n q
    ∙ ap (λ (m : ℕ). n * m) (sym (count-up_to k q))
  where
    none_more : (m z : ℕ) → z ≡ 0 → m + z ≡ m
    none_more m z e = omega (arith, e)

-- counts and tables agree at the opening
pub AreHolders-opening : (seats clauses : ℕ) → AreHolders (replicate seats (Some (up_to clauses))) (all_up_to clauses seats)
AreHolders-opening seats clauses = λ q. counts-up_to clauses seats q ∙ sym (holders-replicate seats (up_to clauses) q)

-- what is bound and given up again
pub put_and_taken : (ts : Tables) (seat own joint : ℕ) → is_here ts seat ≡ true → is_bound ts seat own ≡ false → with_table (λ t. fin.remove t own) (with_table (λ t. fin.insert t own joint) ts seat) seat ≡ ts
put_and_taken ts seat own joint here free = by (table_of ts seat) refl here
  where
    by : (o : Option Table) → table_of ts seat ≡ o → is_here ts seat ≡ true → with_table (λ t. fin.remove t own) (with_table (λ t. fin.insert t own joint) ts seat) seat ≡ ts
    by None e h = no_table ts seat e h
    by (Some t) e h =
        with_table-with_table (λ u. fin.remove u own) (λ u. fin.insert u own joint) ts seat
        ∙ with_table-id (λ u. fin.remove (fin.insert u own joint) own) ts seat t e (remove-insert t own joint (free_in_table ts seat own t e free))
