-- What dies when a seat gives numbers up.
use Rattle.std.proofs.Common.{◌≡◌, ap, refl, sym, ◌∙◌, inl, inr, subst, ℕ, ◌<◌, Bool, cond, true, false, arith}
use Rattle.std.specs.Prelude.{T, List, [], ◌∷◌, map, Option, Some, None, filter, filter_map, not, ◌==◌, ◌||◌, ◌&&◌, is_some, nat_lt}
use Rattle.std.specs.List.{list_any, cons_option, AllByRecursion}
use Rattle.std.specs.List.Sorted.{IsStrictlySortedBy}
use Rattle.std.proofs.lemmas.Bool.{false≢true, or_cases, or_left, or_right, eqb-true}
use Rattle.std.proofs.lemmas.Bool.Decides.{nat_tests}
use Rattle.std.specs.declared.cmp.Ordering.TheVariants.{Less}
use Rattle.std.specs.Ordering.{nat_cmp, eq_by_cmp, is_lt, is_eq}
use Rattle.std.specs.Cmp.{nat_cmp_total, unsigned_tied, tied_itself}
use Rattle.std.specs.FinMap as fin
use Rattle.std.specs.FinMap.{nat_cmp-IsAntisymmetric}
use Rattle.std.specs.FinMap.Entries.{find, is_sorted, below_all, where_key, same_entries, is_sorted-where_key}
use Rattle.lj_clause.proofs.Tests.{both_of, left_of, right_of}
use Rattle.lj_clause.proofs.SortedEntries.{less, none_below}
use Rattle.lj_book.specs.Tables.{Table, Tables, table_of, joint_of, has_holder, is_among, with_table, without_keys}
use Rattle.lj_book.specs.State.{State, live}
use Rattle.lj_book.specs.History.{dead_numbers}
use Rattle.lj_book.specs.inner.Holders.{holders_of, count_in, occurrences}
use Rattle.lj_book.proofs.NumberMaps.{entries-retain_keys}
use Rattle.lj_book.proofs.TableLaws.{held_counts, among_occurs, count-remove, counts_split, holders-with_table, holders_at_least, self_counts, joint_in_table}
use Rattle.lj_book.proofs.HistoryLaws.{IsSound, live-held, among-filter, among_tied, among-died}

-- ---- rising lists

abbrev as_entries : List ℕ → List (ℕ × Unit {0})
as_entries ns = map (λ n. (n, tt)) ns

abbrev pub Rises : List ℕ → Type 0
Rises ns = T (is_sorted nat_cmp (as_entries ns))

below_entries : (x : ℕ) (ns : List ℕ) → AllByRecursion (λ y. nat_cmp x y ≡ Less) ns → T (below_all nat_cmp x (as_entries ns))
below_entries x [] h = tt
below_entries x (n ∷ ns) h = both_of _ _ (less _ h.0) (below_entries x ns h.1)

pub Rises-sorted : (ns : List ℕ) → IsStrictlySortedBy nat_cmp ns → Rises ns
unfolding IsStrictlySortedBy
Rises-sorted [] h = tt
Rises-sorted (n ∷ ns) h = both_of _ _ (below_entries n ns h.0) (Rises-sorted ns h.1)

filter-entries : (p : ℕ → Bool) (ns : List ℕ) → as_entries (filter p ns) ≡ where_key nat_cmp p (as_entries ns)
filter-entries p [] = refl
filter-entries p (n ∷ ns) =
    elim (p n) as (λ b. as_entries (cond b (n ∷ filter p ns) (filter p ns)) ≡ cond b ((n, tt) ∷ where_key nat_cmp p (as_entries ns)) (where_key nat_cmp p (as_entries ns))) [
      | true ↦ ap (λ es. (n, tt) ∷ es) (filter-entries p ns)
      | false ↦ filter-entries p ns
    ]

pub Rises-filter : (p : ℕ → Bool) (ns : List ℕ) → Rises ns → Rises (filter p ns)
Rises-filter p ns h = subst (λ es. T (is_sorted nat_cmp es)) (sym (filter-entries p ns)) (is_sorted-where_key nat_cmp p (as_entries ns) h)

below-keys : {X : Type 0} (x : ℕ) (es : List (ℕ × X)) → below_all nat_cmp x (as_entries (map (λ e. e.0) es)) ≡ below_all nat_cmp x es
below-keys x [] = refl
below-keys x (e ∷ es) = ap (λ b. is_lt (nat_cmp x e.0) && b) (below-keys x es)

pub sorted-keys : {X : Type 0} (es : List (ℕ × X)) → is_sorted nat_cmp (as_entries (map (λ e. e.0) es)) ≡ is_sorted nat_cmp es
sorted-keys [] = refl
sorted-keys (e ∷ es) = λ i. below-keys e.0 es i && sorted-keys es i

pub Rises-keys : {X : Type 0} (m : fin.FinMap nat_cmp X) → Rises (fin.keys m)
Rises-keys m = subst T (sym (sorted-keys (fin.entries m))) (fin.entries_sorted m)

find-entries : (ns : List ℕ) (q : ℕ) → find nat_cmp q (as_entries ns) ≡ cond (list_any (eq_by_cmp nat_cmp q) ns) (Some tt) None
find-entries [] q = refl
find-entries (n ∷ ns) q =
    elim (eq_by_cmp nat_cmp q n) as (λ b. cond b (Some tt) (find nat_cmp q (as_entries ns)) ≡ cond (b || list_any (eq_by_cmp nat_cmp q) ns) (Some tt) None) [
      | true ↦ refl
      | false ↦ find-entries ns q
    ]

keys-entries : (ns : List ℕ) → map (λ (e : ℕ × Unit {0}). e.0) (as_entries ns) ≡ ns
keys-entries [] = refl
keys-entries (n ∷ ns) = ap (λ ms. n ∷ ms) (keys-entries ns)

-- two rising lists of the same numbers are one
pub same_rising : (xs ys : List ℕ) → Rises xs → Rises ys → ((q : ℕ) → is_among xs q ≡ is_among ys q) → xs ≡ ys
same_rising xs ys g h is =
    sym (keys-entries xs)
    ∙ ap (map (λ (e : ℕ × Unit {0}). e.0)) (same_entries nat_cmp nat_cmp_total nat_cmp-IsAntisymmetric (as_entries xs) (as_entries ys) g h (λ q.
    find-entries xs q ∙ ap (λ b. cond b (Some tt) None) (among_tied xs q ∙ is q ∙ sym (among_tied ys q)) ∙ sym (find-entries ys q)))
    ∙ keys-entries ys

-- ---- joint numbers that are bound to some of the numbers

-- an own number that passes the test and is bound to the joint number
record BoundOne (p : ℕ → Bool) (es : List (ℕ × ℕ)) (joint : ℕ) : Type 0 where
  own : ℕ
  passes : p own ≡ true
  bound : find nat_cmp own es ≡ Some joint

later : (p : ℕ → Bool) (e : ℕ × ℕ) (es : List (ℕ × ℕ)) (joint : ℕ) → T (below_all nat_cmp e.0 es) → BoundOne p es joint → BoundOne p (e ∷ es) joint
later p e es joint below one = record {
  own = one.own;
  passes = one.passes;
  bound = elim (eq_by_cmp nat_cmp one.own e.0) as (λ b. eq_by_cmp nat_cmp one.own e.0 ≡ b → cond b (Some e.1) (find nat_cmp one.own es) ≡ Some joint) [
    | true ↦ λ t.
        let is : one.own ≡ e.0 = eqb-true one.own e.0 (sym (unsigned_tied one.own e.0) ∙ t) in
        absurd (false≢true (sym (ap is_some (ap (λ n. find nat_cmp n es) is ∙ none_below e.0 es below)) ∙ ap is_some one.bound))
    | false ↦ λ t. one.bound
  ] refl;
}

bound_one : (p : ℕ → Bool) (es : List (ℕ × ℕ)) (joint : ℕ) → T (is_sorted nat_cmp es) → is_among (map (λ e. e.1) (filter (λ e. p e.0) es)) joint ≡ true → BoundOne p es joint
bound_one p [] joint sorted h = absurd (false≢true h)
bound_one p (e ∷ es) joint sorted h =
    elim (p e.0) as (λ b. p e.0 ≡ b → is_among (map (λ (f : ℕ × ℕ). f.1) (cond b (e ∷ filter (λ f. p f.0) es) (filter (λ f. p f.0) es))) joint ≡ true → BoundOne p (e ∷ es) joint) [
      | true ↦ λ passes g. elim (or_cases (e.1 == joint) (is_among (map (λ (f : ℕ × ℕ). f.1) (filter (λ f. p f.0) es)) joint) g) [
        | inl is ↦ record { own = e.0; passes = passes; bound = ap (λ r. cond (is_eq r) (Some e.1) (find nat_cmp e.0 es)) (tied_itself nat_cmp_total e.0) ∙ ap Some (eqb-true e.1 joint is) }
        | inr there ↦ later p e es joint (left_of _ _ sorted) (bound_one p es joint (right_of _ _ sorted) there)
      ]
      | false ↦ λ fails g. later p e es joint (left_of _ _ sorted) (bound_one p es joint (right_of _ _ sorted) g)
    ] refl h

among_picked : (f : ℕ → Option ℕ) (ns : List ℕ) (own joint : ℕ) → is_among ns own ≡ true → f own ≡ Some joint → is_among (filter_map f ns) joint ≡ true
among_picked f [] own joint h e = absurd (false≢true h)
among_picked f (n ∷ ns) own joint h e =
    elim (or_cases (n == own) (is_among ns own) h) [
      | inl is ↦ ap (λ o. is_among (cons_option o (filter_map f ns)) joint) (ap f (eqb-true n own is) ∙ e) ∙ or_left (joint == joint) (is_among (filter_map f ns) joint) (itself joint)
      | inr there ↦ behind (f n) (filter_map f ns) joint (among_picked f ns own joint there e)
    ]
  where
    itself : (n : ℕ) → (n == n) ≡ true
    itself n = grind (arith, nat_tests)

    behind : (o : Option ℕ) (ms : List ℕ) (q : ℕ) → is_among ms q ≡ true → is_among (cons_option o ms) q ≡ true
    behind None ms q h = h
    behind (Some m) ms q h = or_right (m == q) (is_among ms q) h

bound_has_holder : (ts : Tables) (seat own joint : ℕ) (t : Table) → table_of ts seat ≡ Some t → joint_of ts seat own ≡ Some joint → has_holder ts joint ≡ true
bound_has_holder ts seat own joint t at is =
    let a = count-remove t own joint joint (sym (joint_in_table ts seat own t at) ∙ is) in
    let b = self_counts joint (count_in (Some (fin.remove t own)) joint) in
    let c = holders_at_least ts seat joint t at in
    held_counts ts joint ∙ more _ (omega arith)
  where
    more : (n : ℕ) → 0 < n → nat_lt 0 n ≡ true
    more n h = grind (arith, nat_tests)

picked_has_holder : (ts : Tables) (seat joint : ℕ) (t : Table) (ns : List ℕ) → table_of ts seat ≡ Some t → is_among (filter_map (joint_of ts seat) ns) joint ≡ true → has_holder ts joint ≡ true
picked_has_holder ts seat joint t [] at h = absurd (false≢true h)
picked_has_holder ts seat joint t (n ∷ ns) at h =
    elim (joint_of ts seat n) as (λ o. joint_of ts seat n ≡ o → is_among (cons_option o (filter_map (joint_of ts seat) ns)) joint ≡ true → has_holder ts joint ≡ true) [
      | None ↦ λ e g. picked_has_holder ts seat joint t ns at g
      | Some m ↦ λ e g. elim (or_cases (m == joint) (is_among (filter_map (joint_of ts seat) ns) joint) g) [
        | inl is ↦ bound_has_holder ts seat n joint t at (e ∙ ap Some (eqb-true m joint is))
        | inr there ↦ picked_has_holder ts seat joint t ns at there
      ]
    ] refl h

not_not : (b : Bool) → not (not b) ≡ true → b ≡ true
not_not true h = refl
not_not false h = absurd (false≢true h)

positive : (n : ℕ) → nat_lt 0 n ≡ true → 0 < n
positive n h = grind (arith, nat_tests)

nothing : (n : ℕ) → nat_lt 0 n ≡ false → n ≡ 0
nothing n h = grind (arith, nat_tests)

-- what was held and no longer is, was bound to one of the numbers that were given up
lost_was_picked : (ts : Tables) (seat joint : ℕ) (t : Table) (ns : List ℕ) → table_of ts seat ≡ Some t → has_holder ts joint ≡ true → has_holder (with_table (without_keys ns) ts seat) joint ≡ false → is_among (filter_map (joint_of ts seat) ns) joint ≡ true
lost_was_picked ts seat joint t ns at held gone =
    let p = λ (own : ℕ). not (is_among ns own) in
    let a = holders-with_table (without_keys ns) ts seat t joint at in
    let b = positive (holders_of ts joint) (sym (held_counts ts joint) ∙ held) in
    let c = nothing (holders_of (with_table (without_keys ns) ts seat) joint) (sym (held_counts (with_table (without_keys ns) ts seat) joint) ∙ gone) in
    let split = counts_split p (fin.entries t) joint in
    let kept : count_in (Some (without_keys ns t)) joint ≡ occurrences (map (λ e. e.1) (filter (λ e. p e.0) (fin.entries t))) joint = ap (λ es. occurrences (map (λ (e : ℕ × ℕ). e.1) es) joint) (entries-retain_keys t p) in
    let some : 0 < occurrences (map (λ e. e.1) (filter (λ e. not (p e.0)) (fin.entries t))) joint = omega arith in
    let one = bound_one (λ own. not (p own)) (fin.entries t) joint (fin.entries_sorted t) (among_occurs _ joint ∙ more _ some) in
    among_picked (joint_of ts seat) ns one.own joint (not_not (is_among ns one.own) one.passes) (joint_in_table ts seat one.own t at ∙ fin.get-entries t one.own ∙ one.bound)
  where
    more : (n : ℕ) → 0 < n → nat_lt 0 n ≡ true
    more n h = grind (arith, nat_tests)

-- the numbers that died are those that were bound to one of the numbers and aren't held any more
pub died_are : (s : State) (seat : ℕ) (t : Table) (ns rising : List ℕ) → IsSound s → table_of s.tables seat ≡ Some t → IsStrictlySortedBy nat_cmp rising → ((q : ℕ) → is_among rising q ≡ is_among (filter_map (joint_of s.tables seat) ns) q) → filter (λ n. not (has_holder (with_table (without_keys ns) s.tables seat) n)) rising ≡ dead_numbers s (with_table (without_keys ns) s.tables seat)
died_are s seat t ns rising sound at sorted same =
    let ts = with_table (without_keys ns) s.tables seat in
    let p = λ (n : ℕ). not (has_holder ts n) in
    same_rising (filter p rising) (dead_numbers s ts) (Rises-filter p rising (Rises-sorted rising sorted)) (Rises-filter p (fin.keys (live s)) (Rises-keys (live s))) (λ q.
    among-filter p rising q
    ∙ ap (λ b. p q && b) (same q)
    ∙ agree (has_holder ts q) (is_among (filter_map (joint_of s.tables seat) ns) q) (has_holder s.tables q) (picked_has_holder s.tables seat q t ns at) (λ held gone. lost_was_picked s.tables seat q t ns at held gone)
    ∙ ap (λ b. p q && b) (sym (live-held s sound q))
    ∙ sym (among-died s ts q))
  where
    agree : (now picked before : Bool) → (picked ≡ true → before ≡ true) → (before ≡ true → now ≡ false → picked ≡ true) → (not now && picked) ≡ (not now && before)
    agree true picked before f g = refl
    agree false true before f g = sym (f refl)
    agree false false true f g = absurd (false≢true (g refl refl))
    agree false false false f g = refl
