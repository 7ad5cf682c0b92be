-- Clauses whose literals stand in one list, which grows while places come and go.
use Rattle.std.proofs.Common.{◌≡◌, ap, refl, sym, ◌∙◌, ℕ, ◌+◌, ◌-◌, ◌≤◌, Bool, cond, true, false, arith, subst, append_assoc, length-append}
use Rattle.std.specs.Prelude.{T, ℤ, List, [], ◌∷◌, ◌++◌, map, length, take, drop, Option, Some, None, option_map, is_some, ◌&&◌, nat_le, nat_lt}
use Rattle.std.proofs.lemmas.Bool.{false≢true}
use Rattle.std.proofs.lemmas.Bool.Decides.{nat_tests}
use Rattle.std.proofs.lemmas.List.{append-nil, drop-append-le, take-append-le, length-drop}
use Rattle.std.proofs.Math.Seq.{drop-append_seam, take-append_seam}
use Rattle.std.specs.List.{AllByRecursion}
use Rattle.std.specs.List.Sorted.{IsStrictlySortedBy}
use Rattle.std.specs.declared.cmp.Ordering.{Ordering}
use Rattle.std.specs.declared.cmp.Ordering.TheVariants.{Less, Equal, Greater}
use Rattle.std.specs.Ordering.{nat_cmp, eq_by_cmp, is_lt}
use Rattle.std.specs.Cmp.{nat_cmp_total}
use Rattle.std.specs.FinMap as fin
use Rattle.std.specs.FinMap.Entries.{is_sorted, below_all}
use Rattle.lj_clause.specs.Literal.{lit_cmp}
use Rattle.lj_clause.specs.LiteralSet.{LiteralSet, literals, from_literals}
use Rattle.lj_clause.specs.Lemma.{LemmaValue}
use Rattle.lj_clause.specs.ClauseMap.{ClauseMap, FormulaValue, formula_map, IsFormula}
use Rattle.lj_book.specs.declared.lit_range.LitRange.{LitRange}
use Rattle.lj_book.specs.inner.Records.{some_lits, lemma_lits, pivot_before}
use Rattle.lj_book.specs.inner.Occurrences.{Lists, AreListed, AreIndexed}
use Rattle.lj_book.specs.declared.first_uses.FirstUses.{FirstUses}
use Rattle.lj_book.specs.inner.FirstUses.{AreFirstUses}
use Rattle.lj_book.proofs.FirstUseLaws.{uses_opening}
use Rattle.lj_book.specs.inner.Ranges.{Ranges, clause_in, stored, IsRange, AreRanges, pivots, AreRecorded}
use Rattle.lj_book.proofs.NumberMaps.{same_map}
use Rattle.lj_book.proofs.Mapped.{get_mapped, mapped_empty, mapped_insert, mapped_remove}
use Rattle.lj_book.proofs.HistoryLaws.{past_the_end}
use Rattle.lj_book.proofs.OccurrenceLaws.{Indexed-insert}
use Rattle.lj_book.proofs.RecordLaws.{clause_back}

-- ---- what stands under a number

pub get_placed : (lits : List ℤ) (m : Ranges) (q : ℕ) → fin.get (stored lits m) q ≡ option_map (clause_in lits) (fin.get m q)
get_placed lits m q = get_mapped (clause_in lits) m q

pub found_placed : (lits : List ℤ) (m : Ranges) (q : ℕ) (p : LitRange) → fin.get m q ≡ Some p → Some (clause_in lits p) ≡ fin.get (stored lits m) q
found_placed lits m q p e = sym (get_placed lits m q ∙ ap (option_map (clause_in lits)) e)

pub none_placed : (lits : List ℤ) (m : Ranges) (q : ℕ) → fin.get m q ≡ None → None ≡ fin.get (stored lits m) q
none_placed lits m q e = sym (get_placed lits m q ∙ ap (option_map (clause_in lits)) e)

pub key_placed : (lits : List ℤ) (m : Ranges) (q : ℕ) → fin.contains_key m q ≡ fin.contains_key (stored lits m) q
key_placed lits m q = by (fin.get m q) ∙ ap is_some (sym (get_placed lits m q))
  where
    by : (o : Option LitRange) → is_some o ≡ is_some (option_map (clause_in lits) o)
    by None = refl
    by (Some p) = refl

pub placed_empty : (lits : List ℤ) (m : Ranges) → m ≡ fin.empty → stored lits m ≡ fin.empty
placed_empty lits m is = mapped_empty (clause_in lits) m is

pub placed_insert : (lits : List ℤ) (m : Ranges) (k : ℕ) (p : LitRange) → stored lits (fin.insert m k p) ≡ fin.insert (stored lits m) k (clause_in lits p)
placed_insert lits m k p = mapped_insert (clause_in lits) m k p

pub placed_remove : (lits : List ℤ) (m : Ranges) (k : ℕ) → stored lits (fin.remove m k) ≡ fin.remove (stored lits m) k
placed_remove lits m k = mapped_remove (clause_in lits) m k

-- ---- more literals behind the others

pub part_stays : (lits more : List ℤ) (p : LitRange) → p.start + p.count ≤ length lits → some_lits (lits ++ more) p.start p.count ≡ some_lits lits p.start p.count
part_stays lits more p within =
    let start : p.start ≤ length lits = omega (arith, within) in
    let n : length (drop p.start lits) ≡ length lits - p.start = length-drop p.start lits in
    let count : p.count ≤ length (drop p.start lits) = omega (arith, within, n) in
    ap (take p.count) (drop-append-le p.start lits more start)
    ∙ take-append-le p.count (drop p.start lits) more count

pub place_stays : (lits more : List ℤ) (p : LitRange) → IsRange lits p → IsRange (lits ++ more) p
place_stays lits more p is = record {
  within = let n : length (lits ++ more) ≡ length lits + length more = length-append lits more in omega (arith, is.within);
  rising = subst (λ (ls : List ℤ). IsStrictlySortedBy lit_cmp ls) (sym (part_stays lits more p is.within)) is.rising;
}

pub places_stay : (lits more : List ℤ) (m : Ranges) → AreRanges lits m → AreRanges (lits ++ more) m
places_stay lits more m are q p e = place_stays lits more p (are q p e)

pub placed_stays : (lits more : List ℤ) (m : Ranges) → AreRanges lits m → stored (lits ++ more) m ≡ stored lits m
placed_stays lits more m are = same_map _ _ (λ q. get_placed (lits ++ more) m q ∙ at q (fin.get m q) refl ∙ sym (get_placed lits m q))
  where
    at : (q : ℕ) (o : Option LitRange) → fin.get m q ≡ o → option_map (clause_in (lits ++ more)) (fin.get m q) ≡ option_map (clause_in lits) (fin.get m q)
    at q None e = ap (option_map (clause_in (lits ++ more))) e ∙ sym (ap (option_map (clause_in lits)) e)
    at q (Some p) e =
        ap (option_map (clause_in (lits ++ more))) e
        ∙ ap (λ (ls : List ℤ). Some (from_literals ls)) (part_stays lits more p (are q p e).within)
        ∙ sym (ap (option_map (clause_in lits)) e)

-- ---- places that come and go

some_is : {A : Type 0} (x y z : A) → Some x ≡ Some y → x ≡ y
some_is x y z e = ap (out z) e
  where
    out : {A : Type 0} → A → Option A → A
    out z None = z
    out z (Some y) = y

pub places_insert : (lits : List ℤ) (m : Ranges) (k : ℕ) (p : LitRange) → AreRanges lits m → IsRange lits p → AreRanges lits (fin.insert m k p)
places_insert lits m k p are is q r e = by (eq_by_cmp nat_cmp q k) (sym (fin.get-insert nat_cmp_total m k p q) ∙ e)
  where
    by : (b : Bool) → cond b (Some p) (fin.get m q) ≡ Some r → IsRange lits r
    by true h = subst (IsRange lits) (some_is p r p h) is
    by false h = are q r h

pub places_remove : (lits : List ℤ) (m : Ranges) (k : ℕ) → AreRanges lits m → AreRanges lits (fin.remove m k)
places_remove lits m k are q r e = by (eq_by_cmp nat_cmp q k) (sym (fin.get-remove nat_cmp_total m k q) ∙ e)
  where
    none : {A : Type 0} (x : A) → None ≡ Some x → ⊥
    none x h = false≢true (ap is_there h)
      where
        is_there : {A : Type 0} → Option A → Bool
        is_there None = false
        is_there (Some y) = true

    by : (b : Bool) → cond b None (fin.get m q) ≡ Some r → IsRange lits r
    by true h = absurd (none r h)
    by false h = are q r h

pub places_empty : (lits : List ℤ) (m : Ranges) → m ≡ fin.empty → AreRanges lits m
places_empty lits m is q p e = absurd (none p (sym (fin.get-empty nat_cmp q) ∙ ap (λ (n : Ranges). fin.get n q) (sym is) ∙ e))
  where
    none : {A : Type 0} (x : A) → None ≡ Some x → ⊥
    none x h = false≢true (ap is_there h)
      where
        is_there : {A : Type 0} → Option A → Bool
        is_there None = false
        is_there (Some y) = true

-- ---- a clause behind the others

less_from : (r : Ordering) → T (is_lt r) → r ≡ Less
less_from Less h = refl
less_from Equal h = absurd h
less_from Greater h = absurd h

halves : (a b : Bool) → T (a && b) → T a × T b
halves true b h = (tt, h)
halves false b h = absurd h

above : (x : ℤ) (es : List (ℤ × Unit {0})) → T (below_all lit_cmp x es) → AllByRecursion (λ y. lit_cmp x y ≡ Less) (map (λ e. e.0) es)
above x [] h = tt
above x (e ∷ es) h = let both = halves (is_lt (lit_cmp x e.0)) (below_all lit_cmp x es) h in (less_from (lit_cmp x e.0) both.0, above x es both.1)

rise : (es : List (ℤ × Unit {0})) → T (is_sorted lit_cmp es) → IsStrictlySortedBy lit_cmp (map (λ e. e.0) es)
unfolding IsStrictlySortedBy
rise [] h = tt
rise (e ∷ es) h = let both = halves (below_all lit_cmp e.0 es) (is_sorted lit_cmp es) h in (above e.0 es both.0, rise es both.1)

-- the literals of a set rise
pub literals_rise : (c : LiteralSet) → IsStrictlySortedBy lit_cmp (literals c)
literals_rise c = rise (fin.entries c) (fin.entries_sorted c)

take_whole : (ls : List ℤ) → take (length ls) ls ≡ ls
take_whole ls = ap (take (length ls)) (sym (append-nil ls)) ∙ take-append_seam ls []

-- the literals of a list that is put behind others
pub part_behind : (lits ls : List ℤ) (p : LitRange) → p.start ≡ length lits → p.count ≡ length ls → some_lits (lits ++ ls) p.start p.count ≡ ls
part_behind lits ls p start count =
    (λ i. take (count i) (drop (start i) (lits ++ ls)))
    ∙ ap (take (length ls)) (drop-append_seam lits ls)
    ∙ take_whole ls

-- the literals of a lemma's clause, once the lemma is put behind others
pub lemma_part : (lits : List ℤ) (pivot : Option ℤ) (ls : List ℤ) (p : LitRange) → p.start ≡ length lits + pivots pivot → p.count ≡ length ls → some_lits (lits ++ pivot_before pivot ls) p.start p.count ≡ ls
lemma_part lits None ls p start count = part_behind lits ls p (let n : p.start ≡ length lits + 0 = start in omega (arith, n)) count
lemma_part lits (Some x) ls p start count =
    let n : length (lits ++ x ∷ []) ≡ length lits + 1 = length-append lits (x ∷ []) in
    let at : p.start ≡ length (lits ++ x ∷ []) = start ∙ sym n in
    ap (λ (xs : List ℤ). some_lits xs p.start p.count) (sym (append_assoc lits (x ∷ []) ls))
    ∙ part_behind (lits ++ x ∷ []) ls p at count

lemma_length : (pivot : Option ℤ) (ls : List ℤ) → length (pivot_before pivot ls) ≡ pivots pivot + length ls
lemma_length None ls = omega arith
lemma_length (Some x) ls = omega arith

pub lemma_place : (lits : List ℤ) (lemma : LemmaValue) (p : LitRange) → p.start ≡ length lits + pivots lemma.pivot → p.count ≡ length (literals lemma.clause) → IsRange (lits ++ lemma_lits lemma) p
lemma_place lits lemma p start count = record {
  within =
      let n : length (lits ++ lemma_lits lemma) ≡ length lits + length (lemma_lits lemma) = length-append lits (lemma_lits lemma) in
      let m : length (lemma_lits lemma) ≡ pivots lemma.pivot + length (literals lemma.clause) = lemma_length lemma.pivot (literals lemma.clause) in
      omega (arith, start, count, n, m);
  rising = subst (λ (ls : List ℤ). IsStrictlySortedBy lit_cmp ls) (sym (lemma_part lits lemma.pivot (literals lemma.clause) p start count)) (literals_rise lemma.clause);
}

pub lemma_clause : (lits : List ℤ) (lemma : LemmaValue) (p : LitRange) → p.start ≡ length lits + pivots lemma.pivot → p.count ≡ length (literals lemma.clause) → clause_in (lits ++ lemma_lits lemma) p ≡ lemma.clause
lemma_clause lits lemma p start count = ap from_literals (lemma_part lits lemma.pivot (literals lemma.clause) p start count) ∙ clause_back lemma.clause

-- the live clauses once a lemma is put behind the others and has its place
pub placed_lemma : (lits : List ℤ) (m : Ranges) (lemma : LemmaValue) (k : ℕ) (p : LitRange) → AreRanges lits m → p.start ≡ length lits + pivots lemma.pivot → p.count ≡ length (literals lemma.clause) → stored (lits ++ lemma_lits lemma) (fin.insert m k p) ≡ fin.insert (stored lits m) k lemma.clause
placed_lemma lits m lemma k p are start count =
    placed_insert (lits ++ lemma_lits lemma) m k p
    ∙ (λ i. fin.insert (placed_stays lits (lemma_lits lemma) m are i) k (lemma_clause lits lemma p start count i))

pub places_lemma : (lits : List ℤ) (m : Ranges) (lemma : LemmaValue) (k : ℕ) (p : LitRange) → AreRanges lits m → p.start ≡ length lits + pivots lemma.pivot → p.count ≡ length (literals lemma.clause) → AreRanges (lits ++ lemma_lits lemma) (fin.insert m k p)
places_lemma lits m lemma k p are start count = places_insert (lits ++ lemma_lits lemma) m k p (places_stay lits (lemma_lits lemma) m are) (lemma_place lits lemma p start count)

abbrev alone : LiteralSet → LemmaValue
alone c = record { clause = c; pivot = None }

plus_none : (n : ℕ) → n ≡ n + 0
plus_none n = omega arith

-- the same of a clause alone
pub placed_clause : (lits : List ℤ) (m : Ranges) (c : LiteralSet) (k : ℕ) (p : LitRange) → AreRanges lits m → p.start ≡ length lits → p.count ≡ length (literals c) → stored (lits ++ literals c) (fin.insert m k p) ≡ fin.insert (stored lits m) k c
placed_clause lits m c k p are start count = placed_lemma lits m (alone c) k p are (start ∙ plus_none (length lits)) count

pub places_clause : (lits : List ℤ) (m : Ranges) (c : LiteralSet) (k : ℕ) (p : LitRange) → AreRanges lits m → p.start ≡ length lits → p.count ≡ length (literals c) → AreRanges (lits ++ literals c) (fin.insert m k p)
places_clause lits m c k p are start count = places_lemma lits m (alone c) k p are (start ∙ plus_none (length lits)) count

-- ---- all that a ledger keeps

pub Recorded-stays : (lits more : List ℤ) (m : Ranges) (lists : Option Lists) (uses : FirstUses) (last : ℕ) → AreRecorded lits m lists uses last → AreRecorded (lits ++ more) m lists uses last
Recorded-stays lits more m lists uses last are = record {
  ranges_are = places_stay lits more m are.ranges_are;
  used = subst (λ (p : ClauseMap). AreFirstUses p last uses) (sym (placed_stays lits more m are.ranges_are)) are.used;
  indexed = subst (λ (p : ClauseMap). AreIndexed lists p last) (sym (placed_stays lits more m are.ranges_are)) are.indexed;
}

formula_key : (f : FormulaValue) (q : ℕ) → fin.contains_key (formula_map f) q ≡ true → q ≤ length f.clauses
formula_key f q there = by (nat_le q (length f.clauses)) refl
  where
    within : (q n : ℕ) → nat_le q n ≡ true → q ≤ n
    within q n e = grind (arith, nat_tests)

    beyond : (q n : ℕ) → nat_le q n ≡ false → (nat_lt 0 q && nat_le q n) ≡ false
    beyond q n e = grind (arith, nat_tests)

    by : (b : Bool) → nat_le q (length f.clauses) ≡ b → q ≤ length f.clauses
    by true e = within q (length f.clauses) e
    by false e = absurd (false≢true (ap is_some (sym (past_the_end f q (beyond q (length f.clauses) e))) ∙ there))

-- at first there are the clauses of the formula
pub Recorded-opening : (lits : List ℤ) (m : Ranges) (f : FormulaValue) (uses : FirstUses) (last : ℕ) → AreRanges lits m → stored lits m ≡ formula_map f → last ≡ length f.clauses → IsFormula f → uses.top ≡ f.variables → uses.list.items ≡ [] → AreRecorded lits m None uses last
Recorded-opening lits m f uses last are is n formula top none = record {
  ranges_are = are;
  used = subst (λ (p : ClauseMap). AreFirstUses p last uses) (sym is) (uses_opening f last uses formula top none);
  indexed = record {
    given = λ q there. let le : q ≤ length f.clauses = formula_key f q (ap (λ (p : ClauseMap). fin.contains_key p q) (sym is) ∙ there) in omega (arith, le, n);
    listed = tt;
  };
}

-- a lemma is put behind the others, and has its place and its number in the lists
pub Recorded-add : (lits : List ℤ) (m : Ranges) (before after : Option Lists) (old uses : FirstUses) (lemma : LemmaValue) (k last next : ℕ) (p : LitRange) → AreRecorded lits m before old last → AreFirstUses (fin.insert (stored lits m) k lemma.clause) next uses → p.start ≡ length lits + pivots lemma.pivot → p.count ≡ length (literals lemma.clause) → AreListed after (fin.insert (stored lits m) k lemma.clause) (k + 1) → last ≤ next → k ≤ next → AreRecorded (lits ++ lemma_lits lemma) (fin.insert m k p) after uses next
Recorded-add lits m before after old uses lemma k last next p are used start count listed le ke = record {
  ranges_are = places_lemma lits m lemma k p are.ranges_are start count;
  used = subst (λ (q : ClauseMap). AreFirstUses q next uses) (sym (placed_lemma lits m lemma k p are.ranges_are start count)) used;
  indexed = Indexed-insert before after (stored lits m) _ last next k lemma.clause are.indexed (placed_lemma lits m lemma k p are.ranges_are start count) listed le ke;
}
