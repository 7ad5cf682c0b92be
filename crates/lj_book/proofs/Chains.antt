-- Lists that are kept as chains of links.
use Rattle.std.proofs.Common.{◌≡◌, ap, refl, sym, ◌∙◌, subst, ℕ, zero, suc, ◌+◌, ◌-◌, ◌<◌, ◌≤◌, Bool, cond, true, false, arith, get_or}
use Rattle.std.specs.Prelude.{List, [], ◌∷◌, ◌++◌, length, reverse, filter, take, Option, Some, None, option_map, is_some, ◌==◌, ◌&&◌, slice_get}
use Rattle.std.proofs.lemmas.Bool.{false≢true}
use Rattle.std.proofs.lemmas.Bool.Decides.{nat_tests}
use Rattle.std.specs.Option.{option_or}
use Rattle.std.proofs.lemmas.List.{get_or_default, reverse-append, append_assoc, append-nil, length-append, take_more}
use Rattle.std.proofs.lemmas.List.Elements.{filter-append}
use Rattle.std.proofs.Math.ListN.{get_or-append}
use Rattle.std.proofs.Math.Seq.{get_or-append_seam}
use Rattle.std.specs.Ordering.{nat_cmp, eq_by_cmp}
use Rattle.std.specs.Cmp.{nat_cmp_total, unsigned_tied, second_so}
use Rattle.std.specs.List.Sorted.{IsStrictlySortedBy}
use Rattle.std.proofs.lemmas.List.Kept.{IsStrictlySortedBy-filter}
use Rattle.std.specs.FinMap as fin
use Rattle.lj_book.specs.declared.occurrence_lists.Link.{Link}
use Rattle.lj_clause.specs.LiteralSet.{LiteralSet}
use Rattle.lj_clause.specs.ClauseMap.{ClauseMap}
use Rattle.lj_book.specs.Tables.{is_among}
use Rattle.lj_book.specs.inner.Occurrences.{Lists, list_or_empty, list_at, with_number, AreOccurrences}
use Rattle.lj_book.specs.inner.Chains.{chain_within, chain, Lasts, link_or_none, last_at, chained, with_list, AreLinked, AreChains}
use Rattle.lj_book.proofs.NumberMaps.{same_map}
use Rattle.lj_book.proofs.Mapped.{get_mapped, mapped_empty, mapped_remove}
use Rattle.lj_book.proofs.OccurrenceLaws.{list-insert, list_swept}
use Rattle.lj_book.proofs.HistoryLaws.{among-filter}

no_link : Link
no_link = record { number = 0; before = 0 }

-- ---- one link after another

counted : (links : List Link) → AreLinked links → (n count at : ℕ) → count ≤ n → at ≤ count → at ≤ length links → chain_within count links at ≡ chain_within at links at
counted links linked n zero zero m c l = refl
counted links linked n zero (suc at) m c l = absurd (omega (arith, c))
counted links linked n (suc count) zero m c l = refl
counted links linked zero (suc count) (suc at) m c l = absurd (omega (arith, m))
counted links linked (suc n) (suc count) (suc at) m c l =
    let link : Link = get_or links at (record { number = 0; before = 0 }) in
    let before : link.before ≤ at = linked at (record { number = 0; before = 0 }) (omega (arith, l)) in
    ap (λ (ns : List ℕ). ns ++ link.number ∷ [])
    (counted links linked n count link.before (omega (arith, m)) (omega (arith, c, before)) (omega (arith, l, before))
    ∙ sym (counted links linked n at link.before (omega (arith, m, c)) before (omega (arith, l, before))))

step_at : (links : List Link) (at i : ℕ) (d : Link) → AreLinked links → i ≡ at → suc at ≤ length links → chain links (suc at) ≡ chain links (get_or links i d).before ++ (get_or links i d).number ∷ []
step_at links at i d linked is l =
    let link : Link = get_or links at (record { number = 0; before = 0 }) in
    let before : link.before ≤ at = linked at (record { number = 0; before = 0 }) (omega (arith, l)) in
    ap (λ (ns : List ℕ). ns ++ link.number ∷ []) (counted links linked at at link.before (omega arith) before (omega (arith, l, before)))
    ∙ ap (λ (x : Link). chain links x.before ++ x.number ∷ []) (get_or_default links at (record { number = 0; before = 0 }) d (omega (arith, l)))
    ∙ ap (λ (j : ℕ). chain links (get_or links j d).before ++ (get_or links j d).number ∷ []) (sym is)

-- the numbers of a link and of those before it
pub chain_step : (links : List Link) (at : ℕ) (d : Link) → AreLinked links → 0 < at → at ≤ length links → chain links at ≡ chain links (get_or links (at - 1) d).before ++ (get_or links (at - 1) d).number ∷ []
chain_step links zero d linked some l = absurd (omega (arith, some))
chain_step links (suc at) d linked some l = step_at links at (suc at - 1) d linked (grind arith) l

-- a link names an earlier one
pub before_less : (links : List Link) (at : ℕ) (d : Link) → AreLinked links → 0 < at → at ≤ length links → (get_or links (at - 1) d).before < at
before_less links at d linked some l = let b = linked (at - 1) d (omega (arith, some, l)) in omega (arith, b, some)

stays_within : (links more : List Link) → AreLinked links → (count at : ℕ) → at ≤ length links → chain_within count (links ++ more) at ≡ chain_within count links at
stays_within links more linked zero at l = refl
stays_within links more linked (suc count) zero l = refl
stays_within links more linked (suc count) (suc at) l =
    let link : Link = get_or links at (record { number = 0; before = 0 }) in
    let before : link.before ≤ at = linked at (record { number = 0; before = 0 }) (omega (arith, l)) in
    ap (λ (x : Link). chain_within count (links ++ more) x.before ++ x.number ∷ []) (get_or-append links more (record { number = 0; before = 0 }) at (omega (arith, l)))
    ∙ ap (λ (ns : List ℕ). ns ++ link.number ∷ []) (stays_within links more linked count link.before (omega (arith, l, before)))

chain_stays : (links more : List Link) (at : ℕ) → AreLinked links → at ≤ length links → chain (links ++ more) at ≡ chain links at
chain_stays links more at linked l = stays_within links more linked at at l

-- ---- the lists that chains make

pub list_chained : (links : List Link) (lasts : Lasts) (k : ℕ) → list_at (chained links lasts) k ≡ chain links (last_at lasts k)
list_chained links lasts k = ap list_or_empty (get_mapped (chain links) lasts k) ∙ by (fin.get lasts k)
  where
    by : (o : Option ℕ) → list_or_empty (option_map (chain links) o) ≡ chain links (link_or_none o)
    by None = refl
    by (Some at) = refl

pub last_there : (links : List Link) (lasts : Lasts) (k : ℕ) → AreChains links lasts → last_at lasts k ≤ length links
last_there links lasts k are = by (fin.get lasts k) refl
  where
    by : (o : Option ℕ) → fin.get lasts k ≡ o → link_or_none o ≤ length links
    by None e = omega arith
    by (Some at) e = are.there k at e

pub no_chains : (links : List Link) (lasts : Lasts) → links ≡ [] → lasts ≡ fin.empty → AreChains links lasts
no_chains links lasts none empty = record {
  linked = λ i d lt. absurd (let n : length links ≡ 0 = ap (λ (xs : List Link). length xs) none in omega (arith, lt, n));
  there = λ k at e. absurd (false≢true (ap is_some (sym (fin.get-empty nat_cmp k) ∙ ap (λ (m : Lasts). fin.get m k) (sym empty) ∙ e)));
}

pub none_chained : (links : List Link) (lasts : Lasts) → lasts ≡ fin.empty → chained links lasts ≡ fin.empty
none_chained links lasts is = mapped_empty (chain links) lasts is

-- ---- one link more

linked_more : (links : List Link) (link : Link) → AreLinked links → link.before ≤ length links → AreLinked (links ++ link ∷ [])
linked_more links link linked b i d lt =
    let n : length (links ++ link ∷ []) ≡ length links + 1 = length-append links (link ∷ []) in
    elim (i == length links) as (λ t. (i == length links) ≡ t → (get_or (links ++ link ∷ []) i d).before ≤ i) [
      | true ↦ λ e.
          let is : i ≡ length links = grind (arith, nat_tests) in
          subst (λ (j : ℕ). (get_or (links ++ link ∷ []) j d).before ≤ j) (sym is)
          (subst (λ (x : Link). x.before ≤ length links) (sym (get_or-append_seam links link [] d)) b)
      | false ↦ λ e.
          let less : i < length links = grind (arith, nat_tests) in
          subst (λ (x : Link). x.before ≤ i) (sym (get_or-append links (link ∷ []) d i less)) (linked i d less)
    ] refl

pub chains_pushed : (links : List Link) (link : Link) (lasts : Lasts) → AreChains links lasts → link.before ≤ length links → AreChains (links ++ link ∷ []) lasts
chains_pushed links link lasts are b = record {
  linked = linked_more links link are.linked b;
  there = λ k at e. let n : length (links ++ link ∷ []) ≡ length links + 1 = length-append links (link ∷ []) in let l = are.there k at e in omega (arith, n, l);
}

some_equal : {X : Type 0} {x y : X} → Some x ≡ Some y → x ≡ y
some_equal e = cc

pub chains_set : (links : List Link) (lasts : Lasts) (k last : ℕ) → AreChains links lasts → last ≤ length links → AreChains links (fin.insert lasts k last)
chains_set links lasts k last are l = record {
  linked = are.linked;
  there = λ q at e. elim (eq_by_cmp nat_cmp q k) as (λ b. cond b (Some last) (fin.get lasts q) ≡ Some at → at ≤ length links) [
    | true ↦ λ h. let same : last ≡ at = some_equal h in omega (arith, l, same)
    | false ↦ λ h. are.there q at h
  ] (sym (fin.get-insert nat_cmp_total lasts k last q) ∙ e);
}

pub chains_unset : (links : List Link) (lasts : Lasts) (k : ℕ) → AreChains links lasts → AreChains links (fin.remove lasts k)
chains_unset links lasts k are = record {
  linked = are.linked;
  there = λ q at e. elim (eq_by_cmp nat_cmp q k) as (λ b. cond b None (fin.get lasts q) ≡ Some at → at ≤ length links) [
    | true ↦ λ h. absurd (false≢true (ap is_some h))
    | false ↦ λ h. are.there q at h
  ] (sym (fin.get-remove nat_cmp_total lasts k q) ∙ e);
}

-- a list with a number more, whose link is the last of all
pub number_linked : (links : List Link) (lasts : Lasts) (k : ℕ) (link : Link) → AreChains links lasts → link.before ≡ last_at lasts k → chained (links ++ link ∷ []) (fin.insert lasts k (length links + 1)) ≡ with_number (chained links lasts) k link.number
number_linked links lasts k link are is = same_map _ _ (λ q.
    get_mapped (chain more) (fin.insert lasts k (length links + 1)) q
    ∙ ap (option_map (chain more)) (fin.get-insert nat_cmp_total lasts k (length links + 1) q)
    ∙ by q (eq_by_cmp nat_cmp q k) (fin.get lasts q) refl
    ∙ ap (cond (eq_by_cmp nat_cmp q k) (Some (list_at (chained links lasts) k ++ link.number ∷ []))) (sym (get_mapped (chain links) lasts q))
    ∙ sym (fin.get-insert nat_cmp_total (chained links lasts) k (list_at (chained links lasts) k ++ link.number ∷ []) q))
  where
    more : List Link
    more = links ++ link ∷ []

    n : length more ≡ length links + 1
    n = length-append links (link ∷ [])

    there : last_at lasts k ≤ length links
    there = last_there links lasts k are

    found : get_or more (length links + 1 - 1) no_link ≡ link
    found = ap (λ (i : ℕ). get_or more i no_link) (grind arith) ∙ get_or-append_seam links link [] no_link

    last : chain more (length links + 1) ≡ list_at (chained links lasts) k ++ link.number ∷ []
    last =
        chain_step more (length links + 1) no_link (linked_more links link are.linked (subst (λ (x : ℕ). x ≤ length links) (sym is) there)) (omega arith) (omega (arith, n))
        ∙ ap (λ (x : Link). chain more x.before ++ x.number ∷ []) found
        ∙ ap (λ (x : ℕ). chain more x ++ link.number ∷ []) is
        ∙ ap (λ (ns : List ℕ). ns ++ link.number ∷ []) (chain_stays links (link ∷ []) (last_at lasts k) are.linked there ∙ sym (list_chained links lasts k))

    others : (q : ℕ) (o : Option ℕ) → fin.get lasts q ≡ o → option_map (chain more) o ≡ option_map (chain links) o
    others q None e = refl
    others q (Some at) e = ap Some (chain_stays links (link ∷ []) at are.linked (are.there q at e))

    by : (q : ℕ) (b : Bool) (o : Option ℕ) → fin.get lasts q ≡ o → option_map (chain more) (cond b (Some (length links + 1)) o) ≡ cond b (Some (list_at (chained links lasts) k ++ link.number ∷ [])) (option_map (chain links) o)
    by q true o e = ap Some last
    by q false o e = others q o e

-- ---- a chain that is followed from its last link

-- what was found in the links that were followed, before one more
pub found_more : (test : ℕ → Bool) (links : List Link) (at : ℕ) (d : Link) (found all : List ℕ) → AreLinked links → 0 < at → at ≤ length links → filter test (chain links at) ++ reverse found ≡ all → test (get_or links (at - 1) d).number ≡ true → filter test (chain links (get_or links (at - 1) d).before) ++ reverse (found ++ (get_or links (at - 1) d).number ∷ []) ≡ all
found_more test links at d found all linked some l is passes =
    let link : Link = get_or links (at - 1) d in
    ap (λ (ns : List ℕ). filter test (chain links link.before) ++ ns) (reverse-append found (link.number ∷ []))
    ∙ sym (append_assoc (filter test (chain links link.before)) (link.number ∷ []) (reverse found))
    ∙ ap (λ (ns : List ℕ). ns ++ reverse found) (sym (filter-append test (chain links link.before) (link.number ∷ []) ∙ ap (λ b. filter test (chain links link.before) ++ cond b (link.number ∷ []) []) passes))
    ∙ ap (λ (ns : List ℕ). filter test ns ++ reverse found) (sym (chain_step links at d linked some l))
    ∙ is

pub found_no_more : (test : ℕ → Bool) (links : List Link) (at : ℕ) (d : Link) (found all : List ℕ) → AreLinked links → 0 < at → at ≤ length links → filter test (chain links at) ++ found ≡ all → test (get_or links (at - 1) d).number ≡ false → filter test (chain links (get_or links (at - 1) d).before) ++ found ≡ all
found_no_more test links at d found all linked some l is fails =
    let link : Link = get_or links (at - 1) d in
    ap (λ (ns : List ℕ). ns ++ found) (sym (filter-append test (chain links link.before) (link.number ∷ []) ∙ ap (λ b. filter test (chain links link.before) ++ cond b (link.number ∷ []) []) fails ∙ append-nil (filter test (chain links link.before))))
    ∙ ap (λ (ns : List ℕ). filter test ns ++ found) (sym (chain_step links at d linked some l))
    ∙ is

-- the first that passes, where the one at hand is the first so far
pub first_more : (test : ℕ → Bool) (links : List Link) (at : ℕ) (d : Link) (first all : Option ℕ) → AreLinked links → 0 < at → at ≤ length links → option_or (slice_get (filter test (chain links at)) 0) first ≡ all → test (get_or links (at - 1) d).number ≡ true → option_or (slice_get (filter test (chain links (get_or links (at - 1) d).before)) 0) (Some (get_or links (at - 1) d).number) ≡ all
first_more test links at d first all linked some l is passes =
    let link : Link = get_or links (at - 1) d in
    by (filter test (chain links link.before)) link.number
    ∙ ap (λ (ns : List ℕ). option_or (slice_get ns 0) first) (sym (filter-append test (chain links link.before) (link.number ∷ []) ∙ ap (λ b. filter test (chain links link.before) ++ cond b (link.number ∷ []) []) passes))
    ∙ ap (λ (ns : List ℕ). option_or (slice_get (filter test ns) 0) first) (sym (chain_step links at d linked some l))
    ∙ is
  where
    by : (ns : List ℕ) (n : ℕ) → option_or (slice_get ns 0) (Some n) ≡ option_or (slice_get (ns ++ n ∷ []) 0) first
    by [] n = refl
    by (m ∷ ns) n = refl

pub first_no_more : (test : ℕ → Bool) (links : List Link) (at : ℕ) (d : Link) (first all : Option ℕ) → AreLinked links → 0 < at → at ≤ length links → option_or (slice_get (filter test (chain links at)) 0) first ≡ all → test (get_or links (at - 1) d).number ≡ false → option_or (slice_get (filter test (chain links (get_or links (at - 1) d).before)) 0) first ≡ all
first_no_more test links at d first all linked some l is fails =
    let link : Link = get_or links (at - 1) d in
    ap (λ (ns : List ℕ). option_or (slice_get ns 0) first) (sym (filter-append test (chain links link.before) (link.number ∷ []) ∙ ap (λ b. filter test (chain links link.before) ++ cond b (link.number ∷ []) []) fails ∙ append-nil (filter test (chain links link.before))))
    ∙ ap (λ (ns : List ℕ). option_or (slice_get (filter test ns) 0) first) (sym (chain_step links at d linked some l))
    ∙ is

-- ---- numbers that are put in place of a list

pub chained_unset : (links : List Link) (lasts : Lasts) (k : ℕ) → chained links (fin.remove lasts k) ≡ fin.remove (chained links lasts) k
chained_unset links lasts k = mapped_remove (chain links) lasts k

pub none_put : (m after : Lists) (place : ℕ) (numbers : List ℕ) → after ≡ fin.remove m place → (k : ℕ) → list_at after k ≡ with_list m place (take 0 numbers) k
none_put m after place numbers is k =
    ap (λ (x : Lists). list_at x k) is
    ∙ ap list_or_empty (fin.get-remove nat_cmp_total m place k ∙ ap (λ b. cond b None (fin.get m k)) (unsigned_tied k place))
    ∙ by (k == place)
  where
    by : (b : Bool) → list_or_empty (cond b None (fin.get m k)) ≡ cond b (take 0 numbers) (list_at m k)
    by true = refl
    by false = refl

pub one_put_more : (m before after : Lists) (place i d : ℕ) (numbers : List ℕ) → i < length numbers → ((k : ℕ) → list_at before k ≡ with_list m place (take i numbers) k) → after ≡ with_number before place (get_or numbers i d) → (k : ℕ) → list_at after k ≡ with_list m place (take (i + 1) numbers) k
one_put_more m before after place i d numbers lt is more k =
    ap (λ (x : Lists). list_at x k) more
    ∙ list-insert before place (list_at before place ++ get_or numbers i d ∷ []) k
    ∙ by (k == place) refl
  where
    here : list_at before place ≡ take i numbers
    here = is place ∙ ap (λ b. cond b (take i numbers) (list_at m place)) (itself place)
      where
        itself : (a : ℕ) → (a == a) ≡ true
        itself a = grind (arith, nat_tests)

    by : (b : Bool) → (k == place) ≡ b → cond b (list_at before place ++ get_or numbers i d ∷ []) (list_at before k) ≡ cond b (take (i + 1) numbers) (list_at m k)
    by true e = ap (λ (ns : List ℕ). ns ++ get_or numbers i d ∷ []) here ∙ sym (take_more numbers i d lt)
    by false e = is k ∙ ap (λ b. cond b (take i numbers) (list_at m k)) e

-- ---- a list without numbers that have no clause

same_lists : (m after : Lists) (clause : ℕ → Option LiteralSet) (bound : ℕ) → ((k : ℕ) → list_at m k ≡ list_at after k) → AreOccurrences m clause bound → AreOccurrences after clause bound
same_lists m after clause bound same are = record {
  rising = λ k. subst (IsStrictlySortedBy nat_cmp) (same k) (are.rising k);
  below = λ k n e. are.below k n (ap (λ (ns : List ℕ). is_among ns n) (same k) ∙ e);
  exact = λ n c at k. ap (λ (ns : List ℕ). is_among ns n) (sym (same k)) ∙ are.exact n c at k;
}

pub swept : (m after : Lists) (p : ClauseMap) (bound place : ℕ) (living : List ℕ) → living ≡ filter (λ n. fin.contains_key p n) (list_at m place) → ((k : ℕ) → list_at after k ≡ with_list m place living k) → AreOccurrences m (fin.get p) bound → AreOccurrences after (fin.get p) bound
swept m after p bound place living is put are =
    same_lists (fin.insert m place living) after (fin.get p) bound (λ k. list-insert m place living k ∙ sym (put k))
    (list_swept m (fin.get p) bound place living are
    (λ h. subst (IsStrictlySortedBy nat_cmp) (sym is) (IsStrictlySortedBy-filter nat_cmp (λ n. fin.contains_key p n) (list_at m place) h))
    (λ q there. ap (λ (ns : List ℕ). is_among ns q) is ∙ among-filter (λ n. fin.contains_key p n) (list_at m place) q ∙ ap (λ b. b && is_among (list_at m place) q) there)
    (λ q there. second_so (fin.contains_key p q) (is_among (list_at m place) q) (sym (among-filter (λ n. fin.contains_key p n) (list_at m place) q) ∙ ap (λ (ns : List ℕ). is_among ns q) (sym is) ∙ there)))
