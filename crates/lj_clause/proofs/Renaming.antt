-- Renamings of variables.
use Rattle.std.proofs.Common.{◌≡◌, ℕ, zero, suc, ◌≤◌, ◌<◌, ap, refl, sym, subst, ◌∙◌, inl, inr, arith}
use Rattle.std.specs.Prelude.{ℤ, pos, negsuc, neg_ℤ, int_lt, Bool, true, false, not, cond, T, ◌||◌, ◌&&◌, ◌⊎◌, nat_le, List, [], ◌∷◌, map, is_some, Option, Some, None, option_map, unwrap_or, slice_get}
use Rattle.std.specs.List.{list_all}
use Rattle.std.specs.Ordering.{eq_by_cmp, nat_cmp, is_lt, is_eq}
use Rattle.std.specs.Cmp.{both_ways, nat_cmp_total, tied_itself, Equal-is}
use Rattle.std.proofs.lemmas.Bool.{false≢true, and_parts, and_from, or_cases, or_left, or_right, lt-ltb}
use Rattle.std.proofs.lemmas.Bool.Decides.{nat_tests}
use lib.IntN.{neg_ℤ-neg_ℤ}
use Rattle.std.specs.FinMap as fin
use Rattle.std.specs.FinMap.Entries.{find, is_sorted, below_all, same_entries}
use Rattle.lj_clause.specs.Literal.{lit_cmp, variable_of}
use Rattle.lj_clause.specs.LiteralSet.{LiteralSet, holds, literals, with_literal, from_literals}
use Rattle.lj_clause.specs.Lemma.{LemmaValue, IsLemma, lemma_of}
use Rattle.lj_clause.specs.ClauseMap.{ClauseMap, names_up_to}
use Rattle.lj_clause.specs.Truth.{Assignment, is_true, satisfies}
use Rattle.lj_clause.specs.Renaming.{Renaming, renamed, literal_image, image, lemma_image, has_name, is_named, IsOneToOne, IsNewName, inverse, IsPartOf, entry_image, clauses_image, AreNamed}
use Rattle.lj_clause.specs.Laws.{RenamingLaws, NamingLaws, MapImageLaws}
use Rattle.lj_clause.proofs.Tests.{left_of, right_of}
use Rattle.lj_clause.proofs.SortedEntries.{none_below}
use Rattle.lj_clause.proofs.Literals.{same_literal}
use Rattle.lj_clause.proofs.LiteralSets.{holds-literals, holds-from_literals}
use Rattle.lj_clause.proofs.Among.{among, itself}
use Rattle.lj_clause.proofs.TruthLaws.{satisfies_by, true_literal}
use Rattle.lj_clause.proofs.Images.{AllKnown, IsRenamer, holds_image, imaged, image-no_literals, image-with_literal, image-agree, image-same, image-image, image-negations}

-- ---- clauses that are named

-- whether the variable of a literal is named
abbrev pub known_by : ℕ → Renaming → ℤ → Bool
known_by v m l = has_name v m (variable_of l)

each_of : (p : ℤ → Bool) (ls : List ℤ) → list_all p ls ≡ true → (l : ℤ) → among l ls ≡ true → p l ≡ true
each_of p [] all l m = absurd (false≢true m)
each_of p (k ∷ ls) all l m =
    let parts = and_parts (p k) (list_all p ls) all in
    elim (or_cases (eq_by_cmp lit_cmp l k) (among l ls) m) [
      | inl e ↦ ap p (same_literal l k e) ∙ parts.0
      | inr e ↦ each_of p ls parts.1 l e
    ]

of_each : (p : ℤ → Bool) (ls : List ℤ) → ((l : ℤ) → among l ls ≡ true → p l ≡ true) → list_all p ls ≡ true
of_each p [] each = refl
of_each p (k ∷ ls) each =
    and_from (p k) (list_all p ls) (each k (or_left (eq_by_cmp lit_cmp k k) (among k ls) (itself k)))
    (of_each p ls (λ l m. each l (or_right (eq_by_cmp lit_cmp l k) (among l ls) m)))

pub all_known : (v : ℕ) (m : Renaming) (c : LiteralSet) → is_named v m c ≡ true → AllKnown (known_by v m) c
all_known v m c all l h = each_of (known_by v m) (literals c) all l (sym (holds-literals c l) ∙ h)

pub named_by : (v : ℕ) (m : Renaming) (c : LiteralSet) → AllKnown (known_by v m) c → is_named v m c ≡ true
named_by v m c all = of_each (known_by v m) (literals c) (λ l h. all l (holds-literals c l ∙ h))

-- ---- what variables become

named_or : (v x : ℕ) (b : Bool) → (nat_le x v || b) ≡ true → b ≡ false → x ≤ v
named_or v x b h f = grind (arith, nat_tests)

-- a variable with no name of its own is at most v
at_most : (v : ℕ) (m : Renaming) (x : ℕ) → has_name v m x ≡ true → fin.get m x ≡ None → x ≤ v
at_most v m x h none = named_or v x (fin.contains_key m x) h (ap is_some none)

module _ {v : ℕ} {m : Renaming} (one : IsOneToOne v m) where
  -- and one of at most v stays
  unnamed : (x : ℕ) → x ≤ v → fin.get m x ≡ None
  unnamed x le = go (fin.get m x) refl
    where
      go : (o : Option ℕ) → fin.get m x ≡ o → o ≡ None
      go None e = refl
      go (Some y) e = let lt = (one.above x y e).0 in absurd (omega arith)

  stays : (x : ℕ) → x ≤ v → renamed m x ≡ x
  stays x le = ap (λ o. unwrap_or o x) (unnamed x le)

  renamed_apart : (x z : ℕ) → has_name v m x ≡ true → has_name v m z ≡ true → renamed m x ≡ renamed m z → x ≡ z
  renamed_apart x z hx hz same = go (fin.get m x) (fin.get m z) refl refl
    where
      go : (o p : Option ℕ) → fin.get m x ≡ o → fin.get m z ≡ p → x ≡ z
      go None None ex ez = sym (ap (λ o. unwrap_or o x) ex) ∙ same ∙ ap (λ o. unwrap_or o z) ez
      go None (Some w) ex ez = let is : x ≡ w = sym (ap (λ o. unwrap_or o x) ex) ∙ same ∙ ap (λ o. unwrap_or o z) ez in let le = at_most v m x hx ex in let lt = (one.above z w ez).1 in absurd (omega arith)
      go (Some y) None ex ez = let is : y ≡ z = sym (ap (λ o. unwrap_or o x) ex) ∙ same ∙ ap (λ o. unwrap_or o z) ez in let le = at_most v m z hz ez in let lt = (one.above x y ex).1 in absurd (omega arith)
      go (Some y) (Some w) ex ez = let is : y ≡ w = sym (ap (λ o. unwrap_or o x) ex) ∙ same ∙ ap (λ o. unwrap_or o z) ez in one.apart x z y ex (ez ∙ ap Some (sym is))

  stays_positive : (x : ℕ) → 0 < x → 0 < renamed m x
  stays_positive x lt = go (fin.get m x) refl
    where
      go : (o : Option ℕ) → fin.get m x ≡ o → 0 < unwrap_or o x
      go None e = lt
      go (Some y) e = let above = (one.above x y e).1 in omega arith

-- ---- what literals become

variable-neg_ℤ : (l : ℤ) → variable_of (neg_ℤ l) ≡ variable_of l
variable-neg_ℤ (pos zero) = refl
variable-neg_ℤ (pos (suc n)) = refl
variable-neg_ℤ (negsuc n) = refl

variable-image : (m : Renaming) (l : ℤ) → variable_of (literal_image m l) ≡ renamed m (variable_of l)
variable-image m (pos n) = refl
variable-image m (negsuc n) = variable-neg_ℤ (pos (renamed m (suc n)))

positive : (n : ℕ) → 0 < n → int_lt (pos 0) (pos n) ≡ true
positive n lt = lt-ltb 0 n lt

-- a literal is told by its variable and its sign
told_by : (l k : ℤ) → variable_of l ≡ variable_of k → int_lt (pos 0) l ≡ int_lt (pos 0) k → l ≡ k
told_by (pos m) (pos n) e s = ap pos e
told_by (pos zero) (negsuc n) e s = absurd (omega arith)
told_by (pos (suc m)) (negsuc n) e s = absurd (false≢true (sym s ∙ positive (suc m) (omega arith)))
told_by (negsuc m) (pos zero) e s = absurd (omega arith)
told_by (negsuc m) (pos (suc n)) e s = absurd (false≢true (s ∙ positive (suc n) (omega arith)))
told_by (negsuc m) (negsuc n) e s = ap negsuc (omega arith)

negative : (n : ℕ) → 0 < n → int_lt (pos 0) (neg_ℤ (pos n)) ≡ false
negative zero lt = absurd (omega arith)
negative (suc n) lt = refl

module _ {v : ℕ} {m : Renaming} (one : IsOneToOne v m) where
  image_turns : (l : ℤ) → literal_image m (neg_ℤ l) ≡ neg_ℤ (literal_image m l)
  image_turns (pos zero) = ap pos (stays one 0 (omega arith)) ∙ ap (λ n. neg_ℤ (pos n)) (sym (stays one 0 (omega arith)))
  image_turns (pos (suc n)) = refl
  image_turns (negsuc n) = sym (neg_ℤ-neg_ℤ (pos (renamed m (suc n))))

  image_signs : (l : ℤ) → int_lt (pos 0) (literal_image m l) ≡ int_lt (pos 0) l
  image_signs (pos zero) = ap (λ n. int_lt (pos 0) (pos n)) (stays one 0 (omega arith))
  image_signs (pos (suc n)) = positive (renamed m (suc n)) (stays_positive one (suc n) (omega arith)) ∙ sym (positive (suc n) (omega arith))
  image_signs (negsuc n) = negative (renamed m (suc n)) (stays_positive one (suc n) (omega arith))

  -- a renaming that is one to one tells the named literals apart
  pub IsRenamer-image : IsRenamer (literal_image m) (known_by v m)
  IsRenamer-image = record {
    turns = image_turns;
    signs = image_signs;
    negated = λ l k. ap (has_name v m) (variable-neg_ℤ l) ∙ k;
    apart = λ l k kl kk same. told_by l k
        (renamed_apart one (variable_of l) (variable_of k) kl kk (sym (variable-image m l) ∙ ap variable_of same ∙ variable-image m k))
        (sym (image_signs l) ∙ ap (int_lt (pos 0)) same ∙ image_signs k);
  }

-- ---- the renaming back

-- the entry stands in the list
abbrev Has : ℕ → ℕ → List (ℕ × ℕ) → Type 0
Has x y [] = ⊥
Has x y (e ∷ es) = ((x ≡ e.0) × (y ≡ e.1)) ⊎ Has x y es

abbrev turned_entries : List (ℕ × ℕ) → List (ℕ × ℕ)
turned_entries es = map (λ (e : ℕ × ℕ). (e.1, e.0)) es

same_number : (x y : ℕ) → eq_by_cmp nat_cmp x y ≡ true → x ≡ y
same_number x y e = fin.nat_cmp-IsAntisymmetric x y ((Equal-is (nat_cmp x y)).0 e)

found_has : (x y : ℕ) (es : List (ℕ × ℕ)) → find nat_cmp x es ≡ Some y → Has x y es
found_has x y [] h = cc
found_has x y (e ∷ es) h =
    elim (eq_by_cmp nat_cmp x e.0) as (λ b. eq_by_cmp nat_cmp x e.0 ≡ b → cond b (Some e.1) (find nat_cmp x es) ≡ Some y → Has x y (e ∷ es)) [
      | true ↦ λ t g. inl (same_number x e.0 t, (let is : e.1 ≡ y = cc in sym is))
      | false ↦ λ t g. inr (found_has x y es g)
    ] refl h

turned_has : (x y : ℕ) (es : List (ℕ × ℕ)) → Has y x (turned_entries es) → Has x y es
turned_has x y [] h = h
turned_has x y (e ∷ es) h = elim h [ inl both ↦ inl (both.1, both.0) | inr later ↦ inr (turned_has x y es later) ]

-- an entry of a list whose keys rise is found
has_found : (x y : ℕ) (es : List (ℕ × ℕ)) → T (is_sorted nat_cmp es) → Has x y es → find nat_cmp x es ≡ Some y
has_found x y [] sorted h = absurd h
has_found x y (e ∷ es) sorted h =
    elim h [
      | inl both ↦ ap (λ b. cond b (Some e.1) (find nat_cmp x es)) (ap (λ k. eq_by_cmp nat_cmp k e.0) both.0 ∙ ap is_eq (tied_itself nat_cmp_total e.0)) ∙ ap Some (sym both.1)
      | inr later ↦ elim (eq_by_cmp nat_cmp x e.0) as (λ b. eq_by_cmp nat_cmp x e.0 ≡ b → cond b (Some e.1) (find nat_cmp x es) ≡ Some y) [
        | true ↦ λ t. absurd (false≢true (sym (ap is_some (none_below e.0 es (left_of _ _ sorted))) ∙ ap is_some (ap (λ k. find nat_cmp k es) (sym (same_number x e.0 t)) ∙ has_found x y es (right_of _ _ sorted) later)))
        | false ↦ λ t. has_found x y es (right_of _ _ sorted) later
      ] refl
    ]

-- and one of any list has its key found
has_key : (x y : ℕ) (es : List (ℕ × ℕ)) → Has x y es → (z : ℕ) × (find nat_cmp x es ≡ Some z)
has_key x y [] h = absurd h
has_key x y (e ∷ es) h =
    elim (eq_by_cmp nat_cmp x e.0) as (λ b. eq_by_cmp nat_cmp x e.0 ≡ b → (z : ℕ) × (cond b (Some e.1) (find nat_cmp x es) ≡ Some z)) [
      | true ↦ λ t. (e.1, refl)
      | false ↦ λ t. elim h [
        | inl both ↦ absurd (false≢true (sym t ∙ ap (λ k. eq_by_cmp nat_cmp k e.0) both.0 ∙ ap is_eq (tied_itself nat_cmp_total e.0)))
        | inr later ↦ has_key x y es later
      ]
    ] refl

has_turned : (x y : ℕ) (es : List (ℕ × ℕ)) → Has x y es → Has y x (turned_entries es)
has_turned x y [] h = h
has_turned x y (e ∷ es) h = elim h [ inl both ↦ inl (both.1, both.0) | inr later ↦ inr (has_turned x y es later) ]

pub inverse_gives : (m : Renaming) (x y : ℕ) → fin.get (inverse m) y ≡ Some x → fin.get m x ≡ Some y
inverse_gives m x y h =
    fin.get-entries m x ∙ has_found x y (fin.entries m) (fin.entries_sorted m)
    (turned_has x y (fin.entries m) (found_has y x (turned_entries (fin.entries m)) (sym (fin.get-from_entries nat_cmp_total (turned_entries (fin.entries m)) y) ∙ h)))

module _ {v : ℕ} {m : Renaming} (one : IsOneToOne v m) where
  pub gives_inverse : (x y : ℕ) → fin.get m x ≡ Some y → fin.get (inverse m) y ≡ Some x
  gives_inverse x y h =
      let found = has_key y x (turned_entries (fin.entries m)) (has_turned x y (fin.entries m) (found_has x y (fin.entries m) (sym (fin.get-entries m x) ∙ h))) in
      let back : fin.get (inverse m) y ≡ Some found.0 = fin.get-from_entries nat_cmp_total (turned_entries (fin.entries m)) y ∙ found.1 in
      back ∙ ap Some (one.apart found.0 x y (inverse_gives m found.0 y back) h)

  pub IsOneToOne-inverse : IsOneToOne v (inverse m)
  IsOneToOne-inverse = record {
    above = λ y x h. let both = one.above x y (inverse_gives m x y h) in (both.1, both.0);
    apart = λ y w x h g. (let e : Some y ≡ Some w = sym (inverse_gives m x y h) ∙ inverse_gives m x w g in cc);
  }

  renamed_back : (x : ℕ) → has_name v m x ≡ true → renamed (inverse m) (renamed m x) ≡ x
  renamed_back x h = go (fin.get m x) refl
    where
      go : (o : Option ℕ) → fin.get m x ≡ o → renamed (inverse m) (unwrap_or o x) ≡ x
      go None e = stays IsOneToOne-inverse x (at_most v m x h e)
      go (Some y) e = ap (λ o. unwrap_or o y) (gives_inverse x y e)

  back_named : (x : ℕ) → has_name v m x ≡ true → has_name v (inverse m) (renamed m x) ≡ true
  back_named x h = go (fin.get m x) refl
    where
      go : (o : Option ℕ) → fin.get m x ≡ o → has_name v (inverse m) (unwrap_or o x) ≡ true
      go None e = elim (or_cases (nat_le x v) (fin.contains_key m x) h) [
        | inl le ↦ or_left (nat_le x v) (fin.contains_key (inverse m) x) le
        | inr there ↦ absurd (false≢true (sym (ap is_some e) ∙ there))
      ]
      go (Some y) e = or_right (nat_le y v) (fin.contains_key (inverse m) y) (ap is_some (gives_inverse x y e))

  literal_back : (l : ℤ) → known_by v m l ≡ true → literal_image (inverse m) (literal_image m l) ≡ l
  literal_back (pos n) k = ap pos (renamed_back n k)
  literal_back (negsuc n) k = image_turns IsOneToOne-inverse (pos (renamed m (suc n))) ∙ ap (λ x. neg_ℤ (pos x)) (renamed_back (suc n) k)

  image_back : (c : LiteralSet) → is_named v m c ≡ true → image (inverse m) (image m c) ≡ c
  image_back c named =
      image-image (literal_image m) (literal_image (inverse m)) c
      ∙ image-same (λ l. literal_image (inverse m) (literal_image m l)) c (λ l h. literal_back l (all_known v m c named l h))

  named_back : (c : LiteralSet) → is_named v m c ≡ true → is_named v (inverse m) (image m c) ≡ true
  named_back c named = named_by v (inverse m) (image m c) (λ q h.
      let found = imaged (literal_image m) c q h in
      ap (λ x. known_by v (inverse m) x) found.2
      ∙ ap (has_name v (inverse m)) (variable-image m found.0)
      ∙ back_named (variable_of found.0) (all_known v m c named found.0 found.1))

-- ---- a renaming that grows

module _ (v : ℕ) (m n : Renaming) (part : IsPartOf m n) (one : IsOneToOne v n) where
  renamed_alike : (x : ℕ) → has_name v m x ≡ true → renamed n x ≡ renamed m x
  renamed_alike x h = go (fin.get m x) refl
    where
      go : (o : Option ℕ) → fin.get m x ≡ o → renamed n x ≡ unwrap_or o x
      go None e = stays one x (at_most v m x h e)
      go (Some y) e = ap (λ o. unwrap_or o x) (part x y e)

  still_named : (x : ℕ) → has_name v m x ≡ true → has_name v n x ≡ true
  still_named x h = elim (or_cases (nat_le x v) (fin.contains_key m x) h) [
    | inl le ↦ or_left (nat_le x v) (fin.contains_key n x) le
    | inr there ↦ or_right (nat_le x v) (fin.contains_key n x) (go (fin.get m x) refl there)
  ]
    where
      go : (o : Option ℕ) → fin.get m x ≡ o → is_some o ≡ true → fin.contains_key n x ≡ true
      go None e h = absurd (false≢true h)
      go (Some y) e h = ap is_some (part x y e)

  literal_alike : (l : ℤ) → known_by v m l ≡ true → literal_image n l ≡ literal_image m l
  literal_alike (pos k) h = ap pos (renamed_alike k h)
  literal_alike (negsuc k) h = ap (λ x. neg_ℤ (pos x)) (renamed_alike (suc k) h)

  image_alike : (c : LiteralSet) → is_named v m c ≡ true → image n c ≡ image m c
  image_alike c named = image-agree (literal_image n) (literal_image m) c (λ l h. literal_alike l (all_known v m c named l h))

  clause_still_named : (c : LiteralSet) → is_named v m c ≡ true → is_named v n c ≡ true
  clause_still_named c named = named_by v n c (λ l h. still_named (variable_of l) (all_known v m c named l h))

-- ---- clause maps

find-image : (m : Renaming) (n : ℕ) (es : List (ℕ × LiteralSet)) → find nat_cmp n (map (entry_image m) es) ≡ option_map (image m) (find nat_cmp n es)
find-image m n [] = refl
find-image m n (e ∷ es) = elim (eq_by_cmp nat_cmp n e.0) as (λ b. cond b (Some (image m e.1)) (find nat_cmp n (map (entry_image m) es)) ≡ option_map (image m) (cond b (Some e.1) (find nat_cmp n es))) [ true ↦ refl | false ↦ find-image m n es ]

-- the clause of a number in the image of a map
pub get-clauses_image : (m : Renaming) (p : ClauseMap) (n : ℕ) → fin.get (clauses_image m p) n ≡ option_map (image m) (fin.get p n)
get-clauses_image m p n =
    fin.get-from_entries nat_cmp_total (map (entry_image m) (fin.entries p)) n
    ∙ find-image m n (fin.entries p)
    ∙ ap (option_map (image m)) (sym (fin.get-entries p n))

below-image : (m : Renaming) (n : ℕ) (es : List (ℕ × LiteralSet)) → below_all nat_cmp n (map (entry_image m) es) ≡ below_all nat_cmp n es
below-image m n [] = refl
below-image m n (e ∷ es) = ap (λ b. is_lt (nat_cmp n e.0) && b) (below-image m n es)

sorted-image : (m : Renaming) (es : List (ℕ × LiteralSet)) → is_sorted nat_cmp (map (entry_image m) es) ≡ is_sorted nat_cmp es
sorted-image m [] = refl
sorted-image m (e ∷ es) = λ i. below-image m e.0 es i && sorted-image m es i

-- its entries are the images of the map's
pub entries-clauses_image : (m : Renaming) (p : ClauseMap) → fin.entries (clauses_image m p) ≡ map (entry_image m) (fin.entries p)
entries-clauses_image m p =
    same_entries nat_cmp nat_cmp_total fin.nat_cmp-IsAntisymmetric (fin.entries (clauses_image m p)) (map (entry_image m) (fin.entries p))
    (fin.entries_sorted (clauses_image m p)) (subst T (sym (sorted-image m (fin.entries p))) (fin.entries_sorted p))
    (λ n. sym (fin.get-entries (clauses_image m p) n) ∙ fin.get-from_entries nat_cmp_total (map (entry_image m) (fin.entries p)) n)

-- ---- clauses that stay, and lemmas

within : (x v : ℕ) → nat_le x v ≡ true → x ≤ v
within x v h = grind (arith, nat_tests)

literal_stays : (m : Renaming) (l : ℤ) → renamed m (variable_of l) ≡ variable_of l → literal_image m l ≡ l
literal_stays m (pos n) e = ap pos e
literal_stays m (negsuc n) e = ap (λ x. neg_ℤ (pos x)) e

unmoved : (v : ℕ) (m : Renaming) (c : LiteralSet) → IsOneToOne v m → names_up_to v c ≡ true → (is_named v m c ≡ true) × (image m c ≡ c)
unmoved v m c one up =
    let each : (l : ℤ) → holds c l ≡ true → nat_le (variable_of l) v ≡ true = λ l h. each_of (λ k. nat_le (variable_of k) v) (literals c) up l (sym (holds-literals c l) ∙ h) in (
      named_by v m c (λ l h. or_left (nat_le (variable_of l) v) (fin.contains_key m (variable_of l)) (each l h)),
      image-same (literal_image m) c (λ l h. literal_stays m l (stays one (variable_of l) (within (variable_of l) v (each l h)))),
    )

unrenamed : (l : ℤ) → literal_image fin.empty l ≡ l
unrenamed l = literal_stays fin.empty l (ap (λ o. unwrap_or o (variable_of l)) (fin.get-empty nat_cmp (variable_of l)))

pub IsLemma-image : (m : Renaming) (lemma : LemmaValue) → IsLemma lemma → IsLemma (lemma_image m lemma)
IsLemma-image m lemma h = go lemma.pivot refl h
  where
    go : (o : Option ℤ) → lemma.pivot ≡ o → IsLemma (record { clause = lemma.clause; pivot = o }) → IsLemma (record { clause = image m lemma.clause; pivot = option_map (literal_image m) o })
    go None e g = ap (image m) g ∙ image-no_literals (literal_image m)
    go (Some p) e g = holds_image (literal_image m) lemma.clause p g

pub image-from_literals : (m : Renaming) (ls : List ℤ) → image m (from_literals ls) ≡ from_literals (map (literal_image m) ls)
image-from_literals m [] = image-no_literals (literal_image m)
image-from_literals m (l ∷ ls) = image-with_literal (literal_image m) (from_literals ls) l ∙ ap (λ s. with_literal s (literal_image m l)) (image-from_literals m ls)

first-image : (m : Renaming) (ls : List ℤ) → option_map (literal_image m) (slice_get ls 0) ≡ slice_get (map (literal_image m) ls) 0
first-image m [] = refl
first-image m (l ∷ ls) = refl

listed : (m : Renaming) (ls : List ℤ) → lemma_image m (lemma_of ls) ≡ lemma_of (map (literal_image m) ls)
listed m ls = λ i. record { clause = image-from_literals m ls i; pivot = first-image m ls i }

pub named_list : (v : ℕ) (m : Renaming) (ls : List ℤ) → is_named v m (from_literals ls) ≡ list_all (known_by v m) ls
named_list v m ls =
    both_ways _ _
    (λ named. of_each (known_by v m) ls (λ l h. all_known v m (from_literals ls) named l (holds-from_literals ls l ∙ h)))
    (λ all. named_by v m (from_literals ls) (λ l h. each_of (known_by v m) ls all l (sym (holds-from_literals ls l) ∙ h)))

true_positive : (a : Assignment) (n : ℕ) → 0 < n → is_true a (pos n) ≡ a n
true_positive a zero lt = absurd (omega arith)
true_positive a (suc n) lt = refl

true_negative : (a : Assignment) (n : ℕ) → 0 < n → is_true a (neg_ℤ (pos n)) ≡ not (a n)
true_negative a zero lt = absurd (omega arith)
true_negative a (suc n) lt = refl

module _ (v : ℕ) (m : Renaming) (a : Assignment) (one : IsOneToOne v m) where
  is_true-image : (l : ℤ) → is_true a (literal_image m l) ≡ is_true (λ x. a (renamed m x)) l
  is_true-image (pos zero) = ap (λ n. is_true a (pos n)) (stays one 0 (omega arith))
  is_true-image (pos (suc n)) = true_positive a (renamed m (suc n)) (stays_positive one (suc n) (omega arith))
  is_true-image (negsuc n) = true_negative a (renamed m (suc n)) (stays_positive one (suc n) (omega arith))

  truth : (c : LiteralSet) → satisfies a (image m c) ≡ satisfies (λ x. a (renamed m x)) c
  truth c =
      both_ways _ _
      (λ h. let some = true_literal a (image m c) h in
      let found = imaged (literal_image m) c some.0 some.1 in
      satisfies_by (λ x. a (renamed m x)) c found.0 found.1 (sym (is_true-image found.0) ∙ ap (is_true a) (sym found.2) ∙ some.2))
      (λ h. let some = true_literal (λ x. a (renamed m x)) c h in
      satisfies_by a (image m c) (literal_image m some.0) (holds_image (literal_image m) c some.0 some.1) (is_true-image some.0 ∙ some.2))

pub renaming_laws : RenamingLaws
renaming_laws = record {
  nothing = λ c. image-same (literal_image fin.empty) c (λ l h. unrenamed l);
  held = λ m c q. (imaged (literal_image m) c q, λ found. ap (holds (image m c)) found.2 ∙ holds_image (literal_image m) c found.0 found.1);
  more = λ m c l. image-with_literal (literal_image m) c l;
  lemma = IsLemma-image;
  listed = listed;
  named_list = named_list;
  negated = λ v m c one. image-negations (IsRenamer-image one) c;
  unmoved = unmoved;
  truth = λ v m c a one. truth v m a one c;
  back = λ v m one. IsOneToOne-inverse one;
  given_back = λ v m c one named. image_back one c named;
  named_back = λ v m c one named. named_back one c named;
  grown = λ v m n c part one named. (image_alike v m n part one c named, clause_still_named v m n part one c named);
}

-- ---- a variable more

no_value : (y : ℕ) → None ≡ Some y → ⊥
no_value y e = false≢true (ap is_some e)

module _ (m : Renaming) (x y : ℕ) where
  insert_has : fin.get (fin.insert m x y) x ≡ Some y
  insert_has = fin.get-insert nat_cmp_total m x y x ∙ ap (λ b. cond b (Some y) (fin.get m x)) (ap is_eq (tied_itself nat_cmp_total x))

  insert_keeps : fin.get m x ≡ None → (z w : ℕ) → fin.get m z ≡ Some w → fin.get (fin.insert m x y) z ≡ Some w
  insert_keeps none z w h =
      fin.get-insert nat_cmp_total m x y z
      ∙ elim (eq_by_cmp nat_cmp z x) as (λ b. eq_by_cmp nat_cmp z x ≡ b → cond b (Some y) (fin.get m z) ≡ Some w) [
        | true ↦ λ t. absurd (no_value w (sym none ∙ ap (fin.get m) (sym (same_number z x t)) ∙ h))
        | false ↦ λ t. h
      ] refl

  insert_had : (z w : ℕ) → fin.get (fin.insert m x y) z ≡ Some w → ((z ≡ x) × (w ≡ y)) ⊎ (fin.get m z ≡ Some w)
  insert_had z w h =
      elim (eq_by_cmp nat_cmp z x) as (λ b. eq_by_cmp nat_cmp z x ≡ b → cond b (Some y) (fin.get m z) ≡ Some w → ((z ≡ x) × (w ≡ y)) ⊎ (fin.get m z ≡ Some w)) [
        | true ↦ λ t g. inl (same_number z x t, (let is : y ≡ w = cc in sym is))
        | false ↦ λ t g. inr g
      ] refl (sym (fin.get-insert nat_cmp_total m x y z) ∙ h)

same_option : (o p : Option ℕ) → ((z : ℕ) → o ≡ Some z → p ≡ Some z) → ((z : ℕ) → p ≡ Some z → o ≡ Some z) → o ≡ p
same_option None None f g = refl
same_option None (Some z) f g = g z refl
same_option (Some z) p f g = sym (f z refl)

module _ (v : ℕ) (m : Renaming) (x y : ℕ) (one : IsOneToOne v m) (name : IsNewName v m x y) where
  not_used : (z : ℕ) → fin.get m z ≡ Some y → ⊥
  not_used z h = no_value z (sym name.unused ∙ gives_inverse one z y h)

  one_more : IsOneToOne v (fin.insert m x y)
  one_more = record {
    above = λ z w h. elim (insert_had m x y z w h) [
      | inl new ↦ (let left = name.above.0 in let e = new.0 in omega arith, let right = name.above.1 in let e = new.1 in omega arith)
      | inr there ↦ one.above z w there
    ];
    apart = λ a b w ha hb. elim (insert_had m x y a w ha) [
      | inl new ↦ elim (insert_had m x y b w hb) [
        | inl too ↦ new.0 ∙ sym too.0
        | inr there ↦ absurd (not_used b (there ∙ ap Some new.1))
      ]
      | inr there ↦ elim (insert_had m x y b w hb) [
        | inl new ↦ absurd (not_used a (there ∙ ap Some new.1))
        | inr too ↦ one.apart a b w there too
      ]
    ];
  }

  inverse_more : inverse (fin.insert m x y) ≡ fin.insert (inverse m) y x
  inverse_more = fin.same_map nat_cmp_total fin.nat_cmp-IsAntisymmetric _ _ (λ q. same_option _ _
      (λ z h. elim (insert_had m x y z q (inverse_gives (fin.insert m x y) z q h)) [
        | inl new ↦ ap (fin.get (fin.insert (inverse m) y x)) new.1 ∙ insert_has (inverse m) y x ∙ ap Some (sym new.0)
        | inr there ↦ insert_keeps (inverse m) y x name.unused q z (gives_inverse one z q there)
      ])
      (λ z h. elim (insert_had (inverse m) y x q z h) [
        | inl new ↦ ap (fin.get (inverse (fin.insert m x y))) new.0 ∙ gives_inverse one_more x y (insert_has m x y) ∙ ap Some (sym new.1)
        | inr there ↦ gives_inverse one_more z q (insert_keeps m x y name.nameless z q (inverse_gives m z q there))
      ]))

pub naming_laws : NamingLaws
naming_laws = record {
  empty = λ v. record {
    above = λ x y h. absurd (no_value y (sym (fin.get-empty nat_cmp x) ∙ h));
    apart = λ x z y h g. absurd (no_value y (sym (fin.get-empty nat_cmp x) ∙ h));
  };
  more = λ v m x y one name. (one_more v m x y one name, insert_keeps m x y name.nameless, inverse_more v m x y one name);
}

-- ---- clause maps as they change

same_clauses : (p q : ClauseMap) → ((n : ℕ) → fin.get p n ≡ fin.get q n) → p ≡ q
same_clauses p q is = fin.same_map nat_cmp_total fin.nat_cmp-IsAntisymmetric p q is

inserted : (m : Renaming) (p : ClauseMap) (n : ℕ) (c : LiteralSet) → clauses_image m (fin.insert p n c) ≡ fin.insert (clauses_image m p) n (image m c)
inserted m p n c = same_clauses _ _ (λ q.
    get-clauses_image m (fin.insert p n c) q
    ∙ ap (option_map (image m)) (fin.get-insert nat_cmp_total p n c q)
    ∙ inside (eq_by_cmp nat_cmp q n) (fin.get p q)
    ∙ ap (cond (eq_by_cmp nat_cmp q n) (Some (image m c))) (sym (get-clauses_image m p q))
    ∙ sym (fin.get-insert nat_cmp_total (clauses_image m p) n (image m c) q))
  where
    inside : (b : Bool) (o : Option LiteralSet) → option_map (image m) (cond b (Some c) o) ≡ cond b (Some (image m c)) (option_map (image m) o)
    inside true o = refl
    inside false o = refl

removed : (m : Renaming) (p : ClauseMap) (n : ℕ) → clauses_image m (fin.remove p n) ≡ fin.remove (clauses_image m p) n
removed m p n = same_clauses _ _ (λ q.
    get-clauses_image m (fin.remove p n) q
    ∙ ap (option_map (image m)) (fin.get-remove nat_cmp_total p n q)
    ∙ inside (eq_by_cmp nat_cmp q n) (fin.get p q)
    ∙ ap (cond (eq_by_cmp nat_cmp q n) None) (sym (get-clauses_image m p q))
    ∙ sym (fin.get-remove nat_cmp_total (clauses_image m p) n q))
  where
    inside : (b : Bool) (o : Option LiteralSet) → option_map (image m) (cond b None o) ≡ cond b None (option_map (image m) o)
    inside true o = refl
    inside false o = refl

map_alike : (v : ℕ) (m n : Renaming) (p : ClauseMap) → IsPartOf m n → IsOneToOne v n → AreNamed v m p → clauses_image n p ≡ clauses_image m p
map_alike v m n p part one named = same_clauses _ _ (λ q. get-clauses_image n p q ∙ go q (fin.get p q) refl ∙ sym (get-clauses_image m p q))
  where
    go : (q : ℕ) (o : Option LiteralSet) → fin.get p q ≡ o → option_map (image n) o ≡ option_map (image m) o
    go q None e = refl
    go q (Some c) e = ap Some (image_alike v m n part one c (named q c e))

map_back : (v : ℕ) (m : Renaming) (p : ClauseMap) → IsOneToOne v m → AreNamed v m p → clauses_image (inverse m) (clauses_image m p) ≡ p
map_back v m p one named = same_clauses _ _ (λ q.
    get-clauses_image (inverse m) (clauses_image m p) q ∙ ap (option_map (image (inverse m))) (get-clauses_image m p q) ∙ go q (fin.get p q) refl)
  where
    go : (q : ℕ) (o : Option LiteralSet) → fin.get p q ≡ o → option_map (image (inverse m)) (option_map (image m) o) ≡ o
    go q None e = refl
    go q (Some c) e = ap Some (image_back one c (named q c e))

pub map_image_laws : MapImageLaws
map_image_laws = record {
  got = get-clauses_image;
  inserted = inserted;
  removed = removed;
  grown = λ v m n p part one named. (map_alike v m n p part one named, λ k c h. clause_still_named v m n part one c (named k c h));
  given_back = map_back;
}
