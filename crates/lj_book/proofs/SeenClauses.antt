-- The clauses that a seat sees, under their joint numbers.
use Rattle.std.proofs.Common.{◌≡◌, ap, refl, sym, subst, ◌∙◌, ℕ, Bool, cond, true, false}
use Rattle.std.specs.Prelude.{T, List, [], ◌∷◌, map, filter, Option, Some, None, option_map, is_some, All, Result, Ok, Err}
use Rattle.std.specs.List.{AllByRecursion}
use Rattle.std.proofs.lemmas.List.Elements.{All-from_recursion}
use Rattle.std.proofs.lemmas.Bool.{false≢true, eqb-true}
use Rattle.std.specs.Ordering.{nat_cmp, eq_by_cmp, is_eq}
use Rattle.std.specs.Cmp.{nat_cmp_total, unsigned_tied, tied_itself}
use Rattle.std.specs.FinMap as fin
use Rattle.std.specs.FinMap.{nat_cmp-IsAntisymmetric}
use Rattle.std.specs.FinMap.Entries.{find, is_sorted, same_entries}
use Rattle.lj_clause.specs.LiteralSet.{LiteralSet}
use Rattle.lj_clause.specs.ClauseMap.{ClauseMap}
use Rattle.lj_clause.specs.Rat.{HintGroup}
use Rattle.lj_clause.specs.Renaming.{Renaming, image, clauses_image}
use Rattle.lj_clause.proofs.Tests.{left_of, right_of}
use Rattle.lj_clause.proofs.SortedEntries.{none_below, is_sorted-filter}
use Rattle.lj_clause.proofs.Renaming.{get-clauses_image}
use Rattle.lj_text.specs.declared.line.Addition.{Addition}
use Rattle.lj_hint.specs.declared.pair.Pair.{Pair}
use Rattle.lj_hint.specs.Hints.{numbers}
use Rattle.lj_hint.specs.Case.{CaseValue, case_of}
use Rattle.lj_hint.specs.Images.{pair_image}
use Rattle.lj_book.specs.declared.refusal.Refusal.{Refusal}
use Rattle.lj_book.specs.declared.refusal.Refusal.TheVariants.{NumberTaken}
use Rattle.lj_book.specs.Calls.{case_with, repeated_after, pairs_of, group_pairs_of, with_group_pair, if_known}
use Rattle.lj_book.specs.Inside.{joint_addition}
use Rattle.lj_book.specs.Solo.{Holdings, View, solo_case}
use Rattle.lj_book.specs.NamedViews.{holdings_image, view_image, pair_at, seen_clauses, AreHintsIn, TakenHintsAreSeen}
use Rattle.lj_book.proofs.NumberMaps.{same_map}
use Rattle.lj_book.proofs.SoloTakes.{AllHeld, pairs_held}
use Rattle.lj_book.proofs.Mapped.{entries_mapped}

-- ---- clauses that pass a test

abbrev pub where_so : (LiteralSet → Bool) → Option LiteralSet → Option LiteralSet
where_so test None = None
where_so test (Some c) = cond (test c) (Some c) None

find_where : (test : LiteralSet → Bool) (es : List (ℕ × LiteralSet)) (q : ℕ) → T (is_sorted nat_cmp es) → find nat_cmp q (filter (λ e. test e.1) es) ≡ where_so test (find nat_cmp q es)
find_where test [] q h = refl
find_where test (e ∷ es) q h =
    elim (eq_by_cmp nat_cmp q e.0) as (λ b. eq_by_cmp nat_cmp q e.0 ≡ b → find nat_cmp q (filter (λ f. test f.1) (e ∷ es)) ≡ where_so test (cond b (Some e.1) (find nat_cmp q es))) [
      | true ↦ λ t.
          let here : q ≡ e.0 = eqb-true q e.0 (sym (unsigned_tied q e.0) ∙ t) in
          let gone : find nat_cmp q (filter (λ f. test f.1) es) ≡ None = find_where test es q (right_of _ _ h) ∙ ap (where_so test) (ap (λ n. find nat_cmp n es) here ∙ none_below e.0 es (left_of _ _ h)) in
          elim (test e.1) as (λ b. find nat_cmp q (cond b (e ∷ filter (λ f. test f.1) es) (filter (λ f. test f.1) es)) ≡ cond b (Some e.1) None) [
            | true ↦ ap (λ b. cond b (Some e.1) (find nat_cmp q (filter (λ f. test f.1) es))) t
            | false ↦ gone
          ]
      | false ↦ λ t.
          elim (test e.1) as (λ b. find nat_cmp q (cond b (e ∷ filter (λ f. test f.1) es) (filter (λ f. test f.1) es)) ≡ where_so test (find nat_cmp q es)) [
            | true ↦ ap (λ b. cond b (Some e.1) (find nat_cmp q (filter (λ f. test f.1) es))) t ∙ find_where test es q (right_of _ _ h)
            | false ↦ find_where test es q (right_of _ _ h)
          ]
    ] refl

module _ (test : LiteralSet → Bool) where
  found_where : (p : ClauseMap) (q : ℕ) → find nat_cmp q (filter (λ e. test e.1) (fin.entries p)) ≡ where_so test (fin.get p q)
  found_where p q = find_where test (fin.entries p) q (fin.entries_sorted p) ∙ ap (where_so test) (sym (fin.get-entries p q))

  -- maps with the same clauses that pass have the same entries that do
  pub same_where : (p r : ClauseMap) → ((q : ℕ) → where_so test (fin.get p q) ≡ where_so test (fin.get r q)) → filter (λ e. test e.1) (fin.entries p) ≡ filter (λ e. test e.1) (fin.entries r)
  same_where p r alike =
      same_entries nat_cmp nat_cmp_total nat_cmp-IsAntisymmetric _ _
      (is_sorted-filter (λ e. test e.1) (fin.entries p) (fin.entries_sorted p))
      (is_sorted-filter (λ e. test e.1) (fin.entries r) (fin.entries_sorted r))
      (λ q. found_where p q ∙ alike q ∙ sym (found_where r q))

  pub none_where : (p : ClauseMap) → ((q : ℕ) → where_so test (fin.get p q) ≡ None) → filter (λ e. test e.1) (fin.entries p) ≡ []
  none_where p gone =
      same_entries nat_cmp nat_cmp_total nat_cmp-IsAntisymmetric _ []
      (is_sorted-filter (λ e. test e.1) (fin.entries p) (fin.entries_sorted p)) tt
      (λ q. found_where p q ∙ gone q)

-- ---- what is seen is held

abbrev numbered : List (ℕ × Pair) → List (ℕ × LiteralSet)
numbered es = map (λ (e : ℕ × Pair). (e.1.joint, e.1.clause)) es

held_among : (es : List (ℕ × Pair)) (joint : ℕ) (c : LiteralSet) → T (is_sorted nat_cmp es) → find nat_cmp joint (numbered es) ≡ Some c → (own : ℕ) × (find nat_cmp own es ≡ Some (record { joint = joint; clause = c }))
held_among [] joint c sorted h = absurd (cc)
held_among (e ∷ es) joint c sorted h =
    elim (eq_by_cmp nat_cmp joint e.1.joint) as (λ b. eq_by_cmp nat_cmp joint e.1.joint ≡ b → cond b (Some e.1.clause) (find nat_cmp joint (numbered es)) ≡ Some c → (own : ℕ) × (find nat_cmp own (e ∷ es) ≡ Some (record { joint = joint; clause = c }))) [
      | true ↦ λ t g.
          let is : joint ≡ e.1.joint = eqb-true joint e.1.joint (sym (unsigned_tied joint e.1.joint) ∙ t) in
          let same : e.1.clause ≡ c = cc in
          (e.0, ap (λ r. cond (is_eq r) (Some e.1) (find nat_cmp e.0 es)) (tied_itself nat_cmp_total e.0) ∙ (λ i. Some (record { joint = sym is i; clause = same i })))
      | false ↦ λ t g. later (held_among es joint c (right_of _ _ sorted) g)
    ] refl h
  where
    later : (own : ℕ) × (find nat_cmp own es ≡ Some (record { joint = joint; clause = c })) → (own : ℕ) × (find nat_cmp own (e ∷ es) ≡ Some (record { joint = joint; clause = c }))
    later found = (
      found.0,
      elim (eq_by_cmp nat_cmp found.0 e.0) as (λ b. eq_by_cmp nat_cmp found.0 e.0 ≡ b → cond b (Some e.1) (find nat_cmp found.0 es) ≡ Some (record { joint = joint; clause = c })) [
        | true ↦ λ t.
            let is : found.0 ≡ e.0 = eqb-true found.0 e.0 (sym (unsigned_tied found.0 e.0) ∙ t) in
            absurd (false≢true (sym (ap is_some (ap (λ n. find nat_cmp n es) is ∙ none_below e.0 es (left_of _ _ sorted))) ∙ ap is_some found.1))
        | false ↦ λ t. found.1
      ] refl,
    )

pub seen_has_holder : (v : View) (joint : ℕ) (c : LiteralSet) → fin.get (seen_clauses v) joint ≡ Some c → (own : ℕ) × (pair_at v own ≡ Some (record { joint = joint; clause = c }))
seen_has_holder None joint c e = let none = fin.get-empty {X = LiteralSet} nat_cmp joint in absurd (cc)
seen_has_holder (Some h) joint c e =
    let found = held_among (fin.entries h) joint c (fin.entries_sorted h) (sym (fin.get-from_entries nat_cmp_total (numbered (fin.entries h)) joint) ∙ e) in
    (found.0, fin.get-entries h found.0 ∙ found.1)

-- ---- what is held is seen

seen_among : (es : List (ℕ × Pair)) (own : ℕ) (p : Pair) → find nat_cmp own es ≡ Some p → is_some (find nat_cmp p.joint (numbered es)) ≡ true
seen_among [] own p h = absurd (cc)
seen_among (e ∷ es) own p h =
    elim (eq_by_cmp nat_cmp own e.0) as (λ b. cond b (Some e.1) (find nat_cmp own es) ≡ Some p → is_some (find nat_cmp p.joint (numbered (e ∷ es))) ≡ true) [
      | true ↦ λ g. (let same : e.1 ≡ p = cc in
          ap (λ (q : Pair). is_some (find nat_cmp q.joint (numbered (e ∷ es)))) (sym same)
          ∙ ap (λ r. is_some (cond (is_eq r) (Some e.1.clause) (find nat_cmp e.1.joint (numbered es)))) (tied_itself nat_cmp_total e.1.joint))
      | false ↦ λ g. behind (eq_by_cmp nat_cmp p.joint e.1.joint) (seen_among es own p g)
    ] h
  where
    behind : (b : Bool) → is_some (find nat_cmp p.joint (numbered es)) ≡ true → is_some (cond b (Some e.1.clause) (find nat_cmp p.joint (numbered es))) ≡ true
    behind true g = refl
    behind false g = g

pub held_is_seen : (v : View) (own : ℕ) (p : Pair) → pair_at v own ≡ Some p → fin.contains_key (seen_clauses v) p.joint ≡ true
held_is_seen None own p h = absurd (cc)
held_is_seen (Some h) own p e =
    ap is_some (fin.get-from_entries nat_cmp_total (numbered (fin.entries h)) p.joint)
    ∙ seen_among (fin.entries h) own p (sym (fin.get-entries h own) ∙ e)

-- ---- renamed

find_numbered : (m : Renaming) (es : List (ℕ × Pair)) (q : ℕ) → find nat_cmp q (numbered (map (λ (e : ℕ × Pair). (e.0, pair_image m e.1)) es)) ≡ option_map (image m) (find nat_cmp q (numbered es))
find_numbered m [] q = refl
find_numbered m (e ∷ es) q = elim (eq_by_cmp nat_cmp q e.1.joint) as (λ b. cond b (Some (image m e.1.clause)) (find nat_cmp q (numbered (map (λ (e : ℕ × Pair). (e.0, pair_image m e.1)) es))) ≡ option_map (image m) (cond b (Some e.1.clause) (find nat_cmp q (numbered es)))) [ true ↦ refl | false ↦ find_numbered m es q ]

-- what is seen through a renaming is the image of what is seen
pub seen-image : (m : Renaming) (v : View) → seen_clauses (view_image m v) ≡ clauses_image m (seen_clauses v)
seen-image m None = same_map _ _ (λ q. fin.get-empty nat_cmp q ∙ ap (option_map (image m)) (sym (fin.get-empty nat_cmp q)) ∙ sym (get-clauses_image m fin.empty q))
seen-image m (Some h) = same_map _ _ (λ q.
    fin.get-from_entries nat_cmp_total (numbered (fin.entries (holdings_image m h))) q
    ∙ ap (λ (es : List (ℕ × Pair)). find nat_cmp q (numbered es)) (entries_mapped (pair_image m) h)
    ∙ find_numbered m (fin.entries h) q
    ∙ ap (option_map (image m)) (sym (fin.get-from_entries nat_cmp_total (numbered (fin.entries h)) q))
    ∙ sym (get-clauses_image m (seen_clauses (Some h)) q))

-- ---- the hints of a taken case

module _ (h : Holdings) where
  groups_held : (gs : List HintGroup) (ps : List (Pair × List Pair)) → group_pairs_of (fin.get h) gs ≡ Ok ps → AllByRecursion (λ (g : Pair × List Pair). AllHeld h g.1) ps
  groups_held [] ps e = let is : [] ≡ ps = cc in subst (AllByRecursion (λ (g : Pair × List Pair). AllHeld h g.1)) is tt
  groups_held (g ∷ gs) ps e = go (fin.get h g.candidate) (pairs_of (fin.get h) g.hints) refl (group_pairs_of (fin.get h) gs) (groups_held gs) e
    where
      go : (o : Option Pair) (r : Result (List Pair) Refusal) → pairs_of (fin.get h) g.hints ≡ r → (later : Result (List (Pair × List Pair)) Refusal) → ((qs : List (Pair × List Pair)) → later ≡ Ok qs → AllByRecursion (λ (g : Pair × List Pair). AllHeld h g.1) qs) → if_known g.candidate o (λ p. with_group_pair p r later) ≡ Ok ps → AllByRecursion (λ (g : Pair × List Pair). AllHeld h g.1) ps
      go None r at later rest e = absurd (cc)
      go (Some p) (Err x) at later rest e = absurd (cc)
      go (Some p) (Ok hints) at (Err x) rest e = absurd (cc)
      go (Some p) (Ok hints) at (Ok qs) rest e = let same : (p, hints) ∷ qs ≡ ps = cc in subst (AllByRecursion (λ (g : Pair × List Pair). AllHeld h g.1)) same (pairs_held h g.hints hints at, rest qs refl)

  numbers_seen : (ps : List Pair) → AllHeld h ps → AllByRecursion (λ n. fin.contains_key (seen_clauses (Some h)) n ≡ true) (numbers ps)
  numbers_seen [] all = tt
  numbers_seen (p ∷ ps) all = (held_is_seen (Some h) all.0.own p all.0.bound, numbers_seen ps all.1)

  groups_seen : (ps : List (Pair × List Pair)) → AllByRecursion (λ (g : Pair × List Pair). AllHeld h g.1) ps → AllByRecursion (λ (g : HintGroup). All (λ n. fin.contains_key (seen_clauses (Some h)) n ≡ true) g.hints) (map (λ (g : Pair × List Pair). record { candidate = g.0.joint; hints = numbers g.1 }) ps)
  groups_seen [] all = tt
  groups_seen (g ∷ ps) all = (All-from_recursion (λ n. fin.contains_key (seen_clauses (Some h)) n ≡ true) (numbers g.1) (numbers_seen g.1 all.0), groups_seen ps all.1)

  case_seen : (seat number : ℕ) (a : Addition) (c : CaseValue) (repeated : Option ℕ) (hints : Result (List Pair) Refusal) (groups : Result (List (Pair × List Pair)) Refusal) → group_pairs_of (fin.get h) a.groups ≡ groups → case_with seat a repeated hints groups ≡ Ok c → AreHintsIn (seen_clauses (Some h)) (joint_addition number c).groups
  case_seen seat number a c repeated (Err x) groups at e = absurd (cc)
  case_seen seat number a c repeated (Ok hints) (Err x) at e = absurd (cc)
  case_seen seat number a c (Some own) (Ok hints) (Ok groups) at e = absurd (cc)
  case_seen seat number a c None (Ok hints) (Ok groups) at e =
      let is : case_of seat a.number a.lemma hints groups ≡ c = cc in
      subst (λ (d : CaseValue). AreHintsIn (seen_clauses (Some h)) (joint_addition number d).groups) is
      (All-from_recursion (λ (g : HintGroup). All (λ n. fin.contains_key (seen_clauses (Some h)) n ≡ true) g.hints) _ (groups_seen groups (groups_held a.groups groups at)))

pub taken_hints_seen : TakenHintsAreSeen
taken_hints_seen None seat number a c e = absurd (cc)
taken_hints_seen (Some h) seat number a c e = by (fin.contains_key h a.number) e
  where
    by : (b : Bool) → cond b (Err NumberTaken) (solo_case h seat a) ≡ Ok c → AreHintsIn (seen_clauses (Some h)) (joint_addition number c).groups
    by true e = absurd (cc)
    by false e = case_seen h seat number a c (repeated_after (λ own. option_map (λ (p : Pair). p.joint) (fin.get h own)) [] a.groups) (pairs_of (fin.get h) a.hints) (group_pairs_of (fin.get h) a.groups) refl e
