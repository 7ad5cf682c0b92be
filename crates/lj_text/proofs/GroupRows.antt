-- Groups whose numbers stand in one row.
use Rattle.std.proofs.Common.{◌≡◌, ap, refl, sym, subst, ◌∙◌, ◌+◌, ◌-◌, ◌*◌, ◌≤◌, arith, append_assoc}
use Rattle.std.specs.Prelude.{ℕ, suc, List, [], ◌∷◌, ◌++◌, length, take, drop, map, get_or, slice_get, unwrap_or}
use Rattle.std.proofs.Math.Seq.{take-append_seam, drop-append_seam}
use Rattle.std.proofs.lemmas.List.{length-append, length-take, length-drop, drop-drop, map-append, append-nil}
use Rattle.lj_clause.specs.Rat.{HintGroup}
use Rattle.lj_text.specs.inner.Groups.{in_a_row, groups_in_row, front_group, group_from, IsRow}

-- the groups of a row are those whose numbers it has
pub row_back : (gs : List HintGroup) → groups_in_row (length gs) (in_a_row gs) ≡ gs
row_back [] = refl
row_back (g ∷ gs) =
    let made : List ℕ → List HintGroup → List HintGroup = λ hs others. record { candidate = g.candidate; hints = hs } ∷ others in
    let hs : List ℕ = g.hints in
    ap (λ ns. made ns (groups_in_row (length gs) (drop (length hs) (hs ++ in_a_row gs)))) (take-append_seam hs (in_a_row gs))
    ∙ ap (λ ns. made hs (groups_in_row (length gs) ns)) (drop-append_seam hs (in_a_row gs))
    ∙ ap (made hs) (row_back gs)

pub row-append : (gs ks : List HintGroup) → in_a_row (gs ++ ks) ≡ in_a_row gs ++ in_a_row ks
row-append [] ks = refl
row-append (g ∷ gs) ks =
    ap (λ ns. g.candidate ∷ length g.hints ∷ ns) (ap (λ ns. g.hints ++ ns) (row-append gs ks) ∙ sym (append_assoc g.hints (in_a_row gs) (in_a_row ks)))

-- each group takes two numbers at least
pub row-length : (gs : List HintGroup) → 2 * length gs ≤ length (in_a_row gs)
row-length [] = omega arith
row-length (g ∷ gs) =
    let behind = row-length gs in
    let long = length-append g.hints (in_a_row gs) in
    omega (arith, behind, long)

-- a group of no more hints than stand behind its count leaves a row behind it
pub next_row : (k c n : ℕ) (ns : List ℕ) → IsRow (suc k) (c ∷ n ∷ ns) → (length (take n ns) ≡ n) × IsRow k (drop n ns)
next_row k c n ns is =
    let gs = groups_in_row k (drop n ns) in
    let counted : length (take n ns) ≡ n = ap (λ l. get_or l 1 0) is.0 in
    let rest : take n ns ++ in_a_row gs ≡ ns = ap (drop 2) is.0 in
    let behind : in_a_row gs ≡ drop n ns =
    sym (drop-append_seam (take n ns) (in_a_row gs))
    ∙ ap (λ m. drop m (take n ns ++ in_a_row gs)) counted
    ∙ ap (drop n) rest in
    let count : length gs ≡ k = omega (arith, is.1) in
    (counted, (behind, count))

-- a row with a group more
pub push_row : (k : ℕ) (ns : List ℕ) (g : HintGroup) → IsRow k ns → (groups_in_row (k + 1) (ns ++ g.candidate ∷ length g.hints ∷ g.hints) ≡ groups_in_row k ns ++ g ∷ []) × IsRow (k + 1) (ns ++ g.candidate ∷ length g.hints ∷ g.hints)
push_row k ns g is =
    let gs = groups_in_row k ns in
    let all : List HintGroup = gs ++ g ∷ [] in
    let row : in_a_row all ≡ ns ++ g.candidate ∷ length g.hints ∷ g.hints =
    row-append gs (g ∷ [])
    ∙ ap (λ (ms : List ℕ). ms ++ (g.candidate ∷ length g.hints ∷ (g.hints ++ []))) is.0
    ∙ ap (λ (ms : List ℕ). ns ++ (g.candidate ∷ length g.hints ∷ ms)) (append-nil g.hints) in
    let count : length all ≡ k + 1 = omega (arith, length-append gs (g ∷ []), is.1) in
    let back : groups_in_row (k + 1) (ns ++ g.candidate ∷ length g.hints ∷ g.hints) ≡ all =
    ap (λ m. groups_in_row m (ns ++ g.candidate ∷ length g.hints ∷ g.hints)) (sym count)
    ∙ ap (groups_in_row (length all)) (sym row)
    ∙ row_back all in
    (back, (ap in_a_row back ∙ row, ap length back ∙ count))

-- the first group of a row stands at its front, and behind its numbers the row of the others begins
pub row_first : (k m : ℕ) (ns : List ℕ) → IsRow (suc k) ns → m ≡ get_or ns 1 0 + 2 → (groups_in_row (suc k) ns ≡ front_group ns ∷ groups_in_row k (drop m ns)) × (IsRow k (drop m ns) × (m ≤ length ns))
row_first k m [] is e = absurd (omega (arith, is.1))
row_first k m (c ∷ []) is e = absurd (omega (arith, is.1))
row_first k m (c ∷ n ∷ ns) is e =
    let next = next_row k c n ns is in
    let same : suc (suc n) ≡ m = omega (arith, e) in
    let within : n ≤ length ns = omega (arith, next.0, length-take n ns) in
    subst (λ (d : ℕ). (groups_in_row (suc k) (c ∷ n ∷ ns) ≡ front_group (c ∷ n ∷ ns) ∷ groups_in_row k (drop d (c ∷ n ∷ ns))) × (IsRow k (drop d (c ∷ n ∷ ns)) × (d ≤ length (c ∷ n ∷ ns)))) same (refl, (next.1, omega (arith, within)))

second : (ns : List ℕ) → unwrap_or (slice_get ns 1) 0 ≡ get_or ns 1 0
second [] = refl
second (c ∷ []) = refl
second (c ∷ n ∷ ns) = refl

-- the rest of a row, from which so many groups are still to be listed by where their numbers begin
pub record IsListed (ns rest starts : List ℕ) (k : ℕ) (all : List HintGroup) : Type 0 where
  pub within : length rest ≤ length ns
  pub rest_is : drop (length ns - length rest) ns ≡ rest
  pub row : IsRow k rest
  pub listed : map (group_from ns) starts ++ groups_in_row k rest ≡ all

-- one group more is listed
pub list_next : (k hints : ℕ) (ns rest next starts : List ℕ) (all : List HintGroup) → IsListed ns rest starts (suc k) all → hints ≡ unwrap_or (slice_get rest 1) 0 → drop hints (drop 2 rest) ≡ next → IsListed ns next (starts ++ (length ns - length rest) ∷ []) k all
list_next k hints ns rest next starts all is read dropped =
    let m : ℕ = hints + 2 in
    let start : ℕ = length ns - length rest in
    let first = row_first k m rest is.row (ap (λ (n : ℕ). n + 2) (read ∙ second rest)) in
    let behind : drop m rest ≡ next = ap (λ (n : ℕ). drop n rest) (omega arith) ∙ sym (drop-drop hints 2 rest) ∙ dropped in
    let left : length next ≡ length rest - m = sym (ap length behind) ∙ length-drop m rest in
    let sum : start + m ≡ length ns - length next = omega (arith, left, first.1.1, is.within) in
    let others : List HintGroup = groups_in_row k next in
    record {
      within = omega (arith, left, is.within);
      rest_is = ap (λ (n : ℕ). drop n ns) (sym sum) ∙ sym (drop-drop m start ns) ∙ ap (drop m) is.rest_is ∙ behind;
      row = subst (IsRow k) behind first.1.0;
      listed =
          ap (λ (gs : List HintGroup). gs ++ others) (map-append (group_from ns) starts (start ∷ []))
          ∙ append_assoc (map (group_from ns) starts) (group_from ns start ∷ []) others
          ∙ ap (λ (front : List ℕ). map (group_from ns) starts ++ front_group front ∷ others) is.rest_is
          ∙ ap (λ (left : List ℕ). map (group_from ns) starts ++ front_group rest ∷ groups_in_row k left) (sym behind)
          ∙ ap (λ (gs : List HintGroup). map (group_from ns) starts ++ gs) (sym first.0)
          ∙ is.listed;
    }
