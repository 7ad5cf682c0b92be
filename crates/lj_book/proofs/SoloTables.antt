-- The tables of seats one by one, and a seat's holdings.
use Rattle.std.proofs.Common.{◌≡◌, ap, refl, sym, ◌∙◌, inl, inr, ℕ, zero, suc, ◌<◌, Bool, cond, true, false, arith}
use Rattle.std.specs.Prelude.{◌⊎◌, List, [], ◌∷◌, map, length, Option, Some, None, option_map, option_and_then, not, is_some, nat_lt, unwrap_or}
use Rattle.std.proofs.lemmas.Bool.{false≢true}
use Rattle.std.proofs.lemmas.Bool.Decides.{nat_tests}
use Rattle.std.specs.declared.cmp.Ordering.TheVariants.{Equal}
use Rattle.std.specs.Ordering.{nat_cmp, eq_by_cmp}
use Rattle.std.specs.Cmp.{nat_cmp_total}
use Rattle.std.specs.FinMap as fin
use Rattle.std.specs.FinMap.{nat_cmp-IsAntisymmetric}
use Rattle.lj_clause.specs.LiteralSet.{LiteralSet, no_literals}
use Rattle.lj_clause.specs.ClauseMap.{ClauseMap}
use Rattle.lj_book.specs.Tables.{Table, Tables, table_of, joint_of, with_table, with_binding, without_seat, is_among, without_keys, has_holder}
use Rattle.lj_book.specs.inner.Holders.{count_in}
use Rattle.lj_book.specs.Solo.{Holdings, with_clause, holdings_of, without_holdings}
use Rattle.lj_book.proofs.NumberMaps.{same_map}
use Rattle.lj_book.proofs.Mapped.{get_mapped}
use Rattle.lj_book.proofs.TableLaws.{held_counts, count-remove, holders_at_least, self_counts, get-without_keys, joint_in_table}
use Rattle.lj_book.proofs.HistoryLaws.{among-keys}
use Rattle.lj_book.proofs.DropLaws.{Rises-keys, same_rising}

-- ---- which seat's table changes

pub table_of-other : (change : Table → Table) (ts : Tables) (k seat : ℕ) → (k ≡ seat → ⊥) → table_of (with_table change ts k) seat ≡ table_of ts seat
table_of-other change [] k seat h = refl
table_of-other change (t ∷ ts) zero zero h = absurd (h refl)
table_of-other change (t ∷ ts) zero (suc seat) h = refl
table_of-other change (t ∷ ts) (suc k) zero h = refl
table_of-other change (t ∷ ts) (suc k) (suc seat) h = table_of-other change ts k seat (λ e. h (ap suc e))

pub table_of-left : (ts : Tables) (k : ℕ) → table_of (without_seat ts k) k ≡ None
table_of-left [] k = refl
table_of-left (t ∷ ts) zero = refl
table_of-left (t ∷ ts) (suc k) = table_of-left ts k

pub table_of-left_other : (ts : Tables) (k seat : ℕ) → (k ≡ seat → ⊥) → table_of (without_seat ts k) seat ≡ table_of ts seat
table_of-left_other [] k seat h = refl
table_of-left_other (t ∷ ts) zero zero h = absurd (h refl)
table_of-left_other (t ∷ ts) zero (suc seat) h = refl
table_of-left_other (t ∷ ts) (suc k) zero h = refl
table_of-left_other (t ∷ ts) (suc k) (suc seat) h = table_of-left_other ts k seat (λ e. h (ap suc e))

pub length-with_table : (change : Table → Table) (ts : Tables) (k : ℕ) → length (with_table change ts k) ≡ length ts
length-with_table change [] k = refl
length-with_table change (t ∷ ts) zero = refl
length-with_table change (t ∷ ts) (suc k) = ap suc (length-with_table change ts k)

pub length-without_seat : (ts : Tables) (k : ℕ) → length (without_seat ts k) ≡ length ts
length-without_seat [] k = refl
length-without_seat (t ∷ ts) zero = refl
length-without_seat (t ∷ ts) (suc k) = ap suc (length-without_seat ts k)

-- ---- what is bound after a change was bound before, or is what was bound

none_some : {X P : Type 0} (x : X) → None ≡ Some x → P
none_some x e = absurd (false≢true (ap is_some e))

bound_or_new : (t : Option Table) (own0 j0 own joint : ℕ) → option_and_then (λ (u : Table). fin.get u own) (option_map (λ (u : Table). fin.insert u own0 j0) t) ≡ Some joint → (option_and_then (λ (u : Table). fin.get u own) t ≡ Some joint) ⊎ (joint ≡ j0)
bound_or_new None own0 j0 own joint h = inl h
bound_or_new (Some t) own0 j0 own joint h = go (eq_by_cmp nat_cmp own own0) (sym (fin.get-insert nat_cmp_total t own0 j0 own) ∙ h)
  where
    go : (b : Bool) → cond b (Some j0) (fin.get t own) ≡ Some joint → (fin.get t own ≡ Some joint) ⊎ (joint ≡ j0)
    go true e = let is : j0 ≡ joint = cc in inr (sym is)
    go false e = inl e

pub joint_of-binding : (ts : Tables) (k own0 j0 seat own joint : ℕ) → joint_of (with_binding ts k own0 j0) seat own ≡ Some joint → (joint_of ts seat own ≡ Some joint) ⊎ (joint ≡ j0)
joint_of-binding [] k own0 j0 seat own joint h = inl h
joint_of-binding (t ∷ ts) zero own0 j0 zero own joint h = bound_or_new t own0 j0 own joint h
joint_of-binding (t ∷ ts) zero own0 j0 (suc seat) own joint h = inl h
joint_of-binding (t ∷ ts) (suc k) own0 j0 zero own joint h = inl h
joint_of-binding (t ∷ ts) (suc k) own0 j0 (suc seat) own joint h = joint_of-binding ts k own0 j0 seat own joint h

bound_before : (numbers : List ℕ) (t : Option Table) (own joint : ℕ) → option_and_then (λ (u : Table). fin.get u own) (option_map (without_keys numbers) t) ≡ Some joint → option_and_then (λ (u : Table). fin.get u own) t ≡ Some joint
bound_before numbers None own joint h = h
bound_before numbers (Some t) own joint h = go (not (is_among numbers own)) (sym (get-without_keys numbers t own) ∙ h)
  where
    go : (b : Bool) → cond b (fin.get t own) None ≡ Some joint → fin.get t own ≡ Some joint
    go true e = e
    go false e = none_some joint e

pub joint_of-dropped : (numbers : List ℕ) (ts : Tables) (k seat own joint : ℕ) → joint_of (with_table (without_keys numbers) ts k) seat own ≡ Some joint → joint_of ts seat own ≡ Some joint
joint_of-dropped numbers [] k seat own joint h = h
joint_of-dropped numbers (t ∷ ts) zero zero own joint h = bound_before numbers t own joint h
joint_of-dropped numbers (t ∷ ts) zero (suc seat) own joint h = h
joint_of-dropped numbers (t ∷ ts) (suc k) zero own joint h = h
joint_of-dropped numbers (t ∷ ts) (suc k) (suc seat) own joint h = joint_of-dropped numbers ts k seat own joint h

pub joint_of-left : (ts : Tables) (k seat own joint : ℕ) → joint_of (without_seat ts k) seat own ≡ Some joint → joint_of ts seat own ≡ Some joint
joint_of-left [] k seat own joint h = h
joint_of-left (t ∷ ts) zero zero own joint h = none_some joint h
joint_of-left (t ∷ ts) zero (suc seat) own joint h = h
joint_of-left (t ∷ ts) (suc k) zero own joint h = h
joint_of-left (t ∷ ts) (suc k) (suc seat) own joint h = joint_of-left ts k seat own joint h

-- a joint number to which an own number of a seat is bound is held
pub bound_has_holder : (ts : Tables) (seat own joint : ℕ) → joint_of ts seat own ≡ Some joint → has_holder ts joint ≡ true
bound_has_holder ts seat own joint is = go (table_of ts seat) refl
  where
    more : (n : ℕ) → 0 < n → nat_lt 0 n ≡ true
    more n h = grind (arith, nat_tests)

    go : (o : Option Table) → table_of ts seat ≡ o → has_holder ts joint ≡ true
    go None at = none_some joint (sym (ap (option_and_then (λ (u : Table). fin.get u own)) at) ∙ is)
    go (Some t) at =
        let a = count-remove t own joint joint (sym (joint_in_table ts seat own t at) ∙ is) in
        let b = self_counts joint (count_in (Some (fin.remove t own)) joint) in
        let c = holders_at_least ts seat joint t at in
        held_counts ts joint ∙ more _ (omega arith)

-- ---- holdings

-- an own number is bound to its joint number, with that number's clause
pub get-holdings : (p : ClauseMap) (t : Table) (own : ℕ) → fin.get (holdings_of p t) own ≡ option_map (with_clause p) (fin.get t own)
get-holdings p t own = get_mapped (with_clause p) t own

pub same_holdings : (h g : Holdings) → ((q : ℕ) → fin.get h q ≡ fin.get g q) → h ≡ g
same_holdings h g e = same_map h g e

-- two clause maps agree at what the table binds
abbrev pub AgreeAt : ClauseMap → ClauseMap → Table → Type 0
AgreeAt p q t = (own joint : ℕ) → fin.get t own ≡ Some joint → with_clause p joint ≡ with_clause q joint

agreed : (p q : ClauseMap) (t : Table) (own : ℕ) → AgreeAt p q t → option_map (with_clause p) (fin.get t own) ≡ option_map (with_clause q) (fin.get t own)
agreed p q t own h = go (fin.get t own) refl
  where
    go : (o : Option ℕ) → fin.get t own ≡ o → option_map (with_clause p) o ≡ option_map (with_clause q) o
    go None e = refl
    go (Some joint) e = ap Some (h own joint e)

pub holdings-agree : (p q : ClauseMap) (t : Table) → AgreeAt p q t → holdings_of p t ≡ holdings_of q t
holdings-agree p q t h = same_holdings _ _ (λ own. get-holdings p t own ∙ agreed p q t own h ∙ sym (get-holdings q t own))

pub holdings-insert : (p q : ClauseMap) (t : Table) (own joint : ℕ) (c : LiteralSet) → AgreeAt p q t → fin.get q joint ≡ Some c → holdings_of q (fin.insert t own joint) ≡ fin.insert (holdings_of p t) own (record { joint = joint; clause = c })
holdings-insert p q t own joint c h is = same_holdings _ _ (λ k.
    get-holdings q (fin.insert t own joint) k
    ∙ ap (option_map (with_clause q)) (fin.get-insert nat_cmp_total t own joint k)
    ∙ chosen (eq_by_cmp nat_cmp k own) k
    ∙ sym (fin.get-insert nat_cmp_total (holdings_of p t) own (record { joint = joint; clause = c }) k))
  where
    chosen : (b : Bool) (k : ℕ) → option_map (with_clause q) (cond b (Some joint) (fin.get t k)) ≡ cond b (Some (record { joint = joint; clause = c })) (fin.get (holdings_of p t) k)
    chosen true k = ap (λ (o : Option LiteralSet). Some (record { joint = joint; clause = unwrap_or o no_literals })) is
    chosen false k = sym (get-holdings p t k ∙ agreed p q t k h)

pub holdings-without : (p : ClauseMap) (numbers : List ℕ) (t : Table) → holdings_of p (without_keys numbers t) ≡ without_holdings numbers (holdings_of p t)
holdings-without p numbers t = same_holdings _ _ (λ k.
    get-holdings p (without_keys numbers t) k
    ∙ ap (option_map (with_clause p)) (get-without_keys numbers t k)
    ∙ chosen (not (is_among numbers k)) k
    ∙ sym (fin.get-retain_keys (holdings_of p t) (λ own. not (is_among numbers own)) k (alike k)))
  where
    alike : (k x : ℕ) → nat_cmp k x ≡ Equal → not (is_among numbers x) ≡ not (is_among numbers k)
    alike k x e = ap (λ n. not (is_among numbers n)) (sym (nat_cmp-IsAntisymmetric k x e))

    chosen : (b : Bool) (k : ℕ) → option_map (with_clause p) (cond b (fin.get t k) None) ≡ cond b (fin.get (holdings_of p t) k) None
    chosen true k = sym (get-holdings p t k)
    chosen false k = refl

is_some-map : {X Y : Type 0} (f : X → Y) (o : Option X) → is_some (option_map f o) ≡ is_some o
is_some-map f None = refl
is_some-map f (Some x) = refl

pub contains-holdings : (p : ClauseMap) (t : Table) (own : ℕ) → fin.contains_key (holdings_of p t) own ≡ fin.contains_key t own
contains-holdings p t own = ap is_some (get-holdings p t own) ∙ is_some-map (with_clause p) (fin.get t own)

pub len-holdings : (p : ClauseMap) (t : Table) → fin.len (holdings_of p t) ≡ fin.len t
len-holdings p t =
    let same = same_rising (fin.keys (holdings_of p t)) (fin.keys t) (Rises-keys (holdings_of p t)) (Rises-keys t) (λ q. among-keys (holdings_of p t) q ∙ contains-holdings p t q ∙ sym (among-keys t q)) in
    length_keys (holdings_of p t) ∙ ap length same ∙ sym (length_keys t)
  where
    mapped : {X Y : Type 0} (f : X → Y) (xs : List X) → length xs ≡ length (map f xs)
    mapped f [] = refl
    mapped f (x ∷ xs) = ap suc (mapped f xs)

    length_keys : {X : Type 0} (m : fin.FinMap nat_cmp X) → fin.len m ≡ length (fin.keys m)
    length_keys m = fin.len-entries m ∙ mapped (λ e. e.0) (fin.entries m)
