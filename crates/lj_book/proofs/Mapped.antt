-- Maps whose values are those of another map, each changed in one way.
use Rattle.std.proofs.Common.{◌≡◌, ap, refl, sym, subst, ◌∙◌, ℕ, Bool, cond, true, false}
use Rattle.std.specs.Prelude.{T, ◌&&◌, List, [], ◌∷◌, map, Option, Some, None, option_map}
use Rattle.std.specs.Ordering.{nat_cmp, eq_by_cmp, is_lt}
use Rattle.std.specs.Cmp.{nat_cmp_total}
use Rattle.std.specs.FinMap as fin
use Rattle.std.specs.FinMap.Entries.{find, is_sorted, below_all, same_entries}
use Rattle.lj_book.proofs.NumberMaps.{same_map}

-- the map with each value changed
abbrev pub mapped : {A B : Type 0} → (A → B) → fin.FinMap nat_cmp A → fin.FinMap nat_cmp B
mapped g m = fin.from_entries (map (λ e. (e.0, g e.1)) (fin.entries m))

find_mapped : {A B : Type 0} (g : A → B) (q : ℕ) (es : List (ℕ × A)) → find nat_cmp q (map (λ e. (e.0, g e.1)) es) ≡ option_map g (find nat_cmp q es)
find_mapped g q [] = refl
find_mapped {A} {B} g q (e ∷ es) = ap (cond (eq_by_cmp nat_cmp q e.0) (Some (g e.1))) (find_mapped g q es) ∙ by (eq_by_cmp nat_cmp q e.0)
  where
    by : (b : Bool) → cond b (Some (g e.1)) (option_map g (find nat_cmp q es)) ≡ option_map g (cond b (Some e.1) (find nat_cmp q es))
    by true = refl
    by false = refl

pub get_mapped : {A B : Type 0} (g : A → B) (m : fin.FinMap nat_cmp A) (q : ℕ) → fin.get (mapped g m) q ≡ option_map g (fin.get m q)
get_mapped g m q =
    fin.get-from_entries nat_cmp_total (map (λ e. (e.0, g e.1)) (fin.entries m)) q
    ∙ find_mapped g q (fin.entries m)
    ∙ ap (option_map g) (sym (fin.get-entries m q))

below_mapped : {A B : Type 0} (g : A → B) (n : ℕ) (es : List (ℕ × A)) → below_all nat_cmp n (map (λ e. (e.0, g e.1)) es) ≡ below_all nat_cmp n es
below_mapped g n [] = refl
below_mapped g n (e ∷ es) = ap (λ b. is_lt (nat_cmp n e.0) && b) (below_mapped g n es)

sorted_mapped : {A B : Type 0} (g : A → B) (es : List (ℕ × A)) → is_sorted nat_cmp (map (λ e. (e.0, g e.1)) es) ≡ is_sorted nat_cmp es
sorted_mapped g [] = refl
sorted_mapped g (e ∷ es) = λ i. below_mapped g e.0 es i && sorted_mapped g es i

pub entries_mapped : {A B : Type 0} (g : A → B) (m : fin.FinMap nat_cmp A) → fin.entries (mapped g m) ≡ map (λ e. (e.0, g e.1)) (fin.entries m)
entries_mapped g m =
    same_entries nat_cmp nat_cmp_total fin.nat_cmp-IsAntisymmetric (fin.entries (mapped g m)) (map (λ e. (e.0, g e.1)) (fin.entries m))
    (fin.entries_sorted (mapped g m)) (subst T (sym (sorted_mapped g (fin.entries m))) (fin.entries_sorted m))
    (λ q. sym (fin.get-entries (mapped g m) q) ∙ fin.get-from_entries nat_cmp_total (map (λ e. (e.0, g e.1)) (fin.entries m)) q)

pub mapped_empty : {A B : Type 0} (g : A → B) (m : fin.FinMap nat_cmp A) → m ≡ fin.empty → mapped g m ≡ fin.empty
mapped_empty {A} g m is = same_map _ _ (λ q. get_mapped g m q ∙ ap (λ (n : fin.FinMap nat_cmp A). option_map g (fin.get n q)) is ∙ ap (option_map g) (fin.get-empty nat_cmp q) ∙ sym (fin.get-empty nat_cmp q))

put_mapped : {A B : Type 0} (g : A → B) (b : Bool) (x : A) (o : Option A) → option_map g (cond b (Some x) o) ≡ cond b (Some (g x)) (option_map g o)
put_mapped g true x o = refl
put_mapped g false x o = refl

cut_mapped : {A B : Type 0} (g : A → B) (b : Bool) (o : Option A) → option_map g (cond b None o) ≡ cond b None (option_map g o)
cut_mapped g true o = refl
cut_mapped g false o = refl

pub mapped_insert : {A B : Type 0} (g : A → B) (m : fin.FinMap nat_cmp A) (k : ℕ) (x : A) → mapped g (fin.insert m k x) ≡ fin.insert (mapped g m) k (g x)
mapped_insert g m k x = same_map _ _ (λ q.
    get_mapped g (fin.insert m k x) q
    ∙ ap (option_map g) (fin.get-insert nat_cmp_total m k x q)
    ∙ put_mapped g (eq_by_cmp nat_cmp q k) x (fin.get m q)
    ∙ ap (cond (eq_by_cmp nat_cmp q k) (Some (g x))) (sym (get_mapped g m q))
    ∙ sym (fin.get-insert nat_cmp_total (mapped g m) k (g x) q))

pub mapped_remove : {A B : Type 0} (g : A → B) (m : fin.FinMap nat_cmp A) (k : ℕ) → mapped g (fin.remove m k) ≡ fin.remove (mapped g m) k
mapped_remove g m k = same_map _ _ (λ q.
    get_mapped g (fin.remove m k) q
    ∙ ap (option_map g) (fin.get-remove nat_cmp_total m k q)
    ∙ cut_mapped g (eq_by_cmp nat_cmp q k) (fin.get m q)
    ∙ ap (cond (eq_by_cmp nat_cmp q k) None) (sym (get_mapped g m q))
    ∙ sym (fin.get-remove nat_cmp_total (mapped g m) k q))
