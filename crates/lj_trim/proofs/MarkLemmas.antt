-- Marks, one call after the other.
use Rattle.std.proofs.Common.{◌≡◌, ℕ, ◌+◌, true, false, List, [], ◌∷◌, ◌++◌, length, sym, ◌∙◌, subst, arith, length-append}
use Rattle.std.proofs.lemmas.Bool.{false≢true}
use Rattle.std.specs.List.{AllByRecursion}
use Rattle.lj_text.specs.declared.line.Addition.{Addition}
use Rattle.lj_text.specs.Needed.{has, all_hints}
use Rattle.lj_trim.specs.declared.marks.Marks.{Marks}
use Rattle.lj_trim.specs.inner.Marks.{is_marked, Marked, IsCovered, Covers, Passed}

pub all-append : {X : Type 0} (P : X → Type 0) (xs ys : List X) → AllByRecursion P xs → AllByRecursion P ys → AllByRecursion P (xs ++ ys)
all-append P [] ys h k = k
all-append P (x ∷ xs) ys h k = (h.0, all-append P xs ys h.1 k)

pub all-front : {X : Type 0} (P : X → Type 0) (xs ys : List X) → AllByRecursion P (xs ++ ys) → AllByRecursion P xs
all-front P [] ys h = tt
all-front P (x ∷ xs) ys h = (h.0, all-front P xs ys h.1)

pub all-back : {X : Type 0} (P : X → Type 0) (xs ys : List X) → AllByRecursion P (xs ++ ys) → AllByRecursion P ys
all-back P [] ys h = h
all-back P (x ∷ xs) ys h = all-back P xs ys h.1

pub all-map : {X : Type 0} (P Q : X → Type 0) → ((x : X) → P x → Q x) → (xs : List X) → AllByRecursion P xs → AllByRecursion Q xs
all-map P Q f [] h = tt
all-map P Q f (x ∷ xs) h = (f x h.0, all-map P Q f xs h.1)

pub marked_none : (m : Marks) → Marked m m []
marked_none m = record { grows = λ n h. h; all = tt; only = λ s w h. w }

pub marked_then : (m k j : Marks) (ns ms : List ℕ) → Marked m k ns → Marked k j ms → Marked m j (ns ++ ms)
marked_then m k j ns ms a b = record {
  grows = λ n h. b.grows n (a.grows n h);
  all = all-append (λ n. is_marked j n ≡ true) ns ms (all-map (λ n. is_marked k n ≡ true) (λ n. is_marked j n ≡ true) b.grows ns a.all) b.all;
  only = λ s w h. b.only s (a.only s w (all-front (λ n. has s n ≡ true) ns ms h)) (all-back (λ n. has s n ≡ true) ns ms h);
}

-- the hints of an addition with a marked number were marked
pub passed_taken : (m k j : Marks) (x : Addition) (rest still : List Addition) → Passed m k rest still → is_marked k x.number ≡ true → Marked k j (all_hints x) → Passed m j (x ∷ rest) still
passed_taken m k j x rest still p here a =
    let fewer = p.fewer in
    record {
      grows = λ n h. a.grows n (p.grows n h);
      only = λ s w h. let before = p.only s w h.1 in a.only s before (h.0 (before x.number here));
      closes = λ l g h. (λ _. all-map (λ n. is_marked j n ≡ true) (λ n. is_marked l n ≡ true) g (all_hints x) a.all, p.closes l (λ n e. g n (a.grows n e)) h);
      stays = λ s h. p.stays s h.1;
      fewer = omega (arith, fewer);
      idle = λ e. absurd (omega (arith, fewer, e));
    }

-- an addition whose number isn't marked is still open
pub passed_open : (m k : Marks) (x : Addition) (rest still : List Addition) → Passed m k rest still → is_marked k x.number ≡ false → Passed m k (x ∷ rest) (still ++ x ∷ [])
passed_open m k x rest still p here =
    let fewer = p.fewer in
    let longer : length (still ++ x ∷ []) ≡ length still + 1 = length-append still (x ∷ []) in
    record {
      grows = p.grows;
      only = λ s w h. p.only s w h.1;
      closes = λ l g h. ((all-back (IsCovered l) still (x ∷ []) h).0, p.closes l g (all-front (IsCovered l) still (x ∷ []) h));
      stays = λ s h. all-append (Covers s) still (x ∷ []) (p.stays s h.1) (h.0, tt);
      fewer = omega (arith, fewer, longer);
      idle = λ e. all-append (λ (a : Addition). is_marked k a.number ≡ false) still (x ∷ []) (p.idle (omega (arith, longer, e))) (here, tt);
    }

-- additions without a marked number are covered
pub covered_unmarked : (m : Marks) (adds : List Addition) → AllByRecursion (λ (a : Addition). is_marked m a.number ≡ false) adds → AllByRecursion (IsCovered m) adds
covered_unmarked m adds h = all-map (λ (a : Addition). is_marked m a.number ≡ false) (IsCovered m) (λ a no yes. absurd (false≢true (sym no ∙ yes))) adds h

pub passed_along : (m k : Marks) (begun other still : List Addition) → begun ≡ other → Passed m k begun still → Passed m k other still
passed_along m k begun other still e p = subst (λ (t : List Addition). Passed m k t still) e p

pub passed_still : (m k : Marks) (begun still other : List Addition) → still ≡ other → Passed m k begun still → Passed m k begun other
passed_still m k begun still other e p = subst (λ (t : List Addition). Passed m k begun t) e p
