-- Lines that are tested ahead and then entered, one after the other.
use Rattle.std.proofs.Common.{◌≡◌, ap, refl, sym, ◌∙◌, subst, ℕ, zero, suc, ◌+◌, ◌-◌, ◌<◌, ◌≤◌, Bool, true, false, arith}
use Rattle.std.specs.Prelude.{nat_lt, Result, Ok, Err, IfOk, IfErr, is_some, Option, None, List, [], ◌∷◌, ◌++◌, length, take, drop, Some, slice_get, slice_set}
use Rattle.std.proofs.lemmas.Bool.{false≢true, ltb-true, ltb-false}
use Rattle.std.proofs.lemmas.List.{length-drop, take_all}
use Rattle.lj_clause.specs.ClauseMap.{ClauseMap}
use Rattle.lj_text.specs.declared.line.Addition.{Addition}
use Rattle.lj_text.specs.declared.line.Line.{Line}
use Rattle.lj_text.specs.declared.line.Line.TheVariants as lines
use Rattle.lj_book.specs.declared.refusal.Refusal.{Refusal}
use Rattle.lj_book.specs.Solo.{View}
use Rattle.lj_book.specs.Views.{IsClosedAlone, decided_refusal}
use Rattle.lj_share.specs.declared.seat.Unlocked.{Unlocked}
use Rattle.lj_share.specs.declared.seat.Unlocked.TheVariants.{Closed, Open}
use Rattle.lj_share.specs.Refusals.{IsDecided}
use Rattle.lj_share.specs.inner.Seats.{IfClosed, IsTestedAs}
use Rattle.lj_share.specs.declared.numbered.Numbered.{Numbered}
use Rattle.lj_share.specs.inner.Ahead.{AreSeen, AreTested, IsClosedBy, IsRefusedBy, IsTestedLine, clauses_after_line, clauses_behind}
use Rattle.lj_share.proofs.Confirming.{some_same}
use Rattle.lj_share.proofs.OwnLaws.{set_at, set_apart}

-- ---- lists

pub take_next : {A : Type 0} (xs : List A) (k : ℕ) (x : A) → slice_get xs k ≡ Some x → take (k + 1) xs ≡ take k xs ++ x ∷ []
take_next [] k x at = absurd cc
take_next (y ∷ xs) zero x at = ap (λ z. z ∷ []) (some_same y x at)
take_next (y ∷ xs) (suc k) x at =
    let on : suc k + 1 ≡ suc (k + 1) = omega arith in
    ap (λ n. take n (y ∷ xs)) on ∙ ap (λ zs. y ∷ zs) (take_next xs k x at)

take_none : {A : Type 0} (n : ℕ) (xs : List A) → xs ≡ [] → take n xs ≡ []
take_none zero xs is = ap (take 0) is
take_none (suc n) xs is = ap (take (suc n)) is

pub take_plus : {A : Type 0} (xs : List A) (a b : ℕ) → take a xs ++ take b (drop a xs) ≡ take (a + b) xs
take_plus [] zero b = let on : b ≡ 0 + b = omega arith in ap (λ n. take n []) on
take_plus [] (suc a) b = take_none b [] refl ∙ sym (take_none (suc a + b) [] refl)
take_plus (y ∷ xs) zero b = let on : b ≡ 0 + b = omega arith in ap (λ n. take n (y ∷ xs)) on
take_plus (y ∷ xs) (suc a) b =
    let on : suc (a + b) ≡ suc a + b = omega arith in
    ap (λ zs. y ∷ zs) (take_plus xs a b) ∙ ap (λ n. take n (y ∷ xs)) on

get_dropped : {A : Type 0} (xs : List A) (a k : ℕ) → slice_get (drop a xs) k ≡ slice_get xs (a + k)
get_dropped [] zero k = refl
get_dropped [] (suc a) k = refl
get_dropped (y ∷ xs) zero k = let on : k ≡ 0 + k = omega arith in ap (slice_get (y ∷ xs)) on
get_dropped (y ∷ xs) (suc a) k =
    let on : suc (a + k) ≡ suc a + k = omega arith in
    get_dropped xs a k ∙ ap (slice_get (y ∷ xs)) on

-- what stands behind a place of a list, as a slice has it
abbrev pub behind : {A : Type 0} → List A → ℕ → List A
behind xs a = take (length xs - a) (drop a xs)

pub behind_is : {A : Type 0} (xs : List A) (a : ℕ) → behind xs a ≡ drop a xs
behind_is xs a = take_all (length xs - a) (drop a xs) (let long = length-drop a xs in omega (arith, long))

pub get_behind : {A : Type 0} (xs : List A) (a k : ℕ) → slice_get (behind xs a) k ≡ slice_get xs (a + k)
get_behind xs a k = ap (λ ys. slice_get ys k) (behind_is xs a) ∙ get_dropped xs a k

-- ---- clauses

behind_more : (m : ClauseMap) (ls : List Numbered) (l : Numbered) → clauses_behind m (ls ++ l ∷ []) ≡ clauses_after_line (clauses_behind m ls) l.line
behind_more m [] l = refl
behind_more m (x ∷ ls) l = behind_more (clauses_after_line m x.line) ls l

pub behind_next : (m : ClauseMap) (ls : List Numbered) (k : ℕ) (l : Numbered) → slice_get ls k ≡ Some l → clauses_behind m (take (k + 1) ls) ≡ clauses_after_line (clauses_behind m (take k ls)) l.line
behind_next m ls k l at = ap (clauses_behind m) (take_next ls k l at) ∙ behind_more m (take k ls) l

-- one line more was tested
pub tested_next : (m : ClauseMap) (ls : List Numbered) (reads after : List ℕ) (k : ℕ) (l : Numbered) (read : ℕ) → AreTested m ls reads k → slice_get ls k ≡ Some l → k < length reads → IsTestedLine (clauses_behind m (take k ls)) l.line read → after ≡ slice_set reads k read → AreTested m ls after (k + 1)
tested_next m ls reads after k l read so_far at within here set j x r below x_at r_at = by (nat_lt j k) refl
  where
    by : (b : Bool) → nat_lt j k ≡ b → IsTestedLine (clauses_behind m (take j ls)) x.line r
    by true e =
        let less = ltb-true j k e in
        so_far j x r less x_at (sym (set_apart reads k j read (λ is. let no : ⊥ = omega (arith, is, less) in no)) ∙ sym (ap (λ (rs : List ℕ). slice_get rs j) set) ∙ r_at)
    by false e =
        let more = ltb-false j k e in
        let is : k ≡ j = omega (arith, more, below) in
        let same_line : l ≡ x = some_same l x (sym at ∙ ap (slice_get ls) is ∙ x_at) in
        let same_read : read ≡ r = some_same read r (sym (set_at reads k read within) ∙ sym (ap (λ (rs : List ℕ). slice_get rs k) set) ∙ ap (slice_get after) is ∙ r_at) in
        subst (λ (t : ℕ × (Numbered × ℕ)). IsTestedLine (clauses_behind m (take t.0 ls)) t.1.0.line t.1.1) (λ i. (is i, (same_line i, same_read i))) here

-- ---- what a seat sees that entered all lines before

-- the ends of a test
pub closed_seen : (m : ClauseMap) (view : View) (seat : ℕ) (a : Addition) (r : Result Unlocked Refusal) → AreSeen m view → IfOk r (λ unlocked. IfClosed unlocked (IsClosedBy m a)) → IfOk r (λ unlocked. IfClosed unlocked (IsClosedAlone view seat a))
closed_seen m view seat a (Ok (Closed read)) seen by = by view seat seen
closed_seen m view seat a (Ok Open) seen by = tt
closed_seen m view seat a (Err e) seen by = tt

pub refused_seen : (m : ClauseMap) (view : View) (seat : ℕ) (a : Addition) (r : Result Unlocked Refusal) → AreSeen m view → IfErr r (IsRefusedBy m a) → IfErr r (IsDecided (decided_refusal view seat a))
refused_seen m view seat a (Ok unlocked) seen by = tt
refused_seen m view seat a (Err e) seen by = by view seat seen

-- the end of a test is that of its line
pub tested_as : (m : ClauseMap) (view : View) (seat : ℕ) (line : Line) (read : ℕ) → AreSeen m view → IsTestedLine m line read → IsTestedAs view seat line (Closed read)
tested_as m view seat (lines.Add a) read seen by = by view seat seen
tested_as m view seat (lines.Delete numbers) read seen by = tt
tested_as m view seat (lines.Import own clause) read seen by = tt

-- ---- turns

pub none_of : {A : Type 0} (o : Option A) → is_some o ≡ false → o ≡ None
none_of None is = refl
none_of (Some x) is = absurd (false≢true (sym is))

pub within_on : (ls : List Numbered) (done entered : ℕ) → done ≤ length ls → entered ≤ length (behind ls done) → done + entered ≤ length ls
within_on ls done entered within more = let long = ap length (behind_is ls done) ∙ length-drop done ls in omega (arith, within, more, long)

-- one line at least was entered, or all were before
pub turns_on : (ls : List Numbered) (turns done entered : ℕ) (r : Option Refusal) → turns ≤ done → turns < length ls → (r ≡ None → 0 < length (behind ls done) → 0 < entered) → r ≡ None → turns + 1 ≤ done + entered
turns_on ls turns done entered r so_far below some none = by (nat_lt done (length ls)) refl
  where
    by : (b : Bool) → nat_lt done (length ls) ≡ b → turns + 1 ≤ done + entered
    by true e =
        let less = ltb-true done (length ls) e in
        let long = ap length (behind_is ls done) ∙ length-drop done ls in
        let one = some none (let left : 0 < length (behind ls done) = omega (arith, less, long) in left) in
        omega (arith, so_far, one)
    by false e = let more = ltb-false done (length ls) e in omega (arith, so_far, below, more)
