-- Runs of lines: what was begun ahead of the lock is finished or taken back, line by line.
use Rattle.std.proofs.Common.{◌≡◌, ap, refl, sym, ◌∙◌, subst, ℕ, zero, suc, ◌+◌, ◌<◌, ◌≤◌, Bool, cond, true, false, arith}
use Rattle.std.specs.Prelude.{◌==◌, ◌||◌, not, List, [], ◌∷◌, ◌++◌, length, take, drop, Option, Some, None, is_some, option_map, IsSome, slice_get, slice_set}
use Rattle.std.specs.Cmp.{nat_cmp_total, unsigned_tied}
use Rattle.std.specs.FinMap as fin
use Rattle.std.proofs.lemmas.Bool.{eqb-true, false≢true}
use Rattle.lj_clause.specs.LiteralSet.{LiteralSet}
use Rattle.lj_clause.specs.ClauseMap.{ClauseMap, FormulaValue}
use Rattle.lj_text.specs.declared.line.Line.{Line}
use Rattle.lj_text.specs.declared.line.Line.TheVariants as lines
use Rattle.lj_hint.specs.declared.pair.Pair.{Pair}
use Rattle.lj_book.specs.Tables.{is_among}
use Rattle.lj_book.specs.Solo.{View}
use Rattle.lj_share.specs.Seats.{with_bound}
use Rattle.lj_share.specs.declared.numbered.Numbered.{Numbered}
use Rattle.lj_share.specs.inner.Ahead.{AreKept, AreSeen, clauses_after_line}
use Rattle.lj_share.specs.inner.Seats.{OwnValue, Pairs, AreEqual, IsLineBegun, IsBoundAhead, IsFinished, IsFresh, IsOwnOf, IsTakenBack, begun, clause_seen, clauses_seen, finished, own_pair, pairs_kept, pairs_seen, taken_back, view_behind, with_pair_at, without_pairs}
use Rattle.lj_share.specs.inner.Dead.{AreDead, AreDeadBehind, AreNone, DeadValue, is_deleted, deletes}
use Rattle.lj_share.specs.inner.Runs.{BindNone, AreBegun, IsAheadOf, BindsNone, IsBefore, IsBehind, view_behind_some, views_behind}
use Rattle.lj_share.proofs.Confirming.{is_other, some_same}
use Rattle.lj_share.proofs.OwnLaws.{set_apart, set_at}
use Rattle.lj_share.proofs.AheadLaws.{take_next}
use Rattle.lj_share.proofs.KeptLaws.{kept_init, pair_of, alike, bound_at_last, bound_seen, dropped_seen, finished_begun, seen_behind, taken_begun, there_behind}

-- ---- one number is set ahead of a run

-- where one number is bound and another is free, they differ
apart_of : (p : Pairs) (own n : ℕ) → IsSome (p own) → p n ≡ None → n ≡ own → ⊥
apart_of p own n has free same = false≢true (ap is_some (sym free ∙ ap p same) ∙ has)

-- a number that is bound is set while one that was free is bound ahead
swapped : (own num : ℕ) (y x : Option Pair) (p : Pairs) → (num ≡ own → ⊥) → (n : ℕ) → with_pair_at num x (with_pair_at own y p) n ≡ with_pair_at own y (with_pair_at num x p) n
swapped own num y x p other n = by (n == num) refl
  where
    by : (b : Bool) → (n == num) ≡ b → cond (n == num) x (cond (n == own) y (p n)) ≡ cond (n == own) y (cond (n == num) x (p n))
    by true e =
        ap (λ b. cond b x (cond (n == own) y (p n))) e
        ∙ sym (ap (λ b. cond b y (cond (n == num) x (p n))) (is_other n own (λ is. other (sym (eqb-true n num e) ∙ is)))
        ∙ ap (λ b. cond b x (p n)) e)
    by false e =
        ap (λ b. cond b x (cond (n == own) y (p n))) e
        ∙ sym (ap (λ b. cond (n == own) y (cond b x (p n))) e)

still_bound : (own num : ℕ) (x : Pair) (p : Pairs) → IsSome (p own) → IsSome (with_pair_at num (Some x) p own)
still_bound own num x p has = by (own == num)
  where
    by : (b : Bool) → is_some (cond b (Some x) (p own)) ≡ true
    by true = refl
    by false = has

set_fresh : (own num : ℕ) (y : Option Pair) (p : Pairs) → IsSome (p own) → p num ≡ None → with_pair_at own y p num ≡ None
set_fresh own num y p has free = ap (λ b. cond b y (p num)) (is_other num own (apart_of p own num has free)) ∙ free

-- a number that was bound before a run is set
set_ahead : (own : ℕ) (y : Option Pair) (p : Pairs) (ls : List Numbered) (q : Pairs) → IsSome (p own) → AreBegun p ls q → AreBegun (with_pair_at own y p) ls (with_pair_at own y q)
set_ahead own y p [] q has are = λ n. ap (cond (n == own) y) (are n)
set_ahead own y p (l ∷ ls) q has are = by l.line (λ r. set_ahead own y r ls q) are
  where
    by : (line : Line) → ((r : Pairs) → IsSome (r own) → AreBegun r ls q → AreBegun (with_pair_at own y r) ls (with_pair_at own y q)) → (IsBefore line ls × IsFresh line p × AreBegun (begun line p) ls q) → (IsBefore line ls × IsFresh line (with_pair_at own y p) × AreBegun (begun line (with_pair_at own y p)) ls (with_pair_at own y q))
    by (lines.Add a) later of =
        let x = pair_of 0 a.lemma.clause in
        let same : with_pair_at own y (with_pair_at a.number (Some x) p) ≡ with_pair_at a.number (Some x) (with_pair_at own y p) = λ i n. sym (swapped own a.number y (Some x) p (apart_of p own a.number has of.1) n) i in (
          tt,
          set_fresh own a.number y p has of.1,
          subst (λ (r : Pairs). AreBegun r ls (with_pair_at own y q)) same (later (with_pair_at a.number (Some x) p) (still_bound own a.number x p has) of.2),
        )
    by (lines.Delete numbers) later of = (of.0, tt, later p has of.2)
    by (lines.Import num c) later of = absurd of.0

-- ---- numbers are given up before lines that bind none of them

drop_twice : (b : Bool) (o : Option Pair) → o ≡ None → cond b None o ≡ None
drop_twice true o is = refl
drop_twice false o is = is

-- a number that isn't given up is bound behind, as well as before
dropped_apart : (numbers : List ℕ) (num : ℕ) (x : Option Pair) (p : Pairs) → is_among numbers num ≡ false → (n : ℕ) → with_pair_at num x (without_pairs numbers p) n ≡ without_pairs numbers (with_pair_at num x p) n
dropped_apart numbers num x p apart n = by (n == num) refl
  where
    by : (b : Bool) → (n == num) ≡ b → cond (n == num) x (cond (is_among numbers n) None (p n)) ≡ cond (is_among numbers n) None (cond (n == num) x (p n))
    by true e =
        ap (λ b. cond b x (cond (is_among numbers n) None (p n))) e
        ∙ sym (ap (λ b. cond (is_among numbers n) None (cond b x (p n))) e
        ∙ ap (λ b. cond b None x) (ap (is_among numbers) (eqb-true n num e) ∙ apart))
    by false e =
        ap (λ b. cond b x (cond (is_among numbers n) None (p n))) e
        ∙ sym (ap (λ b. cond (is_among numbers n) None (cond b x (p n))) e)

drop_ahead : (numbers : List ℕ) (p : Pairs) (ls : List Numbered) (q : Pairs) → BindNone numbers ls → AreBegun p ls q → AreBegun (without_pairs numbers p) ls (without_pairs numbers q)
drop_ahead numbers p [] q apart are = λ n. ap (cond (is_among numbers n) None) (are n)
drop_ahead numbers p (l ∷ ls) q apart are = by l.line (λ r. drop_ahead numbers r ls q apart.1) apart.0 are
  where
    by : (line : Line) → ((r : Pairs) → AreBegun r ls q → AreBegun (without_pairs numbers r) ls (without_pairs numbers q)) → BindsNone numbers line → (IsBefore line ls × IsFresh line p × AreBegun (begun line p) ls q) → (IsBefore line ls × IsFresh line (without_pairs numbers p) × AreBegun (begun line (without_pairs numbers p)) ls (without_pairs numbers q))
    by (lines.Add a) later is of =
        let x = pair_of 0 a.lemma.clause in
        let same : without_pairs numbers (with_pair_at a.number (Some x) p) ≡ with_pair_at a.number (Some x) (without_pairs numbers p) = λ i n. sym (dropped_apart numbers a.number (Some x) p is n) i in (
          tt,
          drop_twice (is_among numbers a.number) (p a.number) of.1,
          subst (λ (r : Pairs). AreBegun r ls (without_pairs numbers q)) same (later (with_pair_at a.number (Some x) p) of.2),
        )
    by (lines.Delete more) later is of = (of.0, tt, later p of.2)
    by (lines.Import num c) later is of = absurd of.0

-- ---- the first line is finished, or taken back

-- a number that was bound before a run is bound to the same behind it
kept_ahead : (own : ℕ) (x : Pair) (p : Pairs) (ls : List Numbered) (q : Pairs) → p own ≡ Some x → AreBegun p ls q → q own ≡ Some x
kept_ahead own x p [] q at are = are own ∙ at
kept_ahead own x p (l ∷ ls) q at are = by l.line (λ r. kept_ahead own x r ls q) are
  where
    unmoved : (num : ℕ) (y : Option Pair) → p num ≡ None → with_pair_at num y p own ≡ Some x
    unmoved num y free = ap (λ b. cond b y (p own)) (is_other own num (λ same. false≢true (ap is_some (sym free ∙ ap p (sym same) ∙ at)))) ∙ at

    by : (line : Line) → ((r : Pairs) → r own ≡ Some x → AreBegun r ls q → q own ≡ Some x) → (IsBefore line ls × IsFresh line p × AreBegun (begun line p) ls q) → q own ≡ Some x
    by (lines.Add a) later of = later (with_pair_at a.number (Some (pair_of 0 a.lemma.clause)) p) (unmoved a.number (Some (pair_of 0 a.lemma.clause)) of.1) of.2
    by (lines.Delete numbers) later of = later p at of.2
    by (lines.Import num c) later of = absurd of.0

bound_now : (own : ℕ) (x : Pair) (p : Pairs) → with_pair_at own (Some x) p own ≡ Some x
bound_now own x p = bound_at_last own (Some x) (p own)

-- the first line of a run is bound ahead
first_bound : (line : Line) (p : Pairs) (ls : List Numbered) (q : Pairs) → IsBefore line ls → AreBegun (begun line p) ls q → IsBoundAhead line q
first_bound (lines.Add a) p ls q before are = kept_ahead a.number (pair_of 0 a.lemma.clause) (begun (lines.Add a) p) ls q (bound_now a.number (pair_of 0 a.lemma.clause) p) are
first_bound (lines.Delete numbers) p ls q before are = tt
first_bound (lines.Import own c) p ls q before are = absurd before

-- the first line of a run is finished: the others are ahead of what it leaves
finish_ahead : (line : Line) (joint : ℕ) (p : Pairs) (ls : List Numbered) (q : Pairs) → IsBefore line ls → AreBegun (begun line p) ls q → AreBegun (finished line joint p) ls (finished line joint q)
finish_ahead (lines.Add a) joint p ls q before are =
    let line : Line = lines.Add a in
    let x = pair_of 0 a.lemma.clause in
    let same : finished line joint (begun line p) ≡ finished line joint p = λ i n. finished_begun line joint p (begun line p) (λ m. refl) n i in
    subst (λ (r : Pairs). AreBegun r ls (finished line joint q)) same (set_ahead a.number (Some (pair_of joint a.lemma.clause)) (begun line p) ls q (ap is_some (bound_now a.number x p)) are)
finish_ahead (lines.Delete numbers) joint p ls q before are = drop_ahead numbers p ls q before are
finish_ahead (lines.Import own c) joint p ls q before are = absurd before

-- the first line of a run is taken back: the others are ahead of what was there before
back_ahead : (line : Line) (p : Pairs) (ls : List Numbered) (q : Pairs) → IsBefore line ls → IsFresh line p → AreBegun (begun line p) ls q → AreBegun p ls (taken_back line q)
back_ahead (lines.Add a) p ls q before fresh are =
    let line : Line = lines.Add a in
    let same : taken_back line (begun line p) ≡ p = λ i n. taken_begun line p (begun line p) fresh (λ m. refl) n i in
    subst (λ (r : Pairs). AreBegun r ls (taken_back line q)) same (set_ahead a.number None (begun line p) ls q (ap is_some (bound_now a.number (pair_of 0 a.lemma.clause) p)) are)
back_ahead (lines.Delete numbers) p ls q before fresh are = are
back_ahead (lines.Import own c) p ls q before fresh are = absurd before

-- ---- what is kept

alike_ahead : (p : Pairs) (ls : List Numbered) (q r : Pairs) → AreEqual r q → AreBegun p ls q → AreBegun p ls r
alike_ahead p ls q r same are = subst (λ (x : Pairs). AreBegun p ls x) (λ i n. sym (same n) i) are

pub finish_first : (f : FormulaValue) (v : View) (l : Numbered) (ls : List Numbered) (joint : ℕ) (k m : Option OwnValue) → IsAheadOf f v (l ∷ ls) k → IsFinished l.line joint k m → IsAheadOf f (view_behind l.line joint v) ls m
finish_first f v l ls joint k m are after =
    let line = l.line in
    let p = pairs_seen v in
    let q = pairs_kept f k in
    let last = after f (first_bound line p ls q are.2.0 are.2.2) in
    let w = view_behind line joint v in
    let same : finished line joint p ≡ pairs_seen w = λ i n. seen_behind line joint v are.1 n i in (
      last.0 ∙ are.0,
      sym (there_behind line joint v) ∙ are.1,
      subst (λ (r : Pairs). AreBegun r ls (pairs_kept f m)) same (alike_ahead (finished line joint p) ls (finished line joint q) (pairs_kept f m) last.1 (finish_ahead line joint p ls q are.2.0 are.2.2)),
    )

pub back_first : (f : FormulaValue) (v : View) (l : Numbered) (ls : List Numbered) (k m : Option OwnValue) → IsAheadOf f v (l ∷ ls) k → IsTakenBack l.line k m → IsAheadOf f v ls m
back_first f v l ls k m are after =
    let line = l.line in
    let p = pairs_seen v in
    let q = pairs_kept f k in
    let last = after f in (
      last.0 ∙ are.0,
      are.1,
      alike_ahead p ls (taken_back line q) (pairs_kept f m) last.1 (back_ahead line p ls q are.2.0 are.2.1 are.2.2),
    )

-- ---- places in a run

pub drop_next : {A : Type 0} (xs : List A) (k : ℕ) (x : A) → slice_get xs k ≡ Some x → drop k xs ≡ x ∷ drop (k + 1) xs
drop_next [] k x at = absurd (false≢true (ap is_some at))
drop_next (y ∷ xs) zero x at = ap (λ z. z ∷ xs) (some_same y x at)
drop_next (y ∷ xs) (suc k) x at =
    let on : suc (k + 1) ≡ suc k + 1 = omega arith in
    drop_next xs k x at ∙ ap (λ n. x ∷ drop n (y ∷ xs)) on

-- a joint number behind the lines changes nothing for them
pub set_beyond : (v : View) (ls : List Numbered) (js : List ℕ) (i x k : ℕ) → k ≤ i → views_behind v ls (slice_set js i x) k ≡ views_behind v ls js k
set_beyond v ls js i x zero within = refl
set_beyond v ls js i x (suc k) within =
    ap (λ (o : Option ℕ). view_behind_some (slice_get ls k) o (views_behind v ls (slice_set js i x) k)) (set_apart js i k x (λ is. let no : ⊥ = omega (arith, is, within) in no))
    ∙ ap (view_behind_some (slice_get ls k) (slice_get js k)) (set_beyond v ls js i x k (omega (arith, within)))

-- what a seat sees behind one line more
pub view_next : (v : View) (ls : List Numbered) (js : List ℕ) (k : ℕ) (l : Numbered) (joint : ℕ) → slice_get ls k ≡ Some l → slice_get js k ≡ Some joint → views_behind v ls js (k + 1) ≡ view_behind l.line joint (views_behind v ls js k)
view_next v ls js k l joint at j_at =
    let on : k + 1 ≡ suc k = omega arith in
    ap (views_behind v ls js) on
    ∙ ap (λ (o : Option Numbered). view_behind_some o (slice_get js k) (views_behind v ls js k)) at
    ∙ ap (λ (o : Option ℕ). view_behind_some (Some l) o (views_behind v ls js k)) j_at

-- ---- a run grows

named_more : (ls : List Numbered) (l : Numbered) (n : ℕ) → is_deleted (ls ++ l ∷ []) n ≡ (deletes l.line n || is_deleted ls n)
named_more [] l n = refl
named_more (x ∷ ls) l n = ap (λ b. deletes x.line n || b) (named_more ls l n) ∙ turned (deletes x.line n) (deletes l.line n) (is_deleted ls n)
  where
    turned : (a b c : Bool) → (a || (b || c)) ≡ (b || (a || c))
    turned true true c = refl
    turned true false c = refl
    turned false b c = refl

-- what is dead behind one line more
pub dead_next : (ls : List Numbered) (k : ℕ) (l : Numbered) (d e : DeadValue) → slice_get ls k ≡ Some l → AreDead (take k ls) d → AreDeadBehind l.line d e → AreDead (take (k + 1) ls) e
dead_next ls k l d e at are after n =
    after n
    ∙ ap (λ b. deletes l.line n || b) (are n)
    ∙ sym (ap (λ (xs : List Numbered). is_deleted xs n) (take_next ls k l at) ∙ named_more (take k ls) l n)

neither : (a b : Bool) → (a || b) ≡ false → (a ≡ false) × (b ≡ false)
neither true b is = absurd (false≢true (sym is))
neither false b is = (refl, is)

and_apart : (numbers : List ℕ) (ls : List Numbered) (l : Numbered) → BindNone numbers ls → BindsNone numbers l.line → BindNone numbers (ls ++ l ∷ [])
and_apart numbers [] l all is = (is, tt)
and_apart numbers (x ∷ ls) l all is = (all.0, and_apart numbers ls l all.1 is)

-- a line that comes behind some comes behind the later ones of them
behind_later : (x : Numbered) (ls : List Numbered) (line : Line) → IsBehind (x ∷ ls) line → IsBehind ls line
behind_later x ls (lines.Add a) is = (neither (deletes x.line a.number) (is_deleted ls a.number) is).1
behind_later x ls (lines.Delete numbers) is = tt
behind_later x ls (lines.Import own c) is = absurd is

-- and the first of them may come before it
before_more : (x : Numbered) (ls : List Numbered) (l : Numbered) → IsBefore x.line ls → IsBehind (x ∷ ls) l.line → IsBefore x.line (ls ++ l ∷ [])
before_more x ls l before is = by x.line before (λ (numbers : List ℕ) named. apart numbers named l.line is)
  where
    apart : (numbers : List ℕ) → ((n : ℕ) → deletes x.line n ≡ is_among numbers n) → (line : Line) → IsBehind (x ∷ ls) line → BindsNone numbers line
    apart numbers named (lines.Add a) behind = sym (named a.number) ∙ (neither (deletes x.line a.number) (is_deleted ls a.number) behind).0
    apart numbers named (lines.Delete more) behind = tt
    apart numbers named (lines.Import own c) behind = absurd behind

    by : (line : Line) → IsBefore line ls → ((numbers : List ℕ) → ((n : ℕ) → deletes line n ≡ is_among numbers n) → BindsNone numbers l.line) → IsBefore line (ls ++ l ∷ [])
    by (lines.Add a) first each = tt
    by (lines.Delete numbers) first each = and_apart numbers ls l first (each numbers (λ n. refl))
    by (lines.Import own c) first each = absurd first

line_last : (p : Pairs) (ls : List Numbered) (q r : Pairs) (l : Numbered) → IsBehind ls l.line → AreBegun p ls q → IsFresh l.line q → AreEqual r (begun l.line q) → AreBegun p (ls ++ l ∷ []) r
line_last p [] q r l is are fresh after = subst (λ (x : Pairs). AreBegun x (l ∷ []) r) (λ i n. are n i) (by l.line is, fresh, after)
  where
    by : (line : Line) → IsBehind [] line → IsBefore line []
    by (lines.Add a) one = tt
    by (lines.Delete numbers) one = tt
    by (lines.Import own c) one = absurd one
line_last p (x ∷ ls) q r l is are fresh after = (
  before_more x ls l are.0 is,
  are.1,
  line_last (begun x.line p) ls q r l (behind_later x ls l.line is) are.2 fresh after,
)

pub begun_next : (f : FormulaValue) (p : Pairs) (ls : List Numbered) (n : ℕ) (l : Numbered) (k m : Option OwnValue) → slice_get ls n ≡ Some l → IsBehind (take n ls) l.line → AreBegun p (take n ls) (pairs_kept f k) → IsLineBegun f l.line k m → AreBegun p (take (n + 1) ls) (pairs_kept f m)
begun_next f p ls n l k m at is are one =
    subst (λ (xs : List Numbered). AreBegun p xs (pairs_kept f m)) (sym (take_next ls n l at))
    (line_last p (take n ls) (pairs_kept f k) (pairs_kept f m) l is are one.1 one.2.1)

-- ---- clauses behind a line

bound_in : (m : ClauseMap) (own : ℕ) (c : LiteralSet) (n : ℕ) → fin.get (fin.insert m own c) n ≡ cond (n == own) (Some c) (fin.get m n)
bound_in m own c n = fin.get-insert nat_cmp_total m own c n ∙ ap (λ b. cond b (Some c) (fin.get m n)) (unsigned_tied n own)

dropped_in : (m : ClauseMap) (numbers : List ℕ) (n : ℕ) → fin.get (fin.retain_keys m (λ own. not (is_among numbers own))) n ≡ cond (is_among numbers n) None (fin.get m n)
dropped_in m numbers n = fin.get-retain_keys m (λ own. not (is_among numbers own)) n (alike numbers n) ∙ chosen (is_among numbers n) (fin.get m n)
  where
    chosen : (b : Bool) (o : Option LiteralSet) → cond (not b) o None ≡ cond b None o
    chosen true o = refl
    chosen false o = refl

abbrev clause_in : Option Pair → Option LiteralSet
clause_in o = option_map (λ (p : Pair). p.clause) o

clause_of_seen : (v : View) (n : ℕ) → clause_in (pairs_seen v n) ≡ clause_seen v n
clause_of_seen None n = refl
clause_of_seen (Some h) n = refl

clause_if : (b : Bool) (x : Pair) (o : Option Pair) → clause_in (cond b (Some x) o) ≡ cond b (Some x.clause) (clause_in o)
clause_if true x o = refl
clause_if false x o = refl

clause_unless : (b : Bool) (o : Option Pair) → clause_in (cond b None o) ≡ cond b None (clause_in o)
clause_unless true o = refl
clause_unless false o = refl

seen_bound : (m : ClauseMap) (v : View) (own joint : ℕ) (c : LiteralSet) → AreSeen m v → (n : ℕ) → fin.get (fin.insert m own c) n ≡ clause_seen (with_bound own joint c v) n
seen_bound m v own joint c seen n =
    bound_in m own c n
    ∙ ap (cond (n == own) (Some c)) (seen.1 n ∙ sym (clause_of_seen v n))
    ∙ sym (clause_if (n == own) (pair_of joint c) (pairs_seen v n))
    ∙ sym (ap clause_in (bound_seen v own joint c seen.0 n))
    ∙ clause_of_seen (with_bound own joint c v) n

-- what a seat sees behind a line
pub seen_after : (m : ClauseMap) (v : View) (line : Line) (joint : ℕ) → AreSeen m v → AreSeen (clauses_after_line m line) (view_behind line joint v)
seen_after m v line joint seen = (sym (there_behind line joint v) ∙ seen.0, by line)
  where
    by : (x : Line) (n : ℕ) → fin.get (clauses_after_line m x) n ≡ clause_seen (view_behind x joint v) n
    by (lines.Add a) n = seen_bound m v a.number joint a.lemma.clause seen n
    by (lines.Delete numbers) n =
        dropped_in m numbers n
        ∙ ap (cond (is_among numbers n) None) (seen.1 n ∙ sym (clause_of_seen v n))
        ∙ sym (clause_unless (is_among numbers n) (pairs_seen v n))
        ∙ sym (ap clause_in (dropped_seen v numbers n))
        ∙ clause_of_seen (view_behind (lines.Delete numbers) 0 v) n
    by (lines.Import own c) n = seen_bound m v own joint c seen n

-- what is kept behind a line that no deletion ahead is in the way of
pub kept_after : (f : FormulaValue) (o p : Option OwnValue) (d e : DeadValue) (v : View) (m : ClauseMap) (ls : List Numbered) (line : Line) → AreDead ls d → IsBehind ls line → AreDeadBehind line d e → AreKept f o d v m → IsLineBegun f line o p → AreKept f p e v (clauses_after_line m line)
kept_after f o None d e v m ls line dead is gone are one = tt
kept_after f None (Some p) d e v m ls line dead is gone are one = absurd (false≢true one.0)
kept_after f (Some o) (Some p) d e v m ls (lines.Add a) dead is gone are one = (are.0, λ n. by n (n == a.number) refl ∙ sym (bound_in m a.number a.lemma.clause n))
  where
    by : (n : ℕ) (b : Bool) → (n == a.number) ≡ b → cond (fin.contains_key e n) None (clause_in (own_pair f p n)) ≡ cond (n == a.number) (Some a.lemma.clause) (fin.get m n)
    by n true at =
        let living : fin.contains_key e n ≡ false = gone n ∙ dead n ∙ ap (is_deleted ls) (eqb-true n a.number at) ∙ is in
        ap (λ b. cond b None (clause_in (own_pair f p n))) living
        ∙ ap clause_in (one.2.1 n ∙ ap (λ b. cond b (Some (pair_of 0 a.lemma.clause)) (own_pair f o n)) at)
        ∙ sym (ap (λ b. cond b (Some a.lemma.clause) (fin.get m n)) at)
    by n false at =
        ap (λ b. cond b None (clause_in (own_pair f p n))) (gone n)
        ∙ ap (λ (x : Option Pair). cond (fin.contains_key d n) None (clause_in x)) (one.2.1 n ∙ ap (λ b. cond b (Some (pair_of 0 a.lemma.clause)) (own_pair f o n)) at)
        ∙ are.1 n
        ∙ sym (ap (λ b. cond b (Some a.lemma.clause) (fin.get m n)) at)
kept_after f (Some o) (Some p) d e v m ls (lines.Delete numbers) dead is gone are one = (are.0, λ n. by n ∙ sym (dropped_in m numbers n))
  where
    either : (a b : Bool) (x : Option LiteralSet) → cond (a || b) None x ≡ cond a None (cond b None x)
    either true b x = refl
    either false b x = refl

    by : (n : ℕ) → cond (fin.contains_key e n) None (clause_in (own_pair f p n)) ≡ cond (is_among numbers n) None (fin.get m n)
    by n =
        ap (λ b. cond b None (clause_in (own_pair f p n))) (gone n)
        ∙ either (is_among numbers n) (fin.contains_key d n) (clause_in (own_pair f p n))
        ∙ ap (λ (x : Option Pair). cond (is_among numbers n) None (cond (fin.contains_key d n) None (clause_in x))) (one.2.1 n)
        ∙ ap (cond (is_among numbers n) None) (are.1 n)
kept_after f (Some o) (Some p) d e v m ls (lines.Import own c) dead is gone are one = absurd is

-- what is kept before any line
pub kept_id : (f : FormulaValue) (o : Option OwnValue) (d : DeadValue) (v : View) → AreNone d → IsOwnOf f o v → AreKept f o d v (clauses_seen v)
kept_id f None d v none are = tt
kept_id f (Some o) d v none are = kept_init f o d v none are

-- what a seat sees behind one line more, whose joint number is noted
pub view_set : (v : View) (ls : List Numbered) (js : List ℕ) (k : ℕ) (l : Numbered) (joint : ℕ) → slice_get ls k ≡ Some l → k < length js → views_behind v ls (slice_set js k joint) (k + 1) ≡ view_behind l.line joint (views_behind v ls js k)
view_set v ls js k l joint at within =
    view_next v ls (slice_set js k joint) k l joint at (set_at js k joint within)
    ∙ ap (view_behind l.line joint) (set_beyond v ls js k joint k (omega arith))

get_taken : {A : Type 0} (xs : List A) (n k : ℕ) → k < n → slice_get (take n xs) k ≡ slice_get xs k
get_taken [] zero k less = refl
get_taken [] (suc n) k less = refl
get_taken (x ∷ xs) zero k less = absurd (omega (arith, less))
get_taken (x ∷ xs) (suc n) zero less = refl
get_taken (x ∷ xs) (suc n) (suc k) less = get_taken xs n k (omega (arith, less))

-- what a seat sees behind the first lines of a run
pub views_taken : (v : View) (ls : List Numbered) (js : List ℕ) (n k : ℕ) → k ≤ n → views_behind v (take n ls) js k ≡ views_behind v ls js k
views_taken v ls js n zero within = refl
views_taken v ls js n (suc k) within =
    ap (λ (o : Option Numbered). view_behind_some o (slice_get js k) (views_behind v (take n ls) js k)) (get_taken ls n k (omega (arith, within)))
    ∙ ap (view_behind_some (slice_get ls k) (slice_get js k)) (views_taken v ls js n k (omega (arith, within)))

-- what is kept is what the seat sees once its run is finished, or taken back from the first line on that was refused
pub run_done : (f : FormulaValue) (v w : View) (ls : List Numbered) (js : List ℕ) (count entered : ℕ) (k l m : Option OwnValue) → IsSome k → is_some k ≡ is_some v → AreBegun (pairs_seen v) (take count ls) (pairs_kept f k) → entered ≤ count → w ≡ views_behind v ls js entered → (IsAheadOf f v (take count ls) k → IsAheadOf f (views_behind v (take count ls) js entered) (drop entered (take count ls)) l) → ((view : View) → IsAheadOf f view (drop entered (take count ls)) l → IsAheadOf f view [] m) → IsOwnOf f m w
run_done f v w ls js count entered k l m here there are within is finish back =
    let same : views_behind v (take count ls) js entered ≡ w = views_taken v ls js count entered within ∙ sym is in
    let last = back w (subst (λ (u : View). IsAheadOf f u (drop entered (take count ls)) l) same (finish (here, sym there ∙ here, are))) in (
      last.0 ∙ sym last.1,
      last.2,
    )
