-- What a seat keeps is what it sees.
use Rattle.std.proofs.Common.{◌≡◌, ap, refl, sym, ◌∙◌, subst, ℕ, Bool, cond, true, false}
use Rattle.std.specs.Prelude.{◌==◌, not, List, Option, Some, None, is_some, option_map, if◌then◌else◌, IsSome, Result, Err, IfSome}
use Rattle.std.specs.declared.cmp.Ordering.TheVariants.{Equal}
use Rattle.std.specs.Ordering.{nat_cmp}
use Rattle.std.specs.Cmp.{nat_cmp_total, unsigned_tied}
use Rattle.std.specs.FinMap as fin
use Rattle.std.specs.FinMap.{nat_cmp-IsAntisymmetric}
use Rattle.std.proofs.lemmas.Bool.{eqb-true, eq-eqb, false≢true}
use Rattle.lj_clause.specs.LiteralSet.{LiteralSet}
use Rattle.lj_clause.specs.ClauseMap.{FormulaValue}
use Rattle.lj_text.specs.declared.line.Addition.{Addition}
use Rattle.lj_text.specs.declared.line.Line.{Line}
use Rattle.lj_text.specs.declared.line.Line.TheVariants as lines
use Rattle.lj_hint.specs.declared.pair.Pair.{Pair}
use Rattle.lj_hint.specs.Case.{CaseValue}
use Rattle.lj_book.specs.declared.refusal.Refusal.{Refusal}
use Rattle.lj_book.specs.declared.refusal.Refusal.TheVariants.{SeatGone, NumberTaken, UnknownNumber, GroupRepeated, HintNotUnit, EmptyOpen, MissingGroup, GroupStuck, GroupOpen, PrivateVariable, NoSuchClause, Stale, Full, NoVariableLeft, NoMemory}
use Rattle.lj_book.specs.Tables.{is_among}
use Rattle.lj_book.specs.Solo.{View, without_holdings, solo_case, solo_refusal, solo_take}
use Rattle.lj_book.specs.Views.{HoldsTheFormula, decided_by, formula_holdings}
use Rattle.lj_share.specs.Refusals.{IsDecided, line_refusal}
use Rattle.lj_share.specs.Seats.{SeatValue, with_bound}
use Rattle.lj_share.specs.inner.Dead.{AreNone, DeadValue}
use Rattle.lj_share.specs.inner.Ahead.{AreKept}
use Rattle.lj_share.specs.inner.Seats.{OwnValue, Pairs, AreEqual, IsOwnOf, IsLineBegun, IsBoundAhead, IsFinished, IsFresh, IsTakenBack, begun, case_by, clauses_seen, finished, first_pair, kept_refusal, number_refusal, own_clause, own_pair, pairs_kept, pairs_seen, taken_back, view_behind}
use Rattle.lj_share.proofs.AloneLaws.{get-seen}

abbrev pub pair_of : ℕ → LiteralSet → Pair
pair_of joint c = record { joint = joint; clause = c }

-- ---- what a seat sees of a number

pub bound_seen : (v : View) (own joint : ℕ) (c : LiteralSet) → IsSome v → (n : ℕ) → pairs_seen (with_bound own joint c v) n ≡ cond (n == own) (Some (pair_of joint c)) (pairs_seen v n)
bound_seen None own joint c there n = absurd (false≢true there)
bound_seen (Some h) own joint c there n =
    fin.get-insert nat_cmp_total h own (pair_of joint c) n ∙ ap (λ b. cond b (Some (pair_of joint c)) (fin.get h n)) (unsigned_tied n own)

pub alike : (numbers : List ℕ) (k x : ℕ) → nat_cmp k x ≡ Equal → not (is_among numbers x) ≡ not (is_among numbers k)
alike numbers k x e = ap (λ n. not (is_among numbers n)) (sym (nat_cmp-IsAntisymmetric k x e))

pub dropped_seen : (v : View) (numbers : List ℕ) (n : ℕ) → pairs_seen (option_map (without_holdings numbers) v) n ≡ cond (is_among numbers n) None (pairs_seen v n)
dropped_seen None numbers n = by (is_among numbers n)
  where
    none : Option Pair
    none = None

    by : (b : Bool) → none ≡ cond b none none
    by true = refl
    by false = refl
dropped_seen (Some h) numbers n = fin.get-retain_keys h (λ own. not (is_among numbers own)) n (alike numbers n) ∙ by (is_among numbers n)
  where
    by : (b : Bool) → cond (not b) (fin.get h n) None ≡ cond b None (fin.get h n)
    by true = refl
    by false = refl

-- whether the seat is there stays with a line
pub there_behind : (line : Line) (joint : ℕ) (v : View) → is_some v ≡ is_some (view_behind line joint v)
there_behind (lines.Add a) joint None = refl
there_behind (lines.Add a) joint (Some h) = refl
there_behind (lines.Delete numbers) joint None = refl
there_behind (lines.Delete numbers) joint (Some h) = refl
there_behind (lines.Import own c) joint None = refl
there_behind (lines.Import own c) joint (Some h) = refl

-- what it sees behind a line
pub seen_behind : (line : Line) (joint : ℕ) (v : View) → IsSome v → (n : ℕ) → finished line joint (pairs_seen v) n ≡ pairs_seen (view_behind line joint v) n
seen_behind (lines.Add a) joint v there n = sym (bound_seen v a.number joint a.lemma.clause there n)
seen_behind (lines.Delete numbers) joint v there n = sym (dropped_seen v numbers n)
seen_behind (lines.Import own c) joint v there n = sym (bound_seen v own joint c there n)

-- ---- a line on its way

pub bound_at_last : {A : Type 0} (own : ℕ) (x : A) (o : A) → cond (own == own) x o ≡ x
bound_at_last own x o = ap (λ b. cond b x o) (eq-eqb own own refl)

pub bound_ahead : (line : Line) (p q : Pairs) → AreEqual q (begun line p) → IsBoundAhead line q
bound_ahead (lines.Add a) p q is = is a.number ∙ bound_at_last a.number (Some (pair_of 0 a.lemma.clause)) (p a.number)
bound_ahead (lines.Delete numbers) p q is = tt
bound_ahead (lines.Import own c) p q is = is own ∙ bound_at_last own (Some (pair_of 0 c)) (p own)

twice : {A : Type 0} (b : Bool) (x y z : A) → cond b x (cond b y z) ≡ cond b x z
twice true x y z = refl
twice false x y z = refl

-- a line that is finished after it was begun is as if it had come at once
pub finished_begun : (line : Line) (joint : ℕ) (p q : Pairs) → AreEqual q (begun line p) → (n : ℕ) → finished line joint q n ≡ finished line joint p n
finished_begun (lines.Add a) joint p q is n =
    ap (cond (n == a.number) (Some (pair_of joint a.lemma.clause))) (is n)
    ∙ twice (n == a.number) (Some (pair_of joint a.lemma.clause)) (Some (pair_of 0 a.lemma.clause)) (p n)
finished_begun (lines.Delete numbers) joint p q is n = ap (cond (is_among numbers n) None) (is n)
finished_begun (lines.Import own c) joint p q is n =
    ap (cond (n == own) (Some (pair_of joint c))) (is n) ∙ twice (n == own) (Some (pair_of joint c)) (Some (pair_of 0 c)) (p n)

free_at : (own n : ℕ) (p : Pairs) → p own ≡ None → cond (n == own) None (p n) ≡ p n
free_at own n p free = by (n == own) refl
  where
    by : (b : Bool) → (n == own) ≡ b → cond (n == own) None (p n) ≡ p n
    by true e = ap (λ b. cond b None (p n)) e ∙ sym (ap p (eqb-true n own e) ∙ free)
    by false e = ap (λ b. cond b None (p n)) e

-- a line that is taken back after it was begun is as if it had never come
pub taken_begun : (line : Line) (p q : Pairs) → IsFresh line p → AreEqual q (begun line p) → (n : ℕ) → taken_back line q n ≡ p n
taken_begun (lines.Add a) p q fresh is n =
    ap (cond (n == a.number) None) (is n) ∙ twice (n == a.number) None (Some (pair_of 0 a.lemma.clause)) (p n) ∙ free_at a.number n p fresh
taken_begun (lines.Delete numbers) p q fresh is n = is n
taken_begun (lines.Import own c) p q fresh is n =
    ap (cond (n == own) None) (is n) ∙ twice (n == own) None (Some (pair_of 0 c)) (p n) ∙ free_at own n p fresh

finished_alike : (line : Line) (joint : ℕ) (p q : Pairs) → AreEqual p q → (n : ℕ) → finished line joint p n ≡ finished line joint q n
finished_alike (lines.Add a) joint p q is n = ap (cond (n == a.number) (Some (pair_of joint a.lemma.clause))) (is n)
finished_alike (lines.Delete numbers) joint p q is n = ap (cond (is_among numbers n) None) (is n)
finished_alike (lines.Import own c) joint p q is n = ap (cond (n == own) (Some (pair_of joint c))) (is n)

-- ---- what is kept is what the seat sees

there_of : (f : FormulaValue) (k : Option OwnValue) (v : View) → IsOwnOf f k v → IsSome k → IsSome v
there_of f k v are here = sym are.0 ∙ here

pub own_finished : (f : FormulaValue) (k l m : Option OwnValue) (v w : View) (line : Line) (joint : ℕ) → IsOwnOf f k v → IsLineBegun f line k l → IsFinished line joint l m → w ≡ view_behind line joint v → IsOwnOf f m w
own_finished f k l m v w line joint are before after is =
    let last = after f (bound_ahead line (pairs_kept f k) (pairs_kept f l) before.2.1) in
    let behind : IsOwnOf f m (view_behind line joint v) = (
      last.0 ∙ before.2.0 ∙ are.0 ∙ there_behind line joint v,
      λ n. last.1 n ∙ finished_begun line joint (pairs_kept f k) (pairs_kept f l) before.2.1 n
          ∙ finished_alike line joint (pairs_kept f k) (pairs_seen v) are.1 n
          ∙ seen_behind line joint v (there_of f k v are before.0) n,
    ) in
    subst (IsOwnOf f m) (sym is) behind

pub own_taken_back : (f : FormulaValue) (k l m : Option OwnValue) (v : View) (line : Line) → IsOwnOf f k v → IsLineBegun f line k l → IsTakenBack line l m → IsOwnOf f m v
own_taken_back f k l m v line are before after =
    let last = after f in (
      last.0 ∙ before.2.0 ∙ are.0,
      λ n. last.1 n ∙ taken_begun line (pairs_kept f k) (pairs_kept f l) before.1 before.2.1 n ∙ are.1 n,
    )

-- at the opening
pub own_opened : HoldsTheFormula → (f : FormulaValue) (o : OwnValue) → ((n : ℕ) → own_pair f o n ≡ first_pair f n) → IsOwnOf f (Some o) (Some (formula_holdings f))
own_opened holds f o is = (refl, λ n. is n ∙ sym (holds f n))

-- ---- refusals

pub kept_refused : (f : FormulaValue) (k : Option OwnValue) (v : View) (own : ℕ) → IsOwnOf f k v → kept_refusal f k own ≡ solo_refusal v own
kept_refused f None None own are = refl
kept_refused f None (Some h) own are = absurd (false≢true are.0)
kept_refused f (Some o) None own are = absurd (false≢true (sym are.0))
kept_refused f (Some o) (Some h) own are = ap (λ (x : Option Pair). if is_some x then Some NumberTaken else None) (are.1 own)

decided_more : (o q : Option Refusal) → ((e : Refusal) → o ≡ Some e → q ≡ Some e) → (told : Refusal) → IsDecided o told → IsDecided q told
decided_more o q more SeatGone is = more SeatGone is
decided_more o q more NumberTaken is = more NumberTaken is
decided_more o q more (UnknownNumber n) is = more (UnknownNumber n) is
decided_more o q more (GroupRepeated n) is = more (GroupRepeated n) is
decided_more o q more (HintNotUnit position) is = more (HintNotUnit position) is
decided_more o q more EmptyOpen is = more EmptyOpen is
decided_more o q more (MissingGroup n) is = more (MissingGroup n) is
decided_more o q more (GroupStuck n position) is = more (GroupStuck n position) is
decided_more o q more (GroupOpen n) is = more (GroupOpen n) is
decided_more o q more PrivateVariable is = more PrivateVariable is
decided_more o q more NoSuchClause is = more NoSuchClause is
decided_more o q more (Stale n) is = more (Stale n) is
decided_more o q more Full is = more Full is
decided_more o q more NoVariableLeft is = more NoVariableLeft is
decided_more o q more (NoMemory m) is = tt

-- a refusal that is decided is one that may be told
pub decided_as : (o : Option Refusal) (told : Refusal) → o ≡ Some told → IsDecided o told
decided_as o SeatGone is = is
decided_as o NumberTaken is = is
decided_as o (UnknownNumber n) is = is
decided_as o (GroupRepeated n) is = is
decided_as o (HintNotUnit position) is = is
decided_as o EmptyOpen is = is
decided_as o (MissingGroup n) is = is
decided_as o (GroupStuck n position) is = is
decided_as o (GroupOpen n) is = is
decided_as o PrivateVariable is = is
decided_as o NoSuchClause is = is
decided_as o (Stale n) is = is
decided_as o Full is = is
decided_as o NoVariableLeft is = is
decided_as o (NoMemory m) is = tt

-- a take is refused where the number is
take_refused : (v : View) (seat : ℕ) (a : Addition) (e : Refusal) → solo_refusal v a.number ≡ Some e → solo_take v seat a ≡ Err e
take_refused None seat a e is = ap (λ (o : Option Refusal). err_of o) is
  where
    err_of : Option Refusal → Result CaseValue Refusal
    err_of None = Err SeatGone
    err_of (Some x) = Err x
take_refused (Some h) seat a e is = by (fin.contains_key h a.number) is
  where
    err_of : Option Refusal → Result CaseValue Refusal
    err_of None = Err SeatGone
    err_of (Some x) = Err x

    by : (b : Bool) → (if b then Some NumberTaken else None) ≡ Some e → (if b then Err NumberTaken else solo_case h seat a) ≡ Err e
    by true at = ap err_of at
    by false at = absurd (false≢true (ap is_some at))

number_more : (f : FormulaValue) (k : Option OwnValue) (seat : SeatValue) (line : Line) → IsOwnOf f k seat.view → (e : Refusal) → number_refusal f k line ≡ Some e → line_refusal seat line ≡ Some e
number_more f k seat (lines.Add a) are e is = ap decided_by (take_refused seat.view seat.number a e (sym (kept_refused f k seat.view a.number are) ∙ is))
number_more f None seat (lines.Delete numbers) are e is = go seat.view are.0
  where
    go : (v : View) → false ≡ is_some v → line_refusal (record { number = seat.number; calls = seat.calls; view = v }) (lines.Delete numbers) ≡ Some e
    go None there = is
    go (Some h) there = absurd (false≢true there)
number_more f (Some o) seat (lines.Delete numbers) are e is = absurd (false≢true (ap is_some is))
number_more f k seat (lines.Import own c) are e is = sym (kept_refused f k seat.view own are) ∙ is

-- the refusal of a line by its own number is what the seat sees decides
pub number_decided : (f : FormulaValue) (k : Option OwnValue) (seat : SeatValue) (line : Line) (told : Refusal) → IsOwnOf f k seat.view → IsDecided (number_refusal f k line) told → IsDecided (line_refusal seat line) told
number_decided f k seat line told are is = decided_more (number_refusal f k line) (line_refusal seat line) (number_more f k seat line are) told is

pub own_decided : (f : FormulaValue) (k : Option OwnValue) (v : View) (own : ℕ) (told : Refusal) → IsOwnOf f k v → IsDecided (kept_refusal f k own) told → IsDecided (solo_refusal v own) told
own_decided f k v own told are is = subst (λ (o : Option Refusal). IsDecided o told) (kept_refused f k v own are) is

-- ---- takes

-- the own number is bound
pub taken_taken : (f : FormulaValue) (o : OwnValue) (v : View) (seat : ℕ) (a : Addition) → IsOwnOf f (Some o) v → is_some (own_pair f o a.number) ≡ true → solo_take v seat a ≡ Err NumberTaken
taken_taken f o None seat a are has = absurd (false≢true (sym are.0))
taken_taken f o (Some h) seat a are has = ap (λ b. if b then Err NumberTaken else solo_case h seat a) (ap is_some (sym (are.1 a.number)) ∙ has)

-- the own number is free
pub case_taken : (f : FormulaValue) (o : OwnValue) (v : View) (seat : ℕ) (a : Addition) → IsOwnOf f (Some o) v → is_some (own_pair f o a.number) ≡ false → case_by (own_pair f o) seat a ≡ solo_take v seat a
case_taken f o None seat a are has = absurd (false≢true (sym are.0))
case_taken f o (Some h) seat a are has =
    (λ i. case_by (λ n. are.1 n i) seat a)
    ∙ sym (ap (λ b. if b then Err NumberTaken else solo_case h seat a) (ap is_some (sym (are.1 a.number)) ∙ has))

pub case_told : (f : FormulaValue) (o : OwnValue) (v : View) (a : Addition) (r : Result CaseValue Refusal) → IsOwnOf f (Some o) v → is_some (own_pair f o a.number) ≡ false → IfSome (solo_refusal v a.number) (λ e. r ≡ Err e)
case_told f o None a r are has = absurd (false≢true (sym are.0))
case_told f o (Some h) a r are has =
    subst (λ (b : Bool). IfSome (if b then Some NumberTaken else None) (λ e. r ≡ Err e)) (sym (ap is_some (sym (are.1 a.number)) ∙ has)) tt

-- whether a number is bound, where its clause was looked up
pub whether_kept : (f : FormulaValue) (o : OwnValue) (n : ℕ) (clause : Option LiteralSet) (found b : Bool) → clause ≡ own_clause f o n → found ≡ is_some clause → found ≡ b → is_some (own_pair f o n) ≡ b
whether_kept f o n clause found b looked is known = by (own_pair f o n) ∙ ap is_some (sym looked) ∙ sym is ∙ known
  where
    by : (x : Option Pair) → is_some x ≡ is_some (option_map (λ (p : Pair). p.clause) x)
    by None = refl
    by (Some p) = refl

-- ---- clauses

-- what a seat keeps is the clauses that it sees
pub kept_init : (f : FormulaValue) (o : OwnValue) (d : DeadValue) (v : View) → AreNone d → IsOwnOf f (Some o) v → AreKept f (Some o) d v (clauses_seen v)
kept_init f o d None none are = absurd (false≢true (sym are.0))
kept_init f o d (Some h) none are = (refl, λ n. ap (λ b. cond b None (own_clause f o n)) (none n) ∙ ap (option_map (λ (p : Pair). p.clause)) (are.1 n) ∙ sym (get-seen (Some h) n))
