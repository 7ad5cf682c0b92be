-- Where the book accepts a call, what the seat sees refuses none.
use Rattle.std.proofs.Common.{◌≡◌, ap, inl, inr, refl, sym, ◌∙◌, subst, ℕ, Bool, nat_lt, true, false}
use Rattle.std.specs.Prelude.{Option, Some, None, Result, Ok, Err, IfErr, OnOk, is_ok, is_some, length, unwrap_or, if◌then◌else◌}
use Rattle.std.proofs.lemmas.Bool.{false≢true}
use Rattle.std.specs.FinMap as fin
use Rattle.lj_clause.specs.ClauseMap.{FormulaValue, IsFormula}
use Rattle.lj_clause.specs.LiteralSet.{LiteralSet}
use Rattle.lj_text.specs.declared.line.Line.{Line}
use Rattle.lj_text.specs.declared.line.Line.TheVariants as lines
use Rattle.lj_text.specs.declared.line.Addition.{Addition}
use Rattle.lj_hint.specs.Receipt.{ReceiptValue}
use Rattle.lj_book.specs.declared.refusal.Refusal.{Refusal}
use Rattle.lj_book.specs.declared.refusal.Refusal.TheVariants.{SeatGone, NumberTaken, UnknownNumber, GroupRepeated, HintNotUnit, EmptyOpen, MissingGroup, GroupStuck, GroupOpen, PrivateVariable, NoSuchClause, Stale, Full, NoVariableLeft, NoMemory}
use Rattle.lj_book.specs.State.{live, addition_count}
use Rattle.lj_book.specs.Tables.{is_here, is_bound}
use Rattle.lj_book.specs.Calls.{IsRefusal, free_refusal, if_free, stale_or}
use Rattle.lj_book.specs.Solo.{View, solo_refusal}
use Rattle.lj_book.specs.Views.{decided_refusal}
use Rattle.lj_book.specs.Variables.{is_own}
use Rattle.lj_book.specs.Named.{NamedState, IsNamedReached, beneath, names_of, top_of}
use Rattle.lj_book.specs.NamedReplies.{adopted, if_variables_left, named_adopt, named_commit, named_drop, named_first_stale, named_import, named_inside, or_private}
use Rattle.lj_book.specs.NamedViews.{named_view}
use Rattle.lj_book.specs.NamedAlone.{NamedDecidedAlone, NamedFreeAlone, clause_for, clause_seen_by}
use Rattle.lj_share.specs.Refusals.{IsDecided, IsLineRefused, IsRefusedLine, IsToldIfDecided, gone_refusal, line_refusal}
use Rattle.lj_share.specs.Seats.{SeatValue, seat_of_book}

-- what is said of the view that the book has of the seat is said of the seat's
of_seat : (P : View → ℕ → Type 0) (s : NamedState) (seat : ℕ) (v : SeatValue) → seat ≡ v.number → seat_of_book s v.number ≡ v → P (named_view s seat) seat → P v.view v.number
of_seat P s seat v same is holds =
    subst (λ (w : SeatValue). P w.view w.number) is (subst (λ (n : ℕ). P (named_view s n) n) same holds)

pub free_added : NamedDecidedAlone → (s : NamedState) (seat : ℕ) (a : Addition) (v : SeatValue) → IsFormula s.formula → IsNamedReached s → seat ≡ v.number → seat_of_book s v.number ≡ v → is_ok (named_inside s seat a) ≡ true → decided_refusal v.view v.number a ≡ None
free_added laws s seat a v formula reached same is accepted =
    of_seat (λ u n. decided_refusal u n a ≡ None) s seat v same is (by (decided_refusal (named_view s seat) seat a) (λ e at. laws s seat a e formula reached at))
  where
    by : (o : Option Refusal) → ((e : Refusal) → o ≡ Some e → named_inside s seat a ≡ Err e) → o ≡ None
    by None told = refl
    by (Some e) told = absurd (false≢true (sym (ap is_ok (told e refl)) ∙ accepted))

-- whether the seat is there, and its own number free
abbrev whether_free : Bool → Bool → Option Refusal
whether_free here bound = if here then (if bound then Some NumberTaken else None) else Some SeatGone

here_view : (v : View) (own : ℕ) (bound : Bool) → whether_free true bound ≡ solo_refusal v own → gone_refusal v ≡ None
here_view None own true is = absurd cc
here_view None own false is = absurd cc
here_view (Some h) own bound is = refl

pub free_here : NamedFreeAlone → {A : Type 0} (x : A) (s : NamedState) (seat : ℕ) (v : SeatValue) → seat ≡ v.number → seat_of_book s v.number ≡ v → is_ok (if is_here s.tables seat then Ok x else Err SeatGone) ≡ true → gone_refusal v.view ≡ None
free_here laws {A} x s seat v same is accepted =
    of_seat (λ u n. gone_refusal u ≡ None) s seat v same is (by (is_here s.tables seat) accepted (laws s seat 0))
  where
    by : (here : Bool) → is_ok (if here then Ok x else Err SeatGone) ≡ true → whether_free here (is_bound s.tables seat 0) ≡ solo_refusal (named_view s seat) 0 → gone_refusal (named_view s seat) ≡ None
    by true ok is = here_view (named_view s seat) 0 (is_bound s.tables seat 0) is
    by false ok is = absurd (false≢true ok)

pub free_bound : NamedFreeAlone → {A : Type 0} (named : Bool) (later : Result A Refusal) (s : NamedState) (seat own : ℕ) (v : SeatValue) → seat ≡ v.number → seat_of_book s v.number ≡ v → is_ok (if_free (or_private (free_refusal (beneath s) seat own) named) later) ≡ true → solo_refusal v.view own ≡ None
free_bound laws {A} named later s seat own v same is accepted =
    of_seat (λ u n. solo_refusal u own ≡ None) s seat v same is (sym (laws s seat own) ∙ by (free_refusal (beneath s) seat own) accepted)
  where
    by : (o : Option Refusal) → is_ok (if_free (or_private o named) later) ≡ true → o ≡ None
    by None ok = refl
    by (Some e) ok = absurd (false≢true ok)

pub free_committed : NamedFreeAlone → (s : NamedState) (r : ReceiptValue) (v : SeatValue) → r.seat ≡ v.number → seat_of_book s v.number ≡ v → is_ok (named_commit s r) ≡ true → solo_refusal v.view r.own ≡ None
free_committed laws s r v same is accepted =
    of_seat (λ u n. solo_refusal u r.own ≡ None) s r.seat v same is (sym (laws s r.seat r.own) ∙ by (is_here s.tables r.seat) (is_bound s.tables r.seat r.own) accepted)
  where
    later : Option Refusal
    later = stale_or (named_first_stale (top_of s) (names_of s r.seat) (live (beneath s)) r.listed) (if nat_lt (addition_count s.history) s.max_steps then None else Some Full)

    by : (here bound : Bool) → is_ok (if_free (if here then (if bound then Some NumberTaken else later) else Some SeatGone) (if_variables_left s r.seat r.lemma.clause)) ≡ true → whether_free here bound ≡ None
    by true true ok = absurd (false≢true ok)
    by true false ok = refl
    by false bound ok = absurd (false≢true ok)

-- ---- what is decided is told

abbrev err_of : {A : Type 0} → Result A Refusal → Option Refusal
err_of (Ok x) = None
err_of (Err e) = Some e

-- where the reply is known to be a refusal, it is that one
replied : {A : Type 0} (reply : Result A Refusal) (e told : Refusal) → reply ≡ Err e → IsRefusal told reply → IsDecided (Some e) told
replied reply e SeatGone at is = ap err_of (sym at ∙ is)
replied reply e NumberTaken at is = ap err_of (sym at ∙ is)
replied reply e (UnknownNumber n) at is = ap err_of (sym at ∙ is)
replied reply e (GroupRepeated n) at is = ap err_of (sym at ∙ is)
replied reply e (HintNotUnit position) at is = ap err_of (sym at ∙ is)
replied reply e EmptyOpen at is = ap err_of (sym at ∙ is)
replied reply e (MissingGroup n) at is = ap err_of (sym at ∙ is)
replied reply e (GroupStuck n position) at is = ap err_of (sym at ∙ is)
replied reply e (GroupOpen n) at is = ap err_of (sym at ∙ is)
replied reply e PrivateVariable at is = ap err_of (sym at ∙ is)
replied reply e NoSuchClause at is = ap err_of (sym at ∙ is)
replied reply e (Stale n) at is = ap err_of (sym at ∙ is)
replied reply e Full at is = ap err_of (sym at ∙ is)
replied reply e NoVariableLeft at is = ap err_of (sym at ∙ is)
replied reply e (NoMemory m) at is = tt

not_gone : (bound : Bool) → whether_free true bound ≡ Some SeatGone → ⊥
not_gone true is = cc
not_gone false is = cc

gone_reply : NamedFreeAlone → {A : Type 0} (x : A) (s : NamedState) (seat : ℕ) (e : Refusal) → gone_refusal (named_view s seat) ≡ Some e → (if is_here s.tables seat then Ok x else Err SeatGone) ≡ Err e
gone_reply laws {A} x s seat e is = by (is_here s.tables seat) (named_view s seat) (laws s seat 0) is
  where
    by : (here : Bool) (v : View) → whether_free here (is_bound s.tables seat 0) ≡ solo_refusal v 0 → gone_refusal v ≡ Some e → (if here then Ok x else Err SeatGone) ≡ Err e
    by true None same gone = absurd (not_gone (is_bound s.tables seat 0) same)
    by true (Some h) same gone = absurd cc
    by false (Some h) same gone = absurd cc
    by false None same gone = ap (λ (o : Option Refusal). Err (unwrap_or o SeatGone)) gone

bound_reply : NamedFreeAlone → {A : Type 0} (named : Bool) (later : Result A Refusal) (s : NamedState) (seat own : ℕ) (e : Refusal) → solo_refusal (named_view s seat) own ≡ Some e → if_free (or_private (free_refusal (beneath s) seat own) named) later ≡ Err e
bound_reply laws named later s seat own e is = ap (λ (o : Option Refusal). if_free (or_private o named) later) (laws s seat own ∙ is)

line_replied : NamedDecidedAlone → NamedFreeAlone → (s : NamedState) (seat : SeatValue) (line : Line) (e told : Refusal) → IsFormula s.formula → IsNamedReached s → seat_of_book s seat.number ≡ seat → line_refusal seat line ≡ Some e → IsRefusedLine seat.number line told s → IsDecided (Some e) told
line_replied decided free s seat line e told formula reached is at refused =
    by line (ap (λ (v : SeatValue). line_refusal v line) is ∙ at) refused
  where
    by : (l : Line) → line_refusal (seat_of_book s seat.number) l ≡ Some e → IsRefusedLine seat.number l told s → IsDecided (Some e) told
    by (lines.Add a) there r = replied (named_inside s seat.number a) e told (decided s seat.number a e formula reached there) r
    by (lines.Delete numbers) there r = replied (named_drop s seat.number numbers) e told (gone_reply free _ s seat.number e there) r
    by (lines.Import own c) there r = replied (named_import s seat.number own c) e told (bound_reply free _ _ s seat.number own e there) r

pub told_if_decided : NamedDecidedAlone → NamedFreeAlone → (f : FormulaValue) → IsFormula f → (seats max : ℕ) (seat : SeatValue) (line : Line) {A : Type 0} (r : Result A Refusal) → OnOk r (line_refusal seat line ≡ None) → IfErr r (IsLineRefused f seats max seat line) → IsToldIfDecided (line_refusal seat line) r
told_if_decided decided free f formula seats max seat line {A} r accepted refused = by (line_refusal seat line) r refl accepted refused
  where
    by : (o : Option Refusal) (x : Result A Refusal) → line_refusal seat line ≡ o → OnOk x (line_refusal seat line ≡ None) → IfErr x (IsLineRefused f seats max seat line) → IsToldIfDecided o x
    by None x at ok err = tt
    by (Some e) (Ok y) at ok err = absurd (false≢true (ap is_some (sym ok ∙ at)))
    by (Some e) (Err told) at ok (inl h) = line_replied decided free h.state seat line e told (subst IsFormula (sym h.opened.formula_is) formula) h.legal h.seat_is at h.holds_there
    by (Some e) (Err told) at ok (inr h) = subst (λ (o : Option Refusal). IsDecided o told) at h

-- ---- adoptions

-- a reply that is refused where another is, is refused so
refused_as : {A B : Type 0} (r : Result A Refusal) (t : Result B Refusal) → ((e : Refusal) → r ≡ Err e → t ≡ Err e) → (told : Refusal) → IsRefusal told r → IsRefusal told t
refused_as r t so SeatGone is = so SeatGone is
refused_as r t so NumberTaken is = so NumberTaken is
refused_as r t so (UnknownNumber n) is = so (UnknownNumber n) is
refused_as r t so (GroupRepeated n) is = so (GroupRepeated n) is
refused_as r t so (HintNotUnit position) is = so (HintNotUnit position) is
refused_as r t so EmptyOpen is = so EmptyOpen is
refused_as r t so (MissingGroup n) is = so (MissingGroup n) is
refused_as r t so (GroupStuck n position) is = so (GroupStuck n position) is
refused_as r t so (GroupOpen n) is = so (GroupOpen n) is
refused_as r t so PrivateVariable is = so PrivateVariable is
refused_as r t so NoSuchClause is = so NoSuchClause is
refused_as r t so (Stale n) is = so (Stale n) is
refused_as r t so Full is = so Full is
refused_as r t so NoVariableLeft is = so NoVariableLeft is
refused_as r t so (NoMemory m) is = tt

-- where a clause isn't told, it isn't adopted
seen_by : (s : NamedState) (seat : ℕ) (o : Option LiteralSet) (e : Refusal) → clause_seen_by s seat o ≡ Err e → adopted s seat o ≡ Err e
seen_by s seat None e is = ap (λ (r : Result LiteralSet Refusal). Err (unwrap_or (err_of r) SeatGone)) is
seen_by s seat (Some c) e is = by (is_own (top_of s) s.variables seat c) _ is
  where
    by : (own : Bool) (d : LiteralSet) → (if own then Ok d else Err PrivateVariable) ≡ Err e → (if own then Ok (length s.history) else Err PrivateVariable) ≡ Err e
    by true d told = absurd (false≢true (sym (ap is_ok told)))
    by false d told = ap (λ (r : Result LiteralSet Refusal). Err (unwrap_or (err_of r) SeatGone)) told

-- an adoption under a free number is refused where its clause isn't told to the seat
pub adopted_refused : NamedFreeAlone → (s : NamedState) (seat own joint : ℕ) (v : SeatValue) (told : Refusal) → seat ≡ v.number → seat_of_book s v.number ≡ v → solo_refusal v.view own ≡ None → IsRefusal told (clause_for s seat joint) → IsRefusal told (named_adopt s v.number own joint)
adopted_refused laws s seat own joint v told same is free refused =
    subst (λ (n : ℕ). IsRefusal told (named_adopt s n own joint)) same
    (refused_as (clause_for s seat joint) (named_adopt s seat own joint) (λ e at. ap (λ (o : Option Refusal). if_free o (adopted s seat (fin.get (live (beneath s)) joint))) bound ∙ seen_by s seat (fin.get (live (beneath s)) joint) e at) told refused)
  where
    bound : free_refusal (beneath s) seat own ≡ None
    bound = laws s seat own ∙ ap (λ (n : ℕ). solo_refusal (named_view s n) own) same ∙ ap (λ (x : SeatValue). solo_refusal x.view own) is ∙ free
