-- How a line is refused where what the seat sees decides no refusal.
use Rattle.std.proofs.Common.{◌≡◌, ap, inl, inr, refl, sym, ◌∙◌, subst, ℕ, ℤ, Bool, nat_lt, true, false}
use Rattle.std.specs.Prelude.{Option, Some, None, Result, Ok, Err, IfErr, IfSome, is_some, if◌then◌else◌, List}
use Rattle.std.proofs.lemmas.Bool.{false≢true}
use Rattle.std.specs.FinMap as fin
use Rattle.lj_clause.specs.LiteralSet.{LiteralSet, negations}
use Rattle.lj_clause.specs.ClauseMap.{ClauseMap, FormulaValue, IsFormula}
use Rattle.lj_clause.specs.Renaming.{image, is_named}
use Rattle.lj_clause.specs.Rat as rats
use Rattle.lj_clause.specs.Propagation.{Propagation, Closed, Open, Stuck, Hint, hints_in, propagate_over}
use Rattle.lj_text.specs.declared.line.Addition.{Addition}
use Rattle.lj_text.specs.declared.line.Line.{Line}
use Rattle.lj_text.specs.declared.line.Line.TheVariants as lines
use Rattle.lj_hint.specs.declared.pair.Pair.{Pair}
use Rattle.lj_hint.specs.Hints.{named_hints, numbers}
use Rattle.lj_hint.specs.Case.{CaseValue, propagation_of}
use Rattle.lj_book.specs.declared.entry.Added.{Added}
use Rattle.lj_book.specs.declared.entry.Dropped.{Dropped}
use Rattle.lj_book.specs.declared.refusal.Refusal.{Refusal}
use Rattle.lj_book.specs.declared.refusal.Refusal.TheVariants.{SeatGone, NumberTaken, UnknownNumber, GroupRepeated, HintNotUnit, EmptyOpen, MissingGroup, GroupStuck, GroupOpen, PrivateVariable, NoSuchClause, Stale, Full, NoVariableLeft, NoMemory}
use Rattle.lj_book.specs.Imports.{found}
use Rattle.lj_book.specs.State.{State, addition_count, live, next}
use Rattle.lj_book.specs.History.{IsReached}
use Rattle.lj_book.specs.Tables.{Table, is_here, is_bound, table_of}
use Rattle.lj_book.specs.Calls.{IsRefusal, commit_told, free_refusal, if_free, imported, unless_refused}
use Rattle.lj_book.specs.Inside.{inside_after, inside_reply, joint_addition, open_refusal, or_full, rat_refusal, propagation_refusal}
use Rattle.lj_book.specs.Solo.{View, solo_refusal, solo_take, view_of}
use Rattle.lj_book.specs.Views.{decided_by, decided_refusal, stuck_refusal}
use Rattle.lj_book.specs.Named.{NamedState, IsNamedReached, beneath, has_variables_for, names_of, top_of}
use Rattle.lj_book.specs.NamedViews.{addition_beneath, named_view}
use Rattle.lj_book.specs.NamedReplies.{named_drop, named_import, named_inside, or_private}
use Rattle.lj_book.specs.NamedInside.{if_left}
use Rattle.lj_book.specs.NamedAlone.{NamedFreeAlone}
use Rattle.lj_book.proofs.HistoryLaws.{IsSound-reached}
use Rattle.lj_book.proofs.ImportRefusals.{import_refused}
use Rattle.lj_book.proofs.SoloStates.{IsGiven, IsGiven-sound}
use Rattle.lj_book.proofs.SoloSteps.{held_named, view_is}
use Rattle.lj_book.proofs.SoloTakes.{IsFit, take_alone, take_fits}
use Rattle.lj_book.proofs.NamedLaws.{beneath_is_reached}
use Rattle.lj_book.proofs.NamedInsideLaws.{replies_are_beneath}
use Rattle.lj_book.proofs.DecidedBeneath.{decided_so}
use Rattle.lj_share.specs.Refusals.{IsDecided, IsLineRefused, IsNotFound, IsOpenRefusal, IsRatOrFull, IsRefusedLine, IsWantOfMemory, gone_refusal, line_refusal}
use Rattle.lj_share.specs.Seats.{SeatValue, seat_of_book}

-- what is told is the reply's refusal, or that memory is short
told_by : (P : Refusal → Type 0) → ((e : Refusal) → IsWantOfMemory e → P e) → {A : Type 0} (reply : Result A Refusal) → IfErr reply P → (told : Refusal) → IsRefusal told reply → P told
told_by P short reply of SeatGone is = subst (λ r. IfErr r P) is of
told_by P short reply of NumberTaken is = subst (λ r. IfErr r P) is of
told_by P short reply of (UnknownNumber n) is = subst (λ r. IfErr r P) is of
told_by P short reply of (GroupRepeated n) is = subst (λ r. IfErr r P) is of
told_by P short reply of (HintNotUnit position) is = subst (λ r. IfErr r P) is of
told_by P short reply of EmptyOpen is = subst (λ r. IfErr r P) is of
told_by P short reply of (MissingGroup n) is = subst (λ r. IfErr r P) is of
told_by P short reply of (GroupStuck n position) is = subst (λ r. IfErr r P) is of
told_by P short reply of (GroupOpen n) is = subst (λ r. IfErr r P) is of
told_by P short reply of PrivateVariable is = subst (λ r. IfErr r P) is of
told_by P short reply of NoSuchClause is = subst (λ r. IfErr r P) is of
told_by P short reply of (Stale n) is = subst (λ r. IfErr r P) is of
told_by P short reply of Full is = subst (λ r. IfErr r P) is of
told_by P short reply of NoVariableLeft is = subst (λ r. IfErr r P) is of
told_by P short reply of (NoMemory m) is = short (NoMemory m) tt

undecided : (P : Refusal → Type 0) → ((e : Refusal) → IsWantOfMemory e → P e) → (told : Refusal) → IsDecided None told → P told
undecided P short SeatGone is = absurd (false≢true (ap is_some is))
undecided P short NumberTaken is = absurd (false≢true (ap is_some is))
undecided P short (UnknownNumber n) is = absurd (false≢true (ap is_some is))
undecided P short (GroupRepeated n) is = absurd (false≢true (ap is_some is))
undecided P short (HintNotUnit position) is = absurd (false≢true (ap is_some is))
undecided P short EmptyOpen is = absurd (false≢true (ap is_some is))
undecided P short (MissingGroup n) is = absurd (false≢true (ap is_some is))
undecided P short (GroupStuck n position) is = absurd (false≢true (ap is_some is))
undecided P short (GroupOpen n) is = absurd (false≢true (ap is_some is))
undecided P short PrivateVariable is = absurd (false≢true (ap is_some is))
undecided P short NoSuchClause is = absurd (false≢true (ap is_some is))
undecided P short (Stale n) is = absurd (false≢true (ap is_some is))
undecided P short Full is = absurd (false≢true (ap is_some is))
undecided P short NoVariableLeft is = absurd (false≢true (ap is_some is))
undecided P short (NoMemory m) is = short (NoMemory m) tt

short_full : (e : Refusal) → IsWantOfMemory e → IsRatOrFull e
short_full SeatGone is = absurd is
short_full NumberTaken is = absurd is
short_full (UnknownNumber n) is = absurd is
short_full (GroupRepeated n) is = absurd is
short_full (HintNotUnit position) is = absurd is
short_full EmptyOpen is = absurd is
short_full (MissingGroup n) is = absurd is
short_full (GroupStuck n position) is = absurd is
short_full (GroupOpen n) is = absurd is
short_full PrivateVariable is = absurd is
short_full NoSuchClause is = absurd is
short_full (Stale n) is = absurd is
short_full Full is = absurd is
short_full NoVariableLeft is = absurd is
short_full (NoMemory m) is = tt

short_found : (e : Refusal) → IsWantOfMemory e → IsNotFound e
short_found SeatGone is = absurd is
short_found NumberTaken is = absurd is
short_found (UnknownNumber n) is = absurd is
short_found (GroupRepeated n) is = absurd is
short_found (HintNotUnit position) is = absurd is
short_found EmptyOpen is = absurd is
short_found (MissingGroup n) is = absurd is
short_found (GroupStuck n position) is = absurd is
short_found (GroupOpen n) is = absurd is
short_found PrivateVariable is = absurd is
short_found NoSuchClause is = absurd is
short_found (Stale n) is = absurd is
short_found Full is = absurd is
short_found NoVariableLeft is = absurd is
short_found (NoMemory m) is = tt

short_line : (line : Line) (e : Refusal) → IsWantOfMemory e → IsOpenRefusal line e
short_line (lines.Add a) e is = short_full e is
short_line (lines.Delete numbers) e is = is
short_line (lines.Import own c) e is = short_found e is

-- ---- additions

full_told : (s : State) (o : Option Refusal) → IfSome o IsRatOrFull → IfSome (or_full s o) IsRatOrFull
full_told s (Some e) is = is
full_told s None is = by (nat_lt (addition_count s.history) s.max_steps)
  where
    by : (b : Bool) → IfSome (if b then None else Some Full) IsRatOrFull
    by true = tt
    by false = tt

rat_told : (answer : rats.RatAnswer) → IfSome (rat_refusal answer) IsRatOrFull
rat_told (rats.Covered groups) = tt
rat_told (rats.MissingGroup n) = tt
rat_told (rats.GroupStuck n position) = tt
rat_told (rats.GroupOpen n) = tt

open_told : (p : ClauseMap) (a : Addition) (held : LiteralSet) (pivot : Option ℤ) → IfSome (open_refusal p a held pivot) IsRatOrFull
open_told p a held None = tt
open_told p a held (Some q) = rat_told (rats.rat p held q a.groups)

propagation_told : (p : ClauseMap) (a : Addition) (w : Propagation) → stuck_refusal w ≡ None → IfSome (propagation_refusal p a w) IsRatOrFull
propagation_told p a (Closed used) is = tt
propagation_told p a (Open held) is = open_told p a held a.lemma.pivot
propagation_told p a (Stuck position) is = absurd (false≢true (sym (ap is_some is)))

unless_told : (o : Option Refusal) (x : Added) → IfSome o IsRatOrFull → IfErr (unless_refused o x) IsRatOrFull
unless_told None x is = tt
unless_told (Some e) x is = is

-- the hints of a case that fits, as the book and as the case itself name them
named_alike : (s : State) (seat own : ℕ) (pairs : List Pair) → IsGiven s → IsFit (view_of s seat) own pairs → hints_in (live s) (numbers pairs) ≡ named_hints pairs
named_alike s seat own pairs given fit = go (table_of s.tables seat) refl
  where
    go : (o : Option Table) → table_of s.tables seat ≡ o → hints_in (live s) (numbers pairs) ≡ named_hints pairs
    go None at = absurd (subst (λ (v : View). IsFit v own pairs) (view_is s seat None at) fit)
    go (Some t) at = let here = subst (λ (v : View). IsFit v own pairs) (view_is s seat (Some t) at) fit in held_named s seat t pairs given at here.1

-- what is left to an addition whose propagation ends so
abbrev ended : State → CaseValue → Propagation → Result Added Refusal
ended s c w = unless_refused (or_full s (propagation_refusal (live s) (joint_addition (next s) c) w)) (commit_told s)

joint_open : (s : State) (seat : ℕ) (a : Addition) → IsReached s → decided_refusal (view_of s seat) seat a ≡ None → IfErr (inside_reply s seat a) IsRatOrFull
joint_open s seat a reached clear = go (solo_take (view_of s seat) seat a) refl clear
  where
    given : IsGiven s
    given = IsGiven-sound s (IsSound-reached s reached)

    go : (r : Result CaseValue Refusal) → solo_take (view_of s seat) seat a ≡ r → decided_by r ≡ None → IfErr (inside_reply s seat a) IsRatOrFull
    go (Err x) at is = absurd (false≢true (sym (ap is_some is)))
    go (Ok c) at is =
        let fit = (take_fits seat (view_of s seat) a c at).fit in
        let reply : inside_reply s seat a ≡ ended s c (propagation_of c) =
        ap (inside_after s) (take_alone s seat a given ∙ at) ∙ ap (λ (hs : List Hint). ended s c (propagate_over (negations c.lemma.clause) hs)) (named_alike s seat c.own c.hints given fit) in
        subst (λ (r : Result Added Refusal). IfErr r IsRatOrFull) (sym reply)
        (unless_told (or_full s (propagation_refusal (live s) (joint_addition (next s) c) (propagation_of c))) (commit_told s)
        (full_told s (propagation_refusal (live s) (joint_addition (next s) c) (propagation_of c)) (propagation_told (live s) (joint_addition (next s) c) (propagation_of c) is)))

-- the same of an addition in the seat's variables
left_told : (left : Bool) (r : Result Added Refusal) → IfErr r IsRatOrFull → IfErr (if_left left r) IsRatOrFull
left_told true (Ok added) is = tt
left_told false (Ok added) is = tt
left_told left (Err e) is = is

added_open : (s : NamedState) (seat : ℕ) (a : Addition) → IsFormula s.formula → IsNamedReached s → decided_refusal (named_view s seat) seat a ≡ None → IfErr (named_inside s seat a) IsRatOrFull
added_open s seat a formula reached clear =
    subst (λ (r : Result Added Refusal). IfErr r IsRatOrFull) (sym (replies_are_beneath s seat a))
    (left_told (has_variables_for s seat a.lemma.clause) (inside_reply (beneath s) seat (addition_beneath s seat a))
    (joint_open (beneath s) seat (addition_beneath s seat a) (beneath_is_reached s reached) (sym (decided_so s seat a formula reached) ∙ clear)))

-- ---- deletions and imports

dropped_open : NamedFreeAlone → (s : NamedState) (seat : ℕ) (numbers : List ℕ) → gone_refusal (named_view s seat) ≡ None → IfErr (named_drop s seat numbers) IsWantOfMemory
dropped_open laws s seat dropped clear = by (is_here s.tables seat) (named_view s seat) (laws s seat 0) clear _
  where
    there : (h : View) (b : Bool) → Some SeatGone ≡ (if b then Some NumberTaken else None) → ⊥
    there h true is = cc
    there h false is = cc

    by : (here : Bool) (v : View) → (if here then (if is_bound s.tables seat 0 then Some NumberTaken else None) else Some SeatGone) ≡ solo_refusal v 0 → gone_refusal v ≡ None → (x : Dropped) → IfErr (if here then Ok x else Err SeatGone) IsWantOfMemory
    by true v same is x = tt
    by false None same is x = absurd (false≢true (sym (ap is_some is)))
    by false (Some h) same is x = absurd (there (Some h) (fin.contains_key h 0) same)

imported_open : NamedFreeAlone → (s : NamedState) (seat own : ℕ) (c : LiteralSet) → solo_refusal (named_view s seat) own ≡ None → IfErr (named_import s seat own c) IsNotFound
imported_open laws s seat own c clear = by (free_refusal (beneath s) seat own) (is_named (top_of s) (names_of s seat) c) (laws s seat own ∙ clear)
  where
    by : (free : Option Refusal) (named : Bool) → free ≡ None → IfErr (if_free (or_private free named) (imported (beneath s) (found (beneath s) (image (names_of s seat) c)))) IsNotFound
    by (Some e) named is = absurd (false≢true (sym (ap is_some is)))
    by None false is = tt
    by None true is = import_refused (beneath s) (image (names_of s seat) c) IsNotFound tt tt

-- ---- lines

line_open : NamedFreeAlone → (s : NamedState) (seat : SeatValue) (line : Line) (told : Refusal) → IsFormula s.formula → IsNamedReached s → seat_of_book s seat.number ≡ seat → line_refusal seat line ≡ None → IsRefusedLine seat.number line told s → IsOpenRefusal line told
line_open free s seat line told formula reached is clear refused =
    by line (ap (λ (v : SeatValue). line_refusal v line) is ∙ clear) refused
  where
    by : (l : Line) → line_refusal (seat_of_book s seat.number) l ≡ None → IsRefusedLine seat.number l told s → IsOpenRefusal l told
    by (lines.Add a) there r = told_by IsRatOrFull short_full (named_inside s seat.number a) (added_open s seat.number a formula reached there) told r
    by (lines.Delete dropped) there r = told_by IsWantOfMemory (λ e short. short) (named_drop s seat.number dropped) (dropped_open free s seat.number dropped there) told r
    by (lines.Import own c) there r = told_by IsNotFound short_found (named_import s seat.number own c) (imported_open free s seat.number own c there) told r

pub told_if_open : NamedFreeAlone → (f : FormulaValue) → IsFormula f → (seats max : ℕ) (seat : SeatValue) (line : Line) {A : Type 0} (r : Result A Refusal) → IfErr r (IsLineRefused f seats max seat line) → line_refusal seat line ≡ None → IfErr r (IsOpenRefusal line)
told_if_open free f formula seats max seat line (Ok x) refused clear = tt
told_if_open free f formula seats max seat line (Err told) (inl h) clear = line_open free h.state seat line told (subst IsFormula (sym h.opened.formula_is) formula) h.legal h.seat_is clear h.holds_there
told_if_open free f formula seats max seat line (Err told) (inr h) clear = undecided (IsOpenRefusal line) (short_line line) told (subst (λ (o : Option Refusal). IsDecided o told) clear h)
