-- An addition that is tested and entered in one call.
use Rattle.std.proofs.Common.{◌≡◌, ap, refl, sym, ◌∙◌, subst, ℕ, ◌+◌, ◌<◌, ◌≤◌, Bool, true, false, arith}
use Rattle.std.specs.Prelude.{ℤ, List, [], ◌∷◌, ◌++◌, map, length, Option, Some, None, not, ◌==◌, ◌||◌, ◌&&◌, if◌then◌else◌, is_some, IfSome, nat_lt, option_and_then, option_map, Result, Ok, Err}
use Rattle.std.specs.List.{list_all}
use Rattle.std.proofs.lemmas.Bool.{false≢true, and_from, eqb-true}
use Rattle.std.proofs.lemmas.Bool.Decides.{nat_tests}
use Rattle.std.specs.FinMap as fin
use Rattle.lj_clause.specs.Literal.{variable_of}
use Rattle.lj_clause.specs.LiteralSet.{LiteralSet, holds}
use Rattle.lj_clause.specs.Lemma.{LemmaValue}
use Rattle.lj_clause.specs.ClauseMap.{ClauseMap}
use Rattle.lj_clause.specs.Propagation.{Propagation, Closed, Open, Stuck, is_closed}
use Rattle.lj_clause.specs.Rat as rats
use Rattle.lj_clause.specs.Rat.{HintGroup, rat}
use Rattle.lj_text.specs.declared.line.Addition.{Addition}
use Rattle.lj_text.specs.declared.step.Step.{Step}
use Rattle.lj_text.specs.declared.step.Step.TheVariants as steps
use Rattle.lj_text.specs.Steps.{is_accepted, IsRecorded, with_covered, is_in_place, is_rat_on, is_rat_after, names, names_all, are_distinct, first_propagation, recorded_form, recorded_after, recorded_on}
use Rattle.lj_text.specs.Needed.{additions}
use Rattle.lj_text.proofs.StepLaws.{recorded_keeps}
use Rattle.lj_hint.specs.declared.pair.Pair.{Pair}
use Rattle.lj_hint.specs.Hints.{numbers}
use Rattle.lj_book.specs.declared.entry.Call.TheVariants as calls
use Rattle.lj_book.specs.declared.entry.Entry.{Entry}
use Rattle.lj_book.specs.declared.entry.Added.{Added}
use Rattle.lj_hint.specs.Case.{CaseValue}
use Rattle.lj_book.specs.declared.refusal.Refusal.{Refusal}
use Rattle.lj_book.specs.declared.refusal.Refusal.TheVariants as refusals
use Rattle.lj_book.specs.Tables.{Table, Tables, is_here, is_bound, has_holder, is_among, joint_of, with_table}
use Rattle.lj_book.specs.State.{State, steps_of, addition_count, next, live, verdict}
use Rattle.lj_book.specs.History.{after_entry, IsLegal}
use Rattle.lj_book.specs.Calls.{IsRefusal, unless_refused, pair_in, if_known, with_pair, pairs_of, with_group_pair, group_pairs_of, repeated_after, is_seen, with_seen, case_with, free_refusal, if_free, take_reply, commit_told}
use Rattle.lj_book.specs.Inside.{propagation_refusal, open_refusal, rat_refusal, or_full, test_refusal, inside_after, inside_reply, inside_step, inside_entry}
use Rattle.lj_book.specs.inner.JointLines.{LineParts, if_bound, with_joint, joints_in, with_joint_group, joint_groups_in, parts_with, joint_parts, addition_of_parts, tested_line, tested_parts, line_by, inside_line, line_entry}
use Rattle.lj_book.specs.inner.Kept.{IsKept, refuted_after}
use Rattle.lj_book.specs.inner.Records.{entering_call, entering_entry}
use Rattle.lj_book.proofs.HistoryLaws.{IsSound, IsSound-reached, IsReached-after, with_addition, after_part, part_step, live-addition, live-held, steps_of-push, additions-append, not_there}
use Rattle.lj_book.proofs.BookLaws.{same_state, verdict-same, verdict-first, verdict-stays}
use Rattle.lj_book.proofs.BindingLaws.{CanBind, can_bind}
use Rattle.lj_book.proofs.CommitLaws.{no_holder_at_next}
use Rattle.lj_book.proofs.SoloStates.{some_clause}
use Rattle.lj_book.proofs.SoloTables.{bound_has_holder}

-- ---- pairs and joint numbers

-- each number that the seat has bound has a clause
abbrev Lives : Tables → ClauseMap → ℕ → Type 0
Lives tables p seat = (own joint : ℕ) → joint_of tables seat own ≡ Some joint → (c : LiteralSet) × (fin.get p joint ≡ Some c)

abbrev pub numbers_of : Result (List Pair) Refusal → Result (List ℕ) Refusal
numbers_of (Ok pairs) = Ok (numbers pairs)
numbers_of (Err e) = Err e

abbrev pub groups_joint : List (Pair × List Pair) → List HintGroup
groups_joint groups = map (λ g. record { candidate = g.0.joint; hints = numbers g.1 }) groups

abbrev pub joint_groups : Result (List (Pair × List Pair)) Refusal → Result (List HintGroup) Refusal
joint_groups (Ok groups) = Ok (groups_joint groups)
joint_groups (Err e) = Err e

one_pair : (q : Pair) (r : Result (List Pair) Refusal) → numbers_of (with_pair q r) ≡ with_joint q.joint (numbers_of r)
one_pair q (Ok pairs) = refl
one_pair q (Err e) = refl

one_group : (q : Pair) (hints : Result (List Pair) Refusal) (later : Result (List (Pair × List Pair)) Refusal) → joint_groups (with_group_pair q hints later) ≡ with_joint_group q.joint (numbers_of hints) (joint_groups later)
one_group q (Err e) later = refl
one_group q (Ok hints) (Err e) = refl
one_group q (Ok hints) (Ok groups) = refl

numbers_taken : (tables : Tables) (p : ClauseMap) (seat : ℕ) → Lives tables p seat → (owns : List ℕ) → numbers_of (pairs_of (pair_in tables p seat) owns) ≡ joints_in (joint_of tables seat) owns
numbers_taken tables p seat lives [] = refl
numbers_taken tables p seat lives (own ∷ owns) = go (numbers_taken tables p seat lives owns) (joint_of tables seat own) refl
  where
    go : numbers_of (pairs_of (pair_in tables p seat) owns) ≡ joints_in (joint_of tables seat) owns → (o : Option ℕ) → joint_of tables seat own ≡ o → numbers_of (if_known own (option_and_then (λ j. option_map (λ c. record { joint = j; clause = c }) (fin.get p j)) o) (λ q. with_pair q (pairs_of (pair_in tables p seat) owns))) ≡ if_bound own o (λ j. with_joint j (joints_in (joint_of tables seat) owns))
    go rest None e = refl
    go rest (Some j) e =
        let found = lives own j e in
        let pair : Pair = record { joint = j; clause = found.0 } in
        let made : LiteralSet → Pair = λ c. record { joint = j; clause = c } in
        ap (λ o. numbers_of (if_known own (option_map made o) (λ q. with_pair q (pairs_of (pair_in tables p seat) owns)))) found.1
        ∙ one_pair pair (pairs_of (pair_in tables p seat) owns)
        ∙ ap (with_joint j) rest

groups_taken : (tables : Tables) (p : ClauseMap) (seat : ℕ) → Lives tables p seat → (gs : List HintGroup) → joint_groups (group_pairs_of (pair_in tables p seat) gs) ≡ joint_groups_in (joint_of tables seat) gs
groups_taken tables p seat lives [] = refl
groups_taken tables p seat lives (g ∷ gs) = go (groups_taken tables p seat lives gs) (joint_of tables seat g.candidate) refl
  where
    go : joint_groups (group_pairs_of (pair_in tables p seat) gs) ≡ joint_groups_in (joint_of tables seat) gs → (o : Option ℕ) → joint_of tables seat g.candidate ≡ o → joint_groups (if_known g.candidate (option_and_then (λ j. option_map (λ c. record { joint = j; clause = c }) (fin.get p j)) o) (λ q. with_group_pair q (pairs_of (pair_in tables p seat) g.hints) (group_pairs_of (pair_in tables p seat) gs))) ≡ if_bound g.candidate o (λ j. with_joint_group j (joints_in (joint_of tables seat) g.hints) (joint_groups_in (joint_of tables seat) gs))
    go rest None e = refl
    go rest (Some j) e =
        let found = lives g.candidate j e in
        let pair : Pair = record { joint = j; clause = found.0 } in
        let made : LiteralSet → Pair = λ c. record { joint = j; clause = c } in
        ap (λ o. joint_groups (if_known g.candidate (option_map made o) (λ q. with_group_pair q (pairs_of (pair_in tables p seat) g.hints) (group_pairs_of (pair_in tables p seat) gs)))) found.1
        ∙ one_group pair (pairs_of (pair_in tables p seat) g.hints) (group_pairs_of (pair_in tables p seat) gs)
        ∙ (λ i. with_joint_group j (numbers_taken tables p seat lives g.hints i) (rest i))

lives_sound : (s : State) (seat : ℕ) → IsSound s → Lives s.tables (live s) seat
lives_sound s seat sound own joint e = some_clause (fin.get (live s) joint) (live-held s sound joint ∙ bound_has_holder s.tables seat own joint e)

-- ---- the reply and the entry, told from the joint numbers

abbrev pub told_by : State → LemmaValue → Result LineParts Refusal → Result Added Refusal
told_by s lemma (Err e) = Err e
told_by s lemma (Ok parts) = unless_refused (test_refusal s (addition_of_parts (next s) lemma parts)) (commit_told s)

abbrev step_by : State → LemmaValue → Result LineParts Refusal → Option Step
step_by s lemma (Err e) = None
step_by s lemma (Ok parts) = Some (steps.Add (recorded_form (live s) (addition_of_parts (next s) lemma parts)))

after_case : (s : State) (seat : ℕ) (a : Addition) (rep : Option ℕ) (hs : Result (List Pair) Refusal) (gs : Result (List (Pair × List Pair)) Refusal) → inside_after s (case_with seat a rep hs gs) ≡ told_by s a.lemma (parts_with rep (numbers_of hs) (joint_groups gs))
after_case s seat a rep (Err e) gs = refl
after_case s seat a rep (Ok hs) (Err e) = refl
after_case s seat a None (Ok hs) (Ok gs) = refl
after_case s seat a (Some own) (Ok hs) (Ok gs) = refl

step_case : (s : State) (seat : ℕ) (a : Addition) (rep : Option ℕ) (hs : Result (List Pair) Refusal) (gs : Result (List (Pair × List Pair)) Refusal) → inside_step s (case_with seat a rep hs gs) ≡ step_by s a.lemma (parts_with rep (numbers_of hs) (joint_groups gs))
step_case s seat a rep (Err e) gs = refl
step_case s seat a rep (Ok hs) (Err e) = refl
step_case s seat a None (Ok hs) (Ok gs) = refl
step_case s seat a (Some own) (Ok hs) (Ok gs) = refl

abbrev pub case_here : State → ℕ → Addition → Result CaseValue Refusal
case_here s seat a = case_with seat a (repeated_after (joint_of s.tables seat) [] a.groups) (pairs_of (pair_in s.tables (live s) seat) a.hints) (group_pairs_of (pair_in s.tables (live s) seat) a.groups)

pub taken_free : (s : State) (seat : ℕ) (a : Addition) → CanBind s seat a.number → take_reply s seat a ≡ case_here s seat a
taken_free s seat a can =
    ap (λ b. if b then (if is_bound s.tables seat a.number then Err refusals.NumberTaken else case_here s seat a) else Err refusals.SeatGone) can.here
    ∙ ap (λ b. if b then Err refusals.NumberTaken else case_here s seat a) can.unbound

pub taken_refused : (s : State) (seat : ℕ) (a : Addition) (e : Refusal) → free_refusal s seat a.number ≡ Some e → take_reply s seat a ≡ Err e
taken_refused s seat a e h = go (is_here s.tables seat) (is_bound s.tables seat a.number) h
  where
    go : (here bound : Bool) → (if here then (if bound then Some refusals.NumberTaken else None) else Some refusals.SeatGone) ≡ Some e → (if here then (if bound then Err refusals.NumberTaken else case_here s seat a) else Err refusals.SeatGone) ≡ Err e
    go true true h = let same : refusals.NumberTaken ≡ e = cc in ap Err same
    go true false h = absurd (false≢true (ap is_some h))
    go false bound h = let same : refusals.SeatGone ≡ e = cc in ap Err same

pub parts_here : (s : State) (seat : ℕ) (a : Addition) → IsSound s → parts_with (repeated_after (joint_of s.tables seat) [] a.groups) (numbers_of (pairs_of (pair_in s.tables (live s) seat) a.hints)) (joint_groups (group_pairs_of (pair_in s.tables (live s) seat) a.groups)) ≡ joint_parts (joint_of s.tables seat) a
parts_here s seat a sound =
    let lives = lives_sound s seat sound in
    λ i. parts_with (repeated_after (joint_of s.tables seat) [] a.groups) (numbers_taken s.tables (live s) seat lives a.hints i) (groups_taken s.tables (live s) seat lives a.groups i)

reply_free : (s : State) (seat : ℕ) (a : Addition) → IsSound s → CanBind s seat a.number → inside_reply s seat a ≡ told_by s a.lemma (joint_parts (joint_of s.tables seat) a)
reply_free s seat a sound can =
    ap (inside_after s) (taken_free s seat a can)
    ∙ after_case s seat a _ _ _
    ∙ ap (told_by s a.lemma) (parts_here s seat a sound)

step_free : (s : State) (seat : ℕ) (a : Addition) → IsSound s → CanBind s seat a.number → inside_step s (take_reply s seat a) ≡ step_by s a.lemma (joint_parts (joint_of s.tables seat) a)
step_free s seat a sound can =
    ap (inside_step s) (taken_free s seat a can)
    ∙ step_case s seat a _ _ _
    ∙ ap (step_by s a.lemma) (parts_here s seat a sound)

refused_by : (s : State) (lemma : LemmaValue) (r : Result LineParts Refusal) (e : Refusal) → line_by s lemma r ≡ Err e → told_by s lemma r ≡ Err e
refused_by s lemma (Err x) e h = let same : x ≡ e = cc in ap Err same
refused_by s lemma (Ok parts) e h = go (test_refusal s (addition_of_parts (next s) lemma parts)) h
  where
    go : (o : Option Refusal) → unless_refused o (recorded_form (live s) (addition_of_parts (next s) lemma parts)) ≡ Err e → unless_refused o (commit_told s) ≡ Err e
    go None h = cc
    go (Some x) h = let same : x ≡ e = cc in ap Err same

-- the reply, told so
pub inside_told : (s : State) (seat : ℕ) (a : Addition) → IsSound s → inside_reply s seat a ≡ if_free (free_refusal s seat a.number) (told_by s a.lemma (joint_parts (joint_of s.tables seat) a))
inside_told s seat a sound = go (free_refusal s seat a.number) refl
  where
    go : (o : Option Refusal) → free_refusal s seat a.number ≡ o → inside_reply s seat a ≡ if_free o (told_by s a.lemma (joint_parts (joint_of s.tables seat) a))
    go None is = reply_free s seat a sound (can_bind s seat a.number is)
    go (Some e) is = ap (inside_after s) (taken_refused s seat a e is)

-- a refusal of the code's is that of the definition
pub inside_refused : (s : State) (seat : ℕ) (a : Addition) (e : Refusal) → IsSound s → inside_line s seat a ≡ Err e → inside_reply s seat a ≡ Err e
inside_refused s seat a e sound h = go (free_refusal s seat a.number) refl h
  where
    go : (o : Option Refusal) → free_refusal s seat a.number ≡ o → if_free o (line_by s a.lemma (joint_parts (joint_of s.tables seat) a)) ≡ Err e → inside_reply s seat a ≡ Err e
    go None is h = reply_free s seat a sound (can_bind s seat a.number is) ∙ refused_by s a.lemma (joint_parts (joint_of s.tables seat) a) e h
    go (Some x) is h = let same : x ≡ e = cc in ap (inside_after s) (taken_refused s seat a x is) ∙ ap Err same

-- An addition that is entered.
pub record IsEntered (s : State) (seat : ℕ) (a step : Addition) (parts : LineParts) : Type 0 where
  pub can : CanBind s seat a.number
  pub are : joint_parts (joint_of s.tables seat) a ≡ Ok parts
  pub passed : test_refusal s (addition_of_parts (next s) a.lemma parts) ≡ None
  pub is : recorded_form (live s) (addition_of_parts (next s) a.lemma parts) ≡ step

pub entered : (s : State) (seat : ℕ) (a step : Addition) → inside_line s seat a ≡ Ok step → (parts : LineParts) × IsEntered s seat a step parts
entered s seat a step h = go (free_refusal s seat a.number) refl (joint_parts (joint_of s.tables seat) a) refl h
  where
    made : (can : CanBind s seat a.number) (parts : LineParts) → joint_parts (joint_of s.tables seat) a ≡ Ok parts → (o : Option Refusal) → test_refusal s (addition_of_parts (next s) a.lemma parts) ≡ o → unless_refused o (recorded_form (live s) (addition_of_parts (next s) a.lemma parts)) ≡ Ok step → (parts : LineParts) × IsEntered s seat a step parts
    made can parts are None passed h = let same : recorded_form (live s) (addition_of_parts (next s) a.lemma parts) ≡ step = cc in (parts, record { can = can; are = are; passed = passed; is = same })
    made can parts are (Some x) passed h = absurd (not_ok x h)
      where
        not_ok : (x : Refusal) → ◌≡◌ {A = Result Addition Refusal} (Err x) (Ok step) → ⊥
        not_ok x h = cc

    go : (o : Option Refusal) → free_refusal s seat a.number ≡ o → (r : Result LineParts Refusal) → joint_parts (joint_of s.tables seat) a ≡ r → if_free o (line_by s a.lemma r) ≡ Ok step → (parts : LineParts) × IsEntered s seat a step parts
    go None is (Ok parts) are h = made (can_bind s seat a.number is) parts are (test_refusal s (addition_of_parts (next s) a.lemma parts)) refl h
    go None is (Err x) are h = absurd (let no : ⊥ = cc in no)
    go (Some x) is r are h = absurd (let no : ⊥ = cc in no)

recorded_same : (p : ClauseMap) (a : Addition) (w : Propagation) → ((recorded_after p a w).number ≡ a.number) × ((recorded_after p a w).lemma ≡ a.lemma)
recorded_same p a (Closed used) = (refl, refl)
recorded_same p a (Stuck place) = (refl, refl)
recorded_same p a (Open t) = go a.lemma.pivot
  where
    covered : (r : rats.RatAnswer) → ((with_covered a r).number ≡ a.number) × ((with_covered a r).lemma ≡ a.lemma)
    covered (rats.Covered groups) = (refl, refl)
    covered (rats.MissingGroup n) = (refl, refl)
    covered (rats.GroupStuck n place) = (refl, refl)
    covered (rats.GroupOpen n) = (refl, refl)

    go : (o : Option ℤ) → ((recorded_on p a t o).number ≡ a.number) × ((recorded_on p a t o).lemma ≡ a.lemma)
    go None = (refl, refl)
    go (Some q) = covered (rat p t q a.groups)

-- its step has the lemma, and the next number
pub step_kept : (s : State) (seat : ℕ) (a step : Addition) (parts : LineParts) → IsEntered s seat a step parts → (step.number ≡ next s) × (step.lemma ≡ a.lemma)
step_kept s seat a step parts e =
    let b = addition_of_parts (next s) a.lemma parts in
    let kept = recorded_same (live s) b (first_propagation (live s) b) in
    (sym (ap (λ (x : Addition). x.number) e.is) ∙ kept.0, sym (ap (λ (x : Addition). x.lemma) e.is) ∙ kept.1)

-- the reply and the entry of an addition that is entered
pub entered_reply : (s : State) (seat : ℕ) (a step : Addition) (parts : LineParts) → IsSound s → IsEntered s seat a step parts → inside_reply s seat a ≡ Ok (commit_told s)
entered_reply s seat a step parts sound e =
    reply_free s seat a sound e.can
    ∙ ap (told_by s a.lemma) e.are
    ∙ ap (λ o. unless_refused o (commit_told s)) e.passed

pub entered_entry : (s : State) (seat : ℕ) (a step : Addition) (parts : LineParts) → IsSound s → IsEntered s seat a step parts → inside_entry s seat a ≡ line_entry seat a.number step
entered_entry s seat a step parts sound e =
    let entry : LemmaValue → Option Step → Entry = λ l o. record { seat = seat; call = calls.Add a.number l; step = o } in
    λ i. entry (sym (step_kept s seat a step parts e).1 i) ((step_free s seat a sound e.can ∙ ap (step_by s a.lemma) e.are ∙ ap (λ x. Some (steps.Add x)) e.is) i)

-- ---- what the code finds

pub refusal_passes : {A B : Type 0} (e : Refusal) (one : Result A Refusal) (whole : Result B Refusal) → ((x : Refusal) → one ≡ Err x → whole ≡ Err x) → IsRefusal e one → IsRefusal e whole
refusal_passes (refusals.NoMemory m) one whole f h = tt
refusal_passes refusals.SeatGone one whole f h = f refusals.SeatGone h
refusal_passes refusals.NumberTaken one whole f h = f refusals.NumberTaken h
refusal_passes (refusals.UnknownNumber n) one whole f h = f (refusals.UnknownNumber n) h
refusal_passes (refusals.GroupRepeated n) one whole f h = f (refusals.GroupRepeated n) h
refusal_passes (refusals.HintNotUnit n) one whole f h = f (refusals.HintNotUnit n) h
refusal_passes refusals.EmptyOpen one whole f h = f refusals.EmptyOpen h
refusal_passes (refusals.MissingGroup n) one whole f h = f (refusals.MissingGroup n) h
refusal_passes (refusals.GroupStuck n place) one whole f h = f (refusals.GroupStuck n place) h
refusal_passes (refusals.GroupOpen n) one whole f h = f (refusals.GroupOpen n) h
refusal_passes (refusals.Stale n) one whole f h = f (refusals.Stale n) h
refusal_passes refusals.PrivateVariable one whole f h = f refusals.PrivateVariable h
refusal_passes refusals.NoSuchClause one whole f h = f refusals.NoSuchClause h
refusal_passes refusals.Full one whole f h = f refusals.Full h
refusal_passes refusals.NoVariableLeft one whole f h = f refusals.NoVariableLeft h

-- A line whose seat and numbers aren't refused.
record IsTaken (s : State) (seat : ℕ) (a : Addition) (parts : LineParts) : Type 0 where
  free : free_refusal s seat a.number ≡ None
  are : joint_parts (joint_of s.tables seat) a ≡ Ok parts

line_taken : (s : State) (seat : ℕ) (a : Addition) (parts : LineParts) → IsTaken s seat a parts → inside_line s seat a ≡ line_by s a.lemma (Ok parts)
line_taken s seat a parts t =
    ap (λ o. if_free o (line_by s a.lemma (joint_parts (joint_of s.tables seat) a))) t.free
    ∙ ap (line_by s a.lemma) t.are

line_refused : (s : State) (seat : ℕ) (a : Addition) (parts : LineParts) (x : Refusal) → IsTaken s seat a parts → tested_line (live s) (addition_of_parts (next s) a.lemma parts) ≡ Err x → inside_line s seat a ≡ Err x
line_refused s seat a parts x t h =
    line_taken s seat a parts t
    ∙ go (propagation_refusal (live s) (addition_of_parts (next s) a.lemma parts) (first_propagation (live s) (addition_of_parts (next s) a.lemma parts))) h
  where
    go : (o : Option Refusal) → unless_refused o (recorded_form (live s) (addition_of_parts (next s) a.lemma parts)) ≡ Err x → unless_refused (or_full s o) (recorded_form (live s) (addition_of_parts (next s) a.lemma parts)) ≡ Err x
    go None h = cc
    go (Some y) h = h

line_room : (s : State) (seat : ℕ) (a : Addition) (parts : LineParts) (step : Addition) (b : Bool) → IsTaken s seat a parts → tested_line (live s) (addition_of_parts (next s) a.lemma parts) ≡ Ok step → nat_lt (addition_count s.history) s.max_steps ≡ b → inside_line s seat a ≡ (if b then Ok step else Err refusals.Full)
line_room s seat a parts step b t h capacity =
    line_taken s seat a parts t
    ∙ go (propagation_refusal (live s) (addition_of_parts (next s) a.lemma parts) (first_propagation (live s) (addition_of_parts (next s) a.lemma parts))) b h capacity
  where
    full : (c : Bool) (x : Addition) → ◌≡◌ {A = Result Addition Refusal} (Ok x) (Ok step) → unless_refused (if c then None else Some refusals.Full) x ≡ (if c then Ok step else Err refusals.Full)
    full true x h = h
    full false x h = refl

    go : (o : Option Refusal) (c : Bool) → unless_refused o (recorded_form (live s) (addition_of_parts (next s) a.lemma parts)) ≡ Ok step → nat_lt (addition_count s.history) s.max_steps ≡ c → unless_refused (or_full s o) (recorded_form (live s) (addition_of_parts (next s) a.lemma parts)) ≡ (if c then Ok step else Err refusals.Full)
    go None c h capacity = ap (λ k. unless_refused (if k then None else Some refusals.Full) (recorded_form (live s) (addition_of_parts (next s) a.lemma parts))) capacity ∙ full c (recorded_form (live s) (addition_of_parts (next s) a.lemma parts)) h
    go (Some y) c h capacity = cc

line_full : (s : State) (seat : ℕ) (a : Addition) (parts : LineParts) (step : Addition) → IsTaken s seat a parts → tested_line (live s) (addition_of_parts (next s) a.lemma parts) ≡ Ok step → s.max_steps ≤ addition_count s.history → inside_line s seat a ≡ Err refusals.Full
line_full s seat a parts step t h le = line_room s seat a parts step false t h (above (addition_count s.history) s.max_steps le)
  where
    above : (n m : ℕ) → m ≤ n → nat_lt n m ≡ false
    above n m e = grind (arith, nat_tests)

line_passed : (s : State) (seat : ℕ) (a : Addition) (parts : LineParts) (step : Addition) → IsTaken s seat a parts → tested_line (live s) (addition_of_parts (next s) a.lemma parts) ≡ Ok step → addition_count s.history < s.max_steps → inside_line s seat a ≡ Ok step
line_passed s seat a parts step t h lt = line_room s seat a parts step true t h (below (addition_count s.history) s.max_steps lt)
  where
    below : (n m : ℕ) → n < m → nat_lt n m ≡ true
    below n m e = grind (arith, nat_tests)

-- the test of the parts that an addition has, over these clauses
abbrev pub parts_tested : ClauseMap → State → ℕ → Addition → Result Addition Refusal
parts_tested p s seat a = tested_parts p (next s) a.lemma (joint_parts (joint_of s.tables seat) a)

-- what it tells of an addition that isn't refused before it
told_by_parts : {X : Type 0} (p : ClauseMap) (s : State) (seat : ℕ) (a : Addition) (answer : Result Addition Refusal) → p ≡ live s → free_refusal s seat a.number ≡ None → parts_tested p s seat a ≡ answer → ((x : Refusal) → inside_line s seat a ≡ Err x → answer ≡ Err x → X) → ((parts : LineParts) → IsTaken s seat a parts → tested_line (live s) (addition_of_parts (next s) a.lemma parts) ≡ answer → X) → X
told_by_parts {X} p s seat a answer lives free h refused taken = go (joint_parts (joint_of s.tables seat) a) refl (ap (λ (q : ClauseMap). parts_tested q s seat a) (sym lives) ∙ h)
  where
    go : (r : Result LineParts Refusal) → joint_parts (joint_of s.tables seat) a ≡ r → tested_parts (live s) (next s) a.lemma r ≡ answer → X
    go (Err x) are tested = refused x (ap (λ o. if_free o (line_by s a.lemma (joint_parts (joint_of s.tables seat) a))) free ∙ ap (line_by s a.lemma) are) (sym tested)
    go (Ok parts) are tested = taken parts (record { free = free; are = are }) tested

pub parts_refused : (p : ClauseMap) (s : State) (seat : ℕ) (a : Addition) (x : Refusal) → p ≡ live s → free_refusal s seat a.number ≡ None → parts_tested p s seat a ≡ Err x → inside_line s seat a ≡ Err x
parts_refused p s seat a x lives free h = told_by_parts p s seat a (Err x) lives free h (λ y is same. is ∙ sym same) (λ parts taken tested. line_refused s seat a parts x taken tested)

pub parts_full : (p : ClauseMap) (s : State) (seat : ℕ) (a step : Addition) → p ≡ live s → free_refusal s seat a.number ≡ None → parts_tested p s seat a ≡ Ok step → s.max_steps ≤ addition_count s.history → inside_line s seat a ≡ Err refusals.Full
parts_full p s seat a step lives free h le = told_by_parts p s seat a (Ok step) lives free h (λ y is same. absurd (let no : ⊥ = cc in no)) (λ parts taken tested. line_full s seat a parts step taken tested le)

pub parts_passed : (p : ClauseMap) (s : State) (seat : ℕ) (a step : Addition) → p ≡ live s → free_refusal s seat a.number ≡ None → parts_tested p s seat a ≡ Ok step → addition_count s.history < s.max_steps → inside_line s seat a ≡ Ok step
parts_passed p s seat a step lives free h lt = told_by_parts p s seat a (Ok step) lives free h (λ y is same. absurd (let no : ⊥ = cc in no)) (λ parts taken tested. line_passed s seat a parts step taken tested lt)

-- ---- the entry is legal

pub parts_of : (rep : Option ℕ) (hs : Result (List ℕ) Refusal) (gs : Result (List HintGroup) Refusal) (parts : LineParts) → parts_with rep hs gs ≡ Ok parts → (rep ≡ None) × (hs ≡ Ok parts.0) × (gs ≡ Ok parts.1)
parts_of rep (Err e) gs parts h = absurd (let no : ⊥ = cc in no)
parts_of rep (Ok hs) (Err e) parts h = absurd (let no : ⊥ = cc in no)
parts_of None (Ok hs) (Ok gs) parts h = let same : ◌≡◌ {A = LineParts} (hs, gs) parts = cc in (refl, ap (λ (p : LineParts). Ok p.0) same, ap (λ (p : LineParts). Ok p.1) same)
parts_of (Some own) (Ok hs) (Ok gs) parts h = absurd (let no : ⊥ = cc in no)

-- where each bound number is named, so are the joint numbers
joints_named : (p : ClauseMap) (joint : ℕ → Option ℕ) → ((own j : ℕ) → joint own ≡ Some j → names p j ≡ true) → (owns js : List ℕ) → joints_in joint owns ≡ Ok js → names_all p js ≡ true
joints_named p joint named [] js h = let same : [] ≡ js = cc in ap (names_all p) (sym same)
joints_named p joint named (own ∷ owns) js h = go (λ ks f. joints_named p joint named owns ks f) (joint own) refl (joints_in joint owns) refl h
  where
    go : ((ks : List ℕ) → joints_in joint owns ≡ Ok ks → names_all p ks ≡ true) → (o : Option ℕ) → joint own ≡ o → (r : Result (List ℕ) Refusal) → joints_in joint owns ≡ r → if_bound own o (λ j. with_joint j r) ≡ Ok js → names_all p js ≡ true
    go rest None e r f h = absurd (let no : ⊥ = cc in no)
    go rest (Some j) e (Err x) f h = absurd (let no : ⊥ = cc in no)
    go rest (Some j) e (Ok ks) f h =
        let same : j ∷ ks ≡ js = cc in
        ap (names_all p) (sym same) ∙ and_from (names p j) (names_all p ks) (named own j e) (rest ks f)

abbrev group_named : ClauseMap → HintGroup → Bool
group_named p g = names p g.candidate && names_all p g.hints

groups_named : (p : ClauseMap) (joint : ℕ → Option ℕ) → ((own j : ℕ) → joint own ≡ Some j → names p j ≡ true) → (gs js : List HintGroup) → joint_groups_in joint gs ≡ Ok js → list_all (group_named p) js ≡ true
groups_named p joint named [] js h = let same : [] ≡ js = cc in ap (list_all (group_named p)) (sym same)
groups_named p joint named (g ∷ gs) js h = go (λ ks f. groups_named p joint named gs ks f) (joint g.candidate) refl (joints_in joint g.hints) refl (joint_groups_in joint gs) refl h
  where
    go : ((ks : List HintGroup) → joint_groups_in joint gs ≡ Ok ks → list_all (group_named p) ks ≡ true) → (o : Option ℕ) → joint g.candidate ≡ o → (hs : Result (List ℕ) Refusal) → joints_in joint g.hints ≡ hs → (r : Result (List HintGroup) Refusal) → joint_groups_in joint gs ≡ r → if_bound g.candidate o (λ j. with_joint_group j hs r) ≡ Ok js → list_all (group_named p) js ≡ true
    go rest None e hs k r f h = absurd (let no : ⊥ = cc in no)
    go rest (Some j) e (Err x) k r f h = absurd (let no : ⊥ = cc in no)
    go rest (Some j) e (Ok hints) k (Err x) f h = absurd (let no : ⊥ = cc in no)
    go rest (Some j) e (Ok hints) k (Ok later) f h =
        let first : HintGroup = record { candidate = j; hints = hints } in
        let same : first ∷ later ≡ js = cc in
        ap (list_all (group_named p)) (sym same)
        ∙ and_from (group_named p first) (list_all (group_named p) later) (and_from (names p j) (names_all p hints) (named g.candidate j e) (joints_named p joint named g.hints hints k)) (rest later f)

abbrev candidates_of : List HintGroup → List ℕ
candidates_of gs = map (λ g. g.candidate) gs

-- Groups without a repeated candidate, none of which was seen before.
record AreDisjoint (seen : List ℕ) (js : List HintGroup) : Type 0 where
  distinct : are_distinct (candidates_of js) ≡ true
  unseen : (m : ℕ) → is_among seen m ≡ true → is_among (candidates_of js) m ≡ false

itself : (n : ℕ) → (n == n) ≡ true
itself n = grind (arith, nat_tests)

apart : (joint : ℕ → Option ℕ) (seen : List ℕ) (gs js : List HintGroup) → repeated_after joint seen gs ≡ None → joint_groups_in joint gs ≡ Ok js → AreDisjoint seen js
apart joint seen [] js new h = let same : [] ≡ js = cc in subst (AreDisjoint seen) same (record { distinct = refl; unseen = λ m e. refl })
apart joint seen (g ∷ gs) js new h = go (λ j ks n f. apart joint (j ∷ seen) gs ks n f) (joint g.candidate) refl (joints_in joint g.hints) (joint_groups_in joint gs) refl new h
  where
    fresh : (j : ℕ) (b : Bool) → is_among seen j ≡ b → (if b then Some g.candidate else repeated_after joint (j ∷ seen) gs) ≡ None → (is_among seen j ≡ false) × (repeated_after joint (j ∷ seen) gs ≡ None)
    fresh j true e h = absurd (false≢true (sym (ap is_some h)))
    fresh j false e h = (e, h)

    go : ((j : ℕ) (ks : List HintGroup) → repeated_after joint (j ∷ seen) gs ≡ None → joint_groups_in joint gs ≡ Ok ks → AreDisjoint (j ∷ seen) ks) → (o : Option ℕ) → joint g.candidate ≡ o → (hs : Result (List ℕ) Refusal) (r : Result (List HintGroup) Refusal) → joint_groups_in joint gs ≡ r → (if is_seen seen o then Some g.candidate else repeated_after joint (with_seen o seen) gs) ≡ None → if_bound g.candidate o (λ j. with_joint_group j hs r) ≡ Ok js → AreDisjoint seen js
    go before None e hs r f new h = absurd (let no : ⊥ = cc in no)
    go before (Some j) e (Err x) r f new h = absurd (let no : ⊥ = cc in no)
    go before (Some j) e (Ok hints) (Err x) f new h = absurd (let no : ⊥ = cc in no)
    go before (Some j) e (Ok hints) (Ok later) f new h =
        let first : HintGroup = record { candidate = j; hints = hints } in
        let same : first ∷ later ≡ js = cc in
        let unseen = fresh j (is_among seen j) refl new in
        let rest = before j later unseen.1 f in
        let not_here : is_among (candidates_of later) j ≡ false = rest.unseen j (ap (λ b. b || is_among seen j) (itself j)) in
        subst (AreDisjoint seen) same (record {
          distinct = and_from (not (is_among (candidates_of later) j)) (are_distinct (candidates_of later)) (ap not not_here) rest.distinct;
          unseen = λ m was. elim (j == m) as (λ b. (j == m) ≡ b → (b || is_among (candidates_of later) m) ≡ false) [
            | true ↦ λ is. absurd (false≢true (sym unseen.0 ∙ ap (is_among seen) (eqb-true j m is) ∙ was))
            | false ↦ λ is. rest.unseen m (ap (λ b. b || is_among seen m) is ∙ was)
          ] refl;
        })

-- A pivot that is a literal of the lemma's clause.
pub record IsPivot (lemma : LemmaValue) : Type 0 where
  pub literal : IfSome lemma.pivot (λ q. (variable_of q == 0) ≡ false)
  pub there : IfSome lemma.pivot (λ q. holds lemma.clause q ≡ true)

accepted_by : (p : ClauseMap) (a : Addition) (w : Propagation) → IsPivot a.lemma → propagation_refusal p a w ≡ None → (is_closed w || is_rat_after p a w) ≡ true
accepted_by p a (Closed used) pivot h = refl
accepted_by p a (Stuck place) pivot h = absurd (false≢true (sym (ap is_some h)))
accepted_by p a (Open t) pivot h = go a.lemma.pivot pivot.literal pivot.there h
  where
    covered : (r : rats.RatAnswer) → rat_refusal r ≡ None → rats.is_covered r ≡ true
    covered (rats.Covered groups) h = refl
    covered (rats.MissingGroup n) h = absurd (false≢true (sym (ap is_some h)))
    covered (rats.GroupStuck n place) h = absurd (false≢true (sym (ap is_some h)))
    covered (rats.GroupOpen n) h = absurd (false≢true (sym (ap is_some h)))

    go : (o : Option ℤ) → IfSome o (λ q. (variable_of q == 0) ≡ false) → IfSome o (λ q. holds a.lemma.clause q ≡ true) → open_refusal p a t o ≡ None → is_rat_on p a t o ≡ true
    go None literal there h = absurd (false≢true (sym (ap is_some h)))
    go (Some q) literal there h = and_from (not (variable_of q == 0)) _ (ap not literal) (and_from (holds a.lemma.clause q) (rats.is_covered (rat p t q a.groups)) there (covered (rat p t q a.groups) h))

-- What passing says of the state.
record IsPassed (s : State) (a : Addition) : Type 0 where
  propagated : propagation_refusal (live s) a (first_propagation (live s) a) ≡ None
  capacity : addition_count s.history < s.max_steps

abbrev full_or : Bool → Option Refusal → Option Refusal
full_or b None = if b then None else Some refusals.Full
full_or b (Some e) = Some e

passed_by : (s : State) (a : Addition) → test_refusal s a ≡ None → IsPassed s a
passed_by s a h = go (propagation_refusal (live s) a (first_propagation (live s) a)) refl (nat_lt (addition_count s.history) s.max_steps) refl h
  where
    fits : (n m : ℕ) → nat_lt n m ≡ true → n < m
    fits n m e = grind (arith, nat_tests)

    go : (o : Option Refusal) → propagation_refusal (live s) a (first_propagation (live s) a) ≡ o → (b : Bool) → nat_lt (addition_count s.history) s.max_steps ≡ b → full_or b o ≡ None → IsPassed s a
    go (Some e) is b f h = absurd (false≢true (sym (ap is_some h)))
    go None is false f h = absurd (false≢true (sym (ap is_some h)))
    go None is true f h = record { propagated = is; capacity = fits (addition_count s.history) s.max_steps f }

-- there is room for it
pub entered_room : (s : State) (seat : ℕ) (a step : Addition) (parts : LineParts) → IsEntered s seat a step parts → addition_count s.history < s.max_steps
entered_room s seat a step parts e = (passed_by s (addition_of_parts (next s) a.lemma parts) e.passed).capacity

-- the entry is legal
pub entered_legal : (s : State) (seat : ℕ) (a step : Addition) (parts : LineParts) → IsSound s → IsPivot a.lemma → IsEntered s seat a step parts → IsLegal s (line_entry seat a.number step)
entered_legal s seat a step parts sound pivot e =
    let p = live s in
    let joint = joint_of s.tables seat in
    let b = addition_of_parts (next s) a.lemma parts in
    let found = parts_of (repeated_after joint [] a.groups) (joints_in joint a.hints) (joint_groups_in joint a.groups) parts e.are in
    let named : (own j : ℕ) → joint own ≡ Some j → names p j ≡ true = λ own j is. live-held s sound j ∙ bound_has_holder s.tables seat own j is in
    let stored : is_in_place p b ≡ true =
    and_from (not (names p (next s))) _ (ap not (not_there s sound))
    (and_from (names_all p parts.0) _ (joints_named p joint named a.hints parts.0 found.1)
    (and_from (list_all (group_named p) parts.1) _ (groups_named p joint named a.groups parts.1 found.2) (apart joint [] a.groups parts.1 found.0 found.2).distinct)) in
    let passed = passed_by s b e.passed in
    let accepted : is_accepted p (steps.Add b) ≡ true = and_from (is_in_place p b) _ stored (accepted_by p b (first_propagation p b) pivot passed.propagated) in
    let kept = recorded_keeps p b accepted in
    let same = step_kept s seat a step parts e in
    record {
      here = e.can.here;
      unbound = e.can.unbound;
      capacity = passed.capacity;
      addition = (same.0, (refl, (subst (λ (x : Addition). is_accepted p (steps.Add x) ≡ true) e.is kept.1, subst (IsRecorded p) e.is kept.0)));
    }

refuted_next : (history : List Entry) (b : Bool) (seat own : ℕ) (step : Addition) (refuted : Option ℕ) → refuted ≡ verdict history → refuted_after refuted (length history) step.lemma.clause ≡ verdict (history ++ entering_entry b seat own step ∷ [])
refuted_next history b seat own step (Some first) is = sym (verdict-stays history (entering_entry b seat own step) first (sym is))
refuted_next history b seat own step None is =
    elim (fin.len step.lemma.clause == 0) as (λ b0. (fin.len step.lemma.clause == 0) ≡ b0 → (if b0 then Some (length history) else None) ≡ verdict (history ++ entering_entry b seat own step ∷ [])) [
      | true ↦ λ e. sym (verdict-first history (entering_entry b seat own step) e (sym is))
      | false ↦ λ e. is ∙ sym (verdict-same history (entering_entry b seat own step) e)
    ] refl

-- A legal entry by which a lemma enters.
pub record IsEntering (s : State) (b : Bool) (seat own : ℕ) (step : Addition) : Type 0 where
  pub here : is_here s.tables seat ≡ true
  pub unbound : is_bound s.tables seat own ≡ false
  pub capacity : addition_count s.history < s.max_steps
  pub number : step.number ≡ next s
  pub leaves : after_entry s (entering_entry b seat own step) ≡ with_addition s seat own (entering_call b own step.lemma) step

pub entering : (s : State) (b : Bool) (seat own : ℕ) (step : Addition) → IsLegal s (entering_entry b seat own step) → IsEntering s b seat own step
entering s false seat own step legal = record { here = legal.here; unbound = legal.unbound; capacity = legal.capacity; number = legal.addition.0; leaves = refl }
entering s true seat own step legal =
    let part = part_step s seat own step.lemma.clause step legal in
    record {
      here = legal.here;
      unbound = legal.unbound;
      capacity = legal.capacity refl;
      number = ap (λ (a : Addition). a.number) part.1.1;
      leaves = after_part s seat own part.0 step.lemma.clause (Some (steps.Add step)) part.1.0 legal.asked ∙ ap (with_addition s seat own (calls.Import own step.lemma.clause)) (sym part.1.1);
    }

-- what a book keeps, after a legal entry by which a lemma enters
pub IsKept-entering : (s : State) (b : Bool) (seat own : ℕ) (step : Addition) (m n : ClauseMap) (count : ℕ) (refuted : Option ℕ) → IsKept s m count refuted → IsLegal s (entering_entry b seat own step) → n ≡ fin.insert m (next s) step.lemma.clause → IsKept (after_entry s (entering_entry b seat own step)) n (count + 1) (refuted_after refuted (length s.history) step.lemma.clause)
IsKept-entering s b seat own step m n count refuted kept legal is =
    let sound = IsSound-reached s kept.reached in
    let e = entering s b seat own step legal in
    let number = e.number in
    let before = kept.additions in
    let more = ap (λ ss. length (additions ss)) (steps_of-push s.history (entering_entry b seat own step)) ∙ additions-append (steps_of s.history) (steps.Add step ∷ []) in
    record {
      reached = IsReached-after s (entering_entry b seat own step) kept.reached legal;
      lives = is ∙ (λ i. fin.insert (kept.lives i) (sym number i) step.lemma.clause) ∙ sym (live-addition s seat own (entering_call b own step.lemma) step sound e.here e.unbound number) ∙ ap live (sym e.leaves);
      additions = omega arith;
      first_empty = refuted_next s.history b seat own step refuted kept.first_empty;
    }

pub entering_state : (s : State) (b : Bool) (seat own : ℕ) (step : Addition) (tables : Tables) (history : List Entry) → IsEntering s b seat own step → tables ≡ with_table (λ t. fin.insert t own step.number) s.tables seat → history ≡ s.history ++ entering_entry b seat own step ∷ [] → ◌≡◌ {A = State} (record { formula = s.formula; max_steps = s.max_steps; tables = tables; history = history }) (after_entry s (entering_entry b seat own step))
entering_state s b seat own step tables history e bound pushed =
    same_state s.formula s.max_steps tables _ history _
    (bound ∙ ap (λ (j : ℕ). with_table (λ (t : Table). fin.insert t own j) s.tables seat) e.number)
    pushed
    ∙ sym e.leaves

pub line_state : (s : State) (seat own joint : ℕ) (step : Addition) (tables : Tables) (history : List Entry) → joint ≡ next s → tables ≡ with_table (λ t. fin.insert t own joint) s.tables seat → history ≡ s.history ++ line_entry seat own step ∷ [] → ◌≡◌ {A = State} (record { formula = s.formula; max_steps = s.max_steps; tables = tables; history = history }) (after_entry s (line_entry seat own step))
line_state s seat own joint step tables history is bound pushed =
    same_state s.formula s.max_steps tables _ history _
    (bound ∙ ap (λ (j : ℕ). with_table (λ (t : Table). fin.insert t own j) s.tables seat) is)
    pushed

-- ---- a line that passed

-- its own number can be bound to the next, which nothing holds
pub line_can : (s : State) (seat : ℕ) (a step : Addition) → IsSound s → inside_line s seat a ≡ Ok step → CanBind s seat a.number × (has_holder s.tables step.number ≡ false)
line_can s seat a step sound passed =
    let e = entered s seat a step passed in
    (e.1.can, ap (has_holder s.tables) (step_kept s seat a step e.0 e.1).0 ∙ no_holder_at_next s sound)

-- what a book keeps once it is entered, and its state then
pub line_made : (s : State) (seat : ℕ) (a step : Addition) (clauses more : ClauseMap) (added : ℕ) (refuted first : Option ℕ) (tables : Tables) (history : List Entry) → IsKept s clauses added refuted → IsPivot a.lemma → inside_line s seat a ≡ Ok step → tables ≡ with_table (λ t. fin.insert t a.number step.number) s.tables seat → history ≡ s.history ++ line_entry seat a.number step ∷ [] → more ≡ fin.insert clauses step.number step.lemma.clause → first ≡ refuted_after refuted (length s.history) step.lemma.clause → IsKept (record { formula = s.formula; max_steps = s.max_steps; tables = tables; history = history }) more (added + 1) first × (◌≡◌ {A = State} (record { formula = s.formula; max_steps = s.max_steps; tables = tables; history = history }) (after_entry s (line_entry seat a.number step)))
line_made s seat a step clauses more added refuted first tables history k pivot passed bound pushed lives empty =
    let e = entered s seat a step passed in
    let kept = step_kept s seat a step e.0 e.1 in
    let legal = entered_legal s seat a step e.0 (IsSound-reached s k.reached) pivot e.1 in
    let is = line_state s seat a.number step.number step tables history kept.0 bound pushed in (
      subst (λ (o : Option ℕ). IsKept (record { formula = s.formula; max_steps = s.max_steps; tables = tables; history = history }) more (added + 1) o) (sym empty)
          (subst (λ (t : State). IsKept t more (added + 1) (refuted_after refuted (length s.history) step.lemma.clause)) (sym is)
          (IsKept-entering s false seat a.number step clauses more added refuted k legal (lives ∙ ap (λ (j : ℕ). fin.insert clauses j step.lemma.clause) kept.0))),
      is,
    )

-- the reply to it, and its entry
pub line_replied : (s : State) (seat : ℕ) (a step : Addition) → IsSound s → inside_line s seat a ≡ Ok step → inside_reply s seat a ≡ Ok (commit_told s)
line_replied s seat a step sound passed = let e = entered s seat a step passed in entered_reply s seat a step e.0 sound e.1

pub line_entered : (s : State) (seat : ℕ) (a step : Addition) → IsSound s → inside_line s seat a ≡ Ok step → inside_entry s seat a ≡ line_entry seat a.number step
line_entered s seat a step sound passed = let e = entered s seat a step passed in entered_entry s seat a step e.0 sound e.1
