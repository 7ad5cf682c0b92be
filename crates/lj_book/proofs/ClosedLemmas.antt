-- Additions whose first list closes by what their seat sees.
use Rattle.std.proofs.Common.{◌≡◌, ◌≤◌, ◌<◌, ap, refl, sym, ◌∙◌, ℕ, zero, suc, List, [], ◌∷◌, take, length}
use Rattle.std.specs.Prelude.{Option, Some, None, option_map, option_and_then, Result, Ok, Err, IfErr}
use Rattle.std.specs.FinMap as fin
use Rattle.lj_clause.specs.LiteralSet.{negations}
use Rattle.lj_clause.specs.ClauseMap.{ClauseMap}
use Rattle.lj_clause.specs.Propagation.{Propagation, Closed, propagate_over, propagate}
use Rattle.lj_clause.proofs.PropagationLaws.{used-first}
use Rattle.lj_text.specs.declared.line.Addition.{Addition}
use Rattle.lj_text.specs.Steps.{first_propagation, recorded_after}
use Rattle.lj_hint.specs.declared.pair.Pair.{Pair}
use Rattle.lj_hint.specs.Hints.{numbers}
use Rattle.lj_hint.specs.Case.{CaseValue, propagation_of}
use Rattle.lj_book.specs.declared.refusal.Refusal.{Refusal}
use Rattle.lj_book.specs.declared.refusal.Refusal.TheVariants as refusals
use Rattle.lj_book.specs.Tables.{Table, table_of, joint_of}
use Rattle.lj_book.specs.State.{State, addition_count, given_out, next, live}
use Rattle.lj_book.specs.Calls.{IsRefusal, IsReplyBy, unless_refused, repeated_after, pair_in, pairs_of, group_pairs_of, case_with, free_refusal, take_reply}
use Rattle.lj_book.specs.Inside.{propagation_refusal}
use Rattle.lj_book.specs.Solo.{holdings_of, solo_take, view_of}
use Rattle.lj_book.specs.Views.{IsClosedAlone}
use Rattle.lj_book.specs.inner.Views.{IsFullOrNoMemory}
use Rattle.lj_book.specs.inner.JointLines.{LineParts, if_bound, with_joint, joints_in, joint_groups_in, parts_with, joint_parts, addition_of_parts, tested_line, tested_parts, inside_line}
use Rattle.lj_book.proofs.HistoryLaws.{IsSound}
use Rattle.lj_book.proofs.BindingLaws.{can_bind}
use Rattle.lj_book.proofs.InsideLaws.{numbers_of, groups_joint, joint_groups, taken_free, taken_refused, parts_here, parts_tested, parts_of, refusal_passes, parts_full, parts_passed}
use Rattle.lj_book.proofs.LineLaws.{cut}
use Rattle.lj_book.proofs.SoloStates.{IsGiven, IsGiven-sound}
use Rattle.lj_book.proofs.SoloTakes.{take_alone, IsTakenFrom, take_fits}
use Rattle.lj_book.proofs.SoloSteps.{held_named}

-- What is known of an addition that closes after so many of its hints: its own number is free, these hints have these joint
-- numbers, and its test passes with them alone.
pub record IsClosedHere (s : State) (seat : ℕ) (a : Addition) (read : ℕ) : Type 0 where
  pub free : free_refusal s seat a.number ≡ None
  pub hints : List ℕ
  pub held : joints_in (joint_of s.tables seat) (take read a.hints) ≡ Ok hints
  pub tested : parts_tested (live s) s seat a ≡ Ok (addition_of_parts (next s) a.lemma (hints, []))

-- the first joint numbers are those of the first own numbers
joints_first : (joint : ℕ → Option ℕ) (n : ℕ) (owns js : List ℕ) → joints_in joint owns ≡ Ok js → joints_in joint (take n owns) ≡ Ok (take n js)
joints_first joint zero owns js h = refl
joints_first joint (suc n) [] js h = let same : [] ≡ js = cc in ap (λ (ks : List ℕ). Ok (take (suc n) ks)) same
joints_first joint (suc n) (own ∷ owns) js h = go (λ ks f. joints_first joint n owns ks f) (joint own) refl (joints_in joint owns) refl h
  where
    go : ((ks : List ℕ) → joints_in joint owns ≡ Ok ks → joints_in joint (take n owns) ≡ Ok (take n ks)) → (o : Option ℕ) → joint own ≡ o → (r : Result (List ℕ) Refusal) → joints_in joint owns ≡ r → if_bound own o (λ j. with_joint j r) ≡ Ok js → if_bound own (joint own) (λ j. with_joint j (joints_in joint (take n owns))) ≡ Ok (take (suc n) js)
    go rest None e r f h = absurd (let no : ⊥ = cc in no)
    go rest (Some j) e (Err x) f h = absurd (let no : ⊥ = cc in no)
    go rest (Some j) e (Ok ks) f h =
        let same : j ∷ ks ≡ js = cc in
        ap (λ (o : Option ℕ). if_bound own o (λ i. with_joint i (joints_in joint (take n owns)))) e
        ∙ ap (with_joint j) (rest ks f)
        ∙ ap (λ (ls : List ℕ). Ok (take (suc n) ls)) same

-- a line whose first list closes the propagation is recorded with the hints that were read
closed_test : (p : ClauseMap) (b : Addition) (used : List ℕ) (read : ℕ) → first_propagation p b ≡ Closed used → length used ≡ read → tested_line p b ≡ Ok (cut b read)
closed_test p b used read closed count =
    let first : take (length used) b.hints ≡ used = used-first p (negations b.lemma.clause) b.hints used closed in
    ap (λ (w : Propagation). unless_refused (propagation_refusal p b w) (recorded_after p b w)) closed
    ∙ ap (λ (ns : List ℕ). Ok (record b { hints = ns; groups = [] })) (sym first ∙ ap (λ (k : ℕ). take k b.hints) count)

-- a number whose take is answered is free
free_taken : (s : State) (seat : ℕ) (a : Addition) (c : CaseValue) → take_reply s seat a ≡ Ok c → free_refusal s seat a.number ≡ None
free_taken s seat a c taken = go (free_refusal s seat a.number) refl
  where
    go : (o : Option Refusal) → free_refusal s seat a.number ≡ o → o ≡ None
    go None e = refl
    go (Some x) e = let no = taken_refused s seat a x e in absurd (let bad : ⊥ = cc in bad)

-- the hints and the groups of a case, in joint numbers
case_joints : (seat : ℕ) (a : Addition) (c : CaseValue) (rep : Option ℕ) (hs : Result (List Pair) Refusal) (gs : Result (List (Pair × List Pair)) Refusal) → case_with seat a rep hs gs ≡ Ok c → parts_with rep (numbers_of hs) (joint_groups gs) ≡ Ok (numbers c.hints, groups_joint c.groups)
case_joints seat a c rep (Err e) gs h = absurd (let no : ⊥ = cc in no)
case_joints seat a c rep (Ok hs) (Err e) h = absurd (let no : ⊥ = cc in no)
case_joints seat a c (Some own) (Ok hs) (Ok gs) h = absurd (let no : ⊥ = cc in no)
case_joints seat a c None (Ok hs) (Ok gs) h =
    let same : ◌≡◌ {A = CaseValue} (record { seat = seat; own = a.number; lemma = a.lemma; hints = hs; groups = gs }) c = cc in
    ap (λ (d : CaseValue). Ok (numbers d.hints, groups_joint d.groups)) same

-- propagation over the live clauses is that of the case
pub propagated_here : (s : State) (seat : ℕ) (a : Addition) (c : CaseValue) → IsGiven s → solo_take (view_of s seat) seat a ≡ Ok c → propagate (live s) (negations a.lemma.clause) (numbers c.hints) ≡ propagation_of c
propagated_here s seat a c given taken = go (table_of s.tables seat) refl
  where
    at_view : (o : Option Table) → table_of s.tables seat ≡ o → solo_take (option_map (holdings_of (given_out s)) o) seat a ≡ Ok c
    at_view o e = ap (λ (t : Option Table). solo_take (option_map (holdings_of (given_out s)) t) seat a) (sym e) ∙ taken

    go : (o : Option Table) → table_of s.tables seat ≡ o → propagate (live s) (negations a.lemma.clause) (numbers c.hints) ≡ propagation_of c
    go None e = let no = at_view None e in absurd (let bad : ⊥ = cc in bad)
    go (Some t) e =
        let from : IsTakenFrom seat a (Some (holdings_of (given_out s) t)) c = take_fits seat (Some (holdings_of (given_out s) t)) a c (at_view (Some t) e) in
        (λ i. propagate_over (negations (sym from.lemma i).clause) (held_named s seat t c.hints given e from.fit.1 i))

pub closed_here : (s : State) (seat : ℕ) (a : Addition) (read : ℕ) → IsSound s → IsClosedAlone (view_of s seat) seat a read → IsClosedHere s seat a read
closed_here s seat a read sound alone =
    let given = IsGiven-sound s sound in
    let c = alone.case in
    let joint = joint_of s.tables seat in
    let taken : take_reply s seat a ≡ Ok c = take_alone s seat a given ∙ alone.taken in
    let free = free_taken s seat a c taken in
    let made = sym (taken_free s seat a (can_bind s seat a.number free)) ∙ taken in
    let parts : LineParts = (numbers c.hints, groups_joint c.groups) in
    let are : joint_parts joint a ≡ Ok parts =
    sym (parts_here s seat a sound)
    ∙ case_joints seat a c (repeated_after joint [] a.groups) (pairs_of (pair_in s.tables (live s) seat) a.hints) (group_pairs_of (pair_in s.tables (live s) seat) a.groups) made in
    let found = parts_of (repeated_after joint [] a.groups) (joints_in joint a.hints) (joint_groups_in joint a.groups) parts are in
    let closed : first_propagation (live s) (addition_of_parts (next s) a.lemma parts) ≡ Closed alone.used = propagated_here s seat a c given alone.taken ∙ alone.closed in
    record {
      free = free;
      hints = take read (numbers c.hints);
      held = joints_first joint read a.hints (numbers c.hints) found.1;
      tested = ap (tested_parts (live s) (next s) a.lemma) are ∙ closed_test (live s) (addition_of_parts (next s) a.lemma parts) alone.used read closed alone.read_is;
    }

-- where the call answers a list, the only refusal is for want of memory
pub short_alone : {A : Type 0} (e : Refusal) (r : Result A Refusal) (x : A) → r ≡ Ok x → IsRefusal e r → IsFullOrNoMemory e
short_alone (refusals.NoMemory m) r x is h = tt
short_alone refusals.Full r x is h = tt
short_alone refusals.SeatGone r x is h = absurd (let no : ⊥ = cc in no)
short_alone refusals.NumberTaken r x is h = absurd (let no : ⊥ = cc in no)
short_alone (refusals.UnknownNumber n) r x is h = absurd (let no : ⊥ = cc in no)
short_alone (refusals.GroupRepeated n) r x is h = absurd (let no : ⊥ = cc in no)
short_alone (refusals.HintNotUnit n) r x is h = absurd (let no : ⊥ = cc in no)
short_alone refusals.EmptyOpen r x is h = absurd (let no : ⊥ = cc in no)
short_alone (refusals.MissingGroup n) r x is h = absurd (let no : ⊥ = cc in no)
short_alone (refusals.GroupStuck n place) r x is h = absurd (let no : ⊥ = cc in no)
short_alone (refusals.GroupOpen n) r x is h = absurd (let no : ⊥ = cc in no)
short_alone (refusals.Stale n) r x is h = absurd (let no : ⊥ = cc in no)
short_alone refusals.PrivateVariable r x is h = absurd (let no : ⊥ = cc in no)
short_alone refusals.NoSuchClause r x is h = absurd (let no : ⊥ = cc in no)
short_alone refusals.NoVariableLeft r x is h = absurd (let no : ⊥ = cc in no)

-- ---- what the code finds

pub closed_full : (s : State) (seat : ℕ) (a : Addition) (read : ℕ) → IsClosedHere s seat a read → s.max_steps ≤ addition_count s.history → inside_line s seat a ≡ Err refusals.Full
closed_full s seat a read here le = parts_full (live s) s seat a (addition_of_parts (next s) a.lemma (here.hints, [])) refl here.free here.tested le

held_by : (s : State) (seat : ℕ) (t : Table) (owns : List ℕ) → table_of s.tables seat ≡ Some t → joints_in (joint_of s.tables seat) owns ≡ joints_in (fin.get t) owns
held_by s seat t owns at = ap (λ (o : Option Table). joints_in (λ own. option_and_then (λ (u : Table). fin.get u own) o) owns) at

-- the hints that were put into a list are those of the line, or memory is short
pub closed_reply : (s : State) (seat : ℕ) (a : Addition) (read : ℕ) (t : Table) (hints : List ℕ) (r : Result (Unit {0}) Refusal) → IsClosedHere s seat a read → addition_count s.history < s.max_steps → table_of s.tables seat ≡ Some t → IsReplyBy (λ (_ : Unit {0}). hints) r (joints_in (fin.get t) (take read a.hints)) → IsReplyBy (λ (_ : Unit {0}). addition_of_parts (next s) a.lemma (hints, [])) r (inside_line s seat a)
closed_reply s seat a read t hints (Ok u) here capacity at put =
    let are : ◌≡◌ {A = Result (List ℕ) Refusal} (Ok here.hints) (Ok hints) = sym here.held ∙ held_by s seat t (take read a.hints) at ∙ put in
    let same : here.hints ≡ hints = cc in
    parts_passed (live s) s seat a (addition_of_parts (next s) a.lemma (here.hints, [])) refl here.free here.tested capacity
    ∙ ap (λ (js : List ℕ). Ok (addition_of_parts (next s) a.lemma (js, []))) same
closed_reply s seat a read t hints (Err e) here capacity at put =
    refusal_passes e (joints_in (fin.get t) (take read a.hints)) (inside_line s seat a)
    (λ x one. let is : ◌≡◌ {A = Result (List ℕ) Refusal} (Ok here.hints) (Err x) = sym here.held ∙ held_by s seat t (take read a.hints) at ∙ one in absurd (let no : ⊥ = cc in no))
    put

pub closed_short : (s : State) (seat : ℕ) (a : Addition) (read : ℕ) (t : Table) (hints : List ℕ) (r : Result (Unit {0}) Refusal) → IsClosedHere s seat a read → table_of s.tables seat ≡ Some t → IsReplyBy (λ (_ : Unit {0}). hints) r (joints_in (fin.get t) (take read a.hints)) → IfErr r IsFullOrNoMemory
closed_short s seat a read t hints (Ok u) here at put = tt
closed_short s seat a read t hints (Err e) here at put = short_alone e (joints_in (fin.get t) (take read a.hints)) here.hints (sym (held_by s seat t (take read a.hints) at) ∙ here.held) put
