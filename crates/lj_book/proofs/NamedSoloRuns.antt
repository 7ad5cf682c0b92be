-- Runs of events of seats that name their variables.
use Rattle.std.proofs.Common.{◌≡◌, ap, refl, sym, ◌∙◌, subst, ℕ, Bool, true, false, arith}
use Rattle.std.specs.Prelude.{List, [], ◌∷◌, ◌++◌, map, length, take, Some, None, ◌==◌, ◌&&◌, if◌then◌else◌, slice_get, Result, Ok, Err}
use Rattle.std.proofs.lemmas.Bool.{false≢true, and_parts, eqb-true}
use Rattle.std.proofs.lemmas.Bool.Decides.{nat_tests}
use Rattle.lj_clause.specs.ClauseMap.{ClauseMap}
use Rattle.lj_hint.specs.declared.pair.Pair.{Pair}
use Rattle.lj_hint.specs.Case.{CaseValue}
use Rattle.lj_hint.specs.Receipt.{ReceiptValue}
use Rattle.lj_text.specs.declared.line.Addition.{Addition}
use Rattle.lj_book.specs.declared.refusal.Refusal.{Refusal}
use Rattle.lj_book.specs.declared.refusal.Refusal.TheVariants.{Stale}
use Rattle.lj_book.specs.declared.event.Event.{Event}
use Rattle.lj_book.specs.declared.event.Event.TheVariants as events
use Rattle.lj_book.specs.declared.event.Reply.{Reply}
use Rattle.lj_book.specs.declared.event.Reply.TheVariants as replies
use Rattle.lj_book.specs.declared.event.Pending.{Pending}
use Rattle.lj_book.specs.declared.event.Pending.TheVariants as pendings
use Rattle.lj_book.specs.Calls.{IsReply}
use Rattle.lj_book.specs.Events.{seat_of, is_of, events_of, taken_after, taken_after_all, is_in_turn, is_tidy_after}
use Rattle.lj_book.specs.Worlds.{case_taken, IsTestOf}
use Rattle.lj_book.specs.Solo.{View, Solo, solo_take, IsSoloCommitOf, IsSoloCommit, IsSoloAnswer, IsSoloRun}
use Rattle.lj_book.specs.Named.{NamedState}
use Rattle.lj_book.specs.NamedViews.{named_view}
use Rattle.lj_book.specs.NamedWorlds.{NamedWorld, named_nothing_pending, named_pending_at, with_named_pending, IsNamedAnswered, IsNamedRun}
use Rattle.lj_book.specs.NamedSolo.{own_clauses, counted_as, IsProperEvent, AreProper, NamedTidySeatsAreAlone, NamedFreshReceiptsAreNotStale}
use Rattle.lj_book.proofs.SoloTakes.{take_fits, AllHeld-take, IsFit}
use Rattle.lj_book.proofs.SoloWorlds.{tested_by}
use Rattle.lj_book.proofs.SoloSteps.{IsReadyOf, IsReady}
use Rattle.lj_book.proofs.NamedSoloViews.{Keeps, keeps_itself, keeps_on}
use Rattle.lj_book.proofs.NamedSoloLeaves.{named_solo_of, IsNamedSettled, named_nothing_at, settled_at_first, named_leaves}
use Rattle.lj_book.proofs.NamedSoloSteps.{drop_alone, leave_alone, adopt_alone, import_alone}
use Rattle.lj_book.proofs.NamedSoloAdditions.{take_own, test_own, commit_alone, inside_alone}

-- Where the seat's last event but tests is a take, what is pending is ready; a commit comes only then. Then the seat's event
-- is answered as its solo object decides.
answered_alone : (end : NamedState) (w w' : NamedWorld) (e : Event) (reply : Reply) (taken : Bool) → IsNamedSettled w → IsProperEvent e → is_in_turn taken e ≡ true → (taken ≡ true → IsReady (named_solo_of w (seat_of e))) → Keeps w'.state end → IsNamedAnswered w e reply w'
    → IsSoloAnswer (own_clauses end (seat_of e)) (seat_of e) (named_solo_of w (seat_of e)) e (counted_as reply) (named_solo_of w' (seat_of e))
answered_alone end w w' (events.Take seat a) reply taken settled proper turn ready keeps answered = take_own w w' seat a reply settled answered
answered_alone end w w' (events.Test seat) reply taken settled proper turn ready keeps answered = test_own w w' seat (named_pending_at w seat) reply refl answered
answered_alone end w w' (events.Commit seat) reply taken settled proper turn ready keeps answered =
    commit_alone end w w' seat (named_pending_at w seat) reply settled (settled.sound seat) (ready turn) keeps answered
answered_alone end w w' (events.Inside seat a) reply taken settled proper turn ready keeps answered = inside_alone end w w' seat a reply settled proper keeps answered
answered_alone end w w' (events.Drop seat numbers) reply taken settled proper turn ready keeps answered = drop_alone w w' seat numbers reply settled answered
answered_alone end w w' (events.Adopt seat own joint) reply taken settled proper turn ready keeps answered = adopt_alone end w w' seat own reply settled keeps joint answered
answered_alone end w w' (events.Import seat own clause) reply taken settled proper turn ready keeps answered = import_alone end w w' seat own reply settled keeps clause answered
answered_alone end w w' (events.Leave seat) reply taken settled proper turn ready keeps answered = leave_alone w w' seat reply settled answered

-- ---- what is ready stays so

fit_first : (v : View) (own n : ℕ) (pairs : List Pair) → IsFit v own pairs → IsFit v own (take n pairs)
fit_first None own n pairs fit = absurd fit
fit_first (Some h) own n pairs fit = (fit.0, AllHeld-take h n pairs fit.1)

ready_taken : (w w' : NamedWorld) (seat : ℕ) (a : Addition) (reply : Reply) → IsNamedSettled w → IsNamedAnswered w (events.Take seat a) reply w' → IsReady (named_solo_of w' seat)
ready_taken w w' seat a reply settled called =
    let own = take_own w w' seat a reply settled called in
    subst IsReady (sym own.leaves) (go own.answer own.answers)
  where
    go : (answer : Result CaseValue Refusal) → IsReply answer (solo_take (named_view w.state seat) seat a) → IsReadyOf (named_view w.state seat) (case_taken answer)
    go (Ok c) is = (take_fits seat (named_view w.state seat) a c is).fit
    go (Err e) is = tt

ready_tested : (w w' : NamedWorld) (seat : ℕ) (p : Pending) (reply : Reply) → named_pending_at w seat ≡ p → IsReadyOf (named_view w.state seat) p → IsTestOf p w (with_named_pending w seat) reply w' → IsReady (named_solo_of w' seat)
ready_tested w w' seat pendings.Nothing reply is ready answered =
    let own = test_own w w' seat pendings.Nothing reply is answered in
    subst IsReady (sym own.1) (subst (IsReadyOf (named_view w.state seat)) (sym is) ready)
ready_tested w w' seat (pendings.Receipt r) reply is ready answered =
    let own = test_own w w' seat (pendings.Receipt r) reply is answered in
    subst IsReady (sym own.1) (subst (IsReadyOf (named_view w.state seat)) (sym is) ready)
ready_tested w w' seat (pendings.Case c) reply is ready answered =
    let own = test_own w w' seat (pendings.Case c) reply is answered in
    subst IsReady (sym own.leaves)
    (tested_by c own.answer (IsReadyOf (named_view w.state seat)) tt (λ n. fit_first (named_view w.state seat) c.own n c.hints ready) ready own.propagate own.no_memory)

ready_after : (w w' : NamedWorld) (e : Event) (reply : Reply) (taken : Bool) → IsNamedSettled w → (taken ≡ true → IsReady (named_solo_of w (seat_of e))) → IsNamedAnswered w e reply w' → taken_after taken e ≡ true → IsReady (named_solo_of w' (seat_of e))
ready_after w w' (events.Take seat a) reply taken settled ready answered now = ready_taken w w' seat a reply settled answered
ready_after w w' (events.Test seat) reply taken settled ready answered now = ready_tested w w' seat (named_pending_at w seat) reply refl (ready now) answered
ready_after w w' (events.Commit seat) reply taken settled ready answered now = absurd (false≢true now)
ready_after w w' (events.Inside seat a) reply taken settled ready answered now = absurd (false≢true now)
ready_after w w' (events.Drop seat numbers) reply taken settled ready answered now = absurd (false≢true now)
ready_after w w' (events.Adopt seat own joint) reply taken settled ready answered now = absurd (false≢true now)
ready_after w w' (events.Import seat own clause) reply taken settled ready answered now = absurd (false≢true now)
ready_after w w' (events.Leave seat) reply taken settled ready answered now = absurd (false≢true now)

-- ---- runs

-- everything that was given out stays so
runs_keep : (w end : NamedWorld) (es : List Event) (rs : List Reply) → IsNamedSettled w → AreProper es → IsNamedRun w es rs end → Keeps w.state end.state
runs_keep w end [] [] settled proper run = subst (λ (v : NamedWorld). Keeps w.state v.state) (sym run) (keeps_itself w.state settled.reached)
runs_keep w end [] (r ∷ rs) settled proper run = absurd run
runs_keep w end (e ∷ es) [] settled proper run = absurd run
runs_keep w end (e ∷ es) (r ∷ rs) settled proper run =
    let left = named_leaves w run.0 e r settled proper.0 run.1.0 in
    keeps_on w.state run.0.state end.state left.keeps (runs_keep run.0 end es rs left.settled proper.1 run.1.1)

runs_settled : (w end : NamedWorld) (es : List Event) (rs : List Reply) → IsNamedSettled w → AreProper es → IsNamedRun w es rs end → IsNamedSettled end
runs_settled w end [] [] settled proper run = subst IsNamedSettled (sym run) settled
runs_settled w end [] (r ∷ rs) settled proper run = absurd run
runs_settled w end (e ∷ es) [] settled proper run = absurd run
runs_settled w end (e ∷ es) (r ∷ rs) settled proper run = runs_settled run.0 end es rs (named_leaves w run.0 e r settled proper.0 run.1.0).settled proper.1 run.1.1

apart : (a b : ℕ) → (a == b) ≡ false → a ≡ b → ⊥
apart a b e f = grind (arith, nat_tests)

-- what is ready after an event, of the seat or of another
ready_next : (w w' : NamedWorld) (e : Event) (r : Reply) (taken : Bool) (seat : ℕ) → IsNamedSettled w → IsProperEvent e → (taken ≡ true → IsReady (named_solo_of w seat)) → IsNamedAnswered w e r w' → (if is_of seat e then taken_after taken e else taken) ≡ true → IsReady (named_solo_of w' seat)
ready_next w w' e r taken seat settled proper ready answered = go (is_of seat e) refl
  where
    go : (b : Bool) → is_of seat e ≡ b → (if b then taken_after taken e else taken) ≡ true → IsReady (named_solo_of w' seat)
    go true is now =
        let same = eqb-true (seat_of e) seat is in
        subst (λ (k : ℕ). IsReady (named_solo_of w' k)) same (ready_after w w' e r taken settled (λ t. subst (λ (k : ℕ). IsReady (named_solo_of w k)) (sym same) (ready t)) answered now)
    go false is now = subst IsReady (sym ((named_leaves w w' e r settled proper answered).others seat (apart (seat_of e) seat is))) (ready now)

-- one event and what comes after it, where the rest is the seat's own
event_alone : (end : NamedState) (seat : ℕ) (taken : Bool) (w after : NamedWorld) (last : Solo) (e : Event) (r : Reply) (es : List Event) (rest : List (Event × Reply)) → IsNamedSettled w → IsProperEvent e → (taken ≡ true → IsReady (named_solo_of w seat)) → IsNamedAnswered w e r after → Keeps after.state end
    → ((now : Bool) → (now ≡ true → IsReady (named_solo_of after seat)) → is_tidy_after now seat es ≡ true → IsSoloRun (own_clauses end seat) seat (named_solo_of after seat) rest last)
    → (b : Bool) → is_of seat e ≡ b → (if b then is_in_turn taken e && is_tidy_after (taken_after taken e) seat es else is_tidy_after taken seat es) ≡ true
    → IsSoloRun (own_clauses end seat) seat (named_solo_of w seat) (if b then (e, counted_as r) ∷ rest else rest) last
event_alone end seat taken w after last e r es rest settled proper ready answered keeps onward true is tidy =
    let parts = and_parts (is_in_turn taken e) (is_tidy_after (taken_after taken e) seat es) tidy in
    let same : seat_of e ≡ seat = eqb-true (seat_of e) seat is in (
      named_solo_of after seat,
      (
        subst (λ (k : ℕ). IsSoloAnswer (own_clauses end k) k (named_solo_of w k) e (counted_as r) (named_solo_of after k)) same
            (answered_alone end w after e r taken settled proper parts.0 (λ t. subst (λ (k : ℕ). IsReady (named_solo_of w k)) (sym same) (ready t)) keeps answered),
        onward (taken_after taken e) (λ now. ready_next w after e r taken seat settled proper ready answered (ap (λ (b : Bool). if b then taken_after taken e else taken) is ∙ now)) parts.1,
      ),
    )
event_alone end seat taken w after last e r es rest settled proper ready answered keeps onward false is tidy =
    subst (λ (o : Solo). IsSoloRun (own_clauses end seat) seat o rest last) ((named_leaves w after e r settled proper answered).others seat (apart (seat_of e) seat is))
    (onward taken (λ now. ready_next w after e r taken seat settled proper ready answered (ap (λ (b : Bool). if b then taken_after taken e else taken) is ∙ now)) tidy)

-- a tidy run is the seat's own
runs_alone : (seat : ℕ) (taken : Bool) (w end : NamedWorld) (es : List Event) (rs : List Reply) → IsNamedSettled w → AreProper es → (taken ≡ true → IsReady (named_solo_of w seat)) → is_tidy_after taken seat es ≡ true → (last : NamedState) → Keeps end.state last → IsNamedRun w es rs end
    → IsSoloRun (own_clauses last seat) seat (named_solo_of w seat) (events_of seat es (map counted_as rs)) (named_solo_of end seat)
runs_alone seat taken w end [] [] settled proper ready tidy last keeps run = ap (λ (v : NamedWorld). named_solo_of v seat) run
runs_alone seat taken w end [] (r ∷ rs) settled proper ready tidy last keeps run = absurd run
runs_alone seat taken w end (e ∷ es) [] settled proper ready tidy last keeps run = absurd run
runs_alone seat taken w end (e ∷ es) (r ∷ rs) settled proper ready tidy last keeps run =
    let left = named_leaves w run.0 e r settled proper.0 run.1.0 in
    event_alone last seat taken w run.0 (named_solo_of end seat) e r es (events_of seat es (map counted_as rs)) settled proper.0 ready run.1.0
    (keeps_on run.0.state end.state last (runs_keep run.0 end es rs left.settled proper.1 run.1.1) keeps)
    (λ now later rest. runs_alone seat now run.0 end es rs left.settled proper.1 later rest last keeps run.1.1)
    (is_of seat e) refl tidy

nothing_ready : (s : NamedState) (seat : ℕ) → IsReady (named_solo_of (named_nothing_pending s) seat)
nothing_ready s seat = subst (IsReadyOf (named_view s seat)) (sym (named_nothing_at s seat)) tt

-- the theorem
pub named_alone : NamedTidySeatsAreAlone
named_alone s end es rs pending seat is reached proper run tidy =
    let last : NamedWorld = record { state = end; pending = pending } in
    let settled = settled_at_first s is reached in (
      named_pending_at last seat,
      subst (λ (p : Pending). IsSoloRun (own_clauses end seat) seat (record { view = named_view s seat; pending = p }) (events_of seat es (map counted_as rs)) (named_solo_of last seat)) (named_nothing_at s seat)
          (runs_alone seat false (named_nothing_pending s) last es rs settled proper (λ t. nothing_ready s seat) tidy end (keeps_itself end (runs_settled (named_nothing_pending s) last es rs settled proper run).reached) run),
    )

-- ---- no receipt is stale right after its test

not_stale_of : (clauses : ClauseMap) (v : View) (o : Solo) (r : ReceiptValue) (joint : ℕ) (after : Solo) → IsSoloCommitOf clauses v o r (replies.Refused (Stale joint)) after → ⊥
not_stale_of clauses None o r joint after h = h
not_stale_of clauses (Some held) o r joint after h = h.1

not_stale : (clauses : ClauseMap) (p : Pending) (o : Solo) (joint : ℕ) (after : Solo) → IsSoloCommit clauses p o (replies.Refused (Stale joint)) after → ⊥
not_stale clauses pendings.Nothing o joint after h = let e = h.0 in cc
not_stale clauses (pendings.Case c) o joint after h = let e = h.0 in cc
not_stale clauses (pendings.Receipt r) o joint after h = not_stale_of clauses o.view (record o { pending = pendings.Nothing }) r joint after h

first_not_stale : (w after : NamedWorld) (r : Reply) (seat joint : ℕ) → IsNamedSettled w → IsReady (named_solo_of w seat) → IsNamedAnswered w (events.Commit seat) r after → r ≡ replies.Refused (Stale joint) → ⊥
first_not_stale w after r seat joint settled ready answered is =
    let clauses : ClauseMap = own_clauses after.state seat in
    let left = named_leaves w after (events.Commit seat) r settled tt answered in
    not_stale clauses (named_pending_at w seat) (named_solo_of w seat) joint (named_solo_of after seat)
    (subst (λ (q : Reply). IsSoloCommit clauses (named_pending_at w seat) (named_solo_of w seat) (counted_as q) (named_solo_of after seat)) is
    (commit_alone after.state w after seat (named_pending_at w seat) r settled (settled.sound seat) ready (keeps_itself after.state left.settled.reached) answered))

runs_fresh : (seat joint : ℕ) (taken : Bool) (w end : NamedWorld) (before after : List Event) (rs : List Reply) → IsNamedSettled w → AreProper (before ++ events.Commit seat ∷ after) → (taken ≡ true → IsReady (named_solo_of w seat))
    → IsNamedRun w (before ++ events.Commit seat ∷ after) rs end → taken_after_all taken seat before ≡ true → slice_get rs (length before) ≡ Some (replies.Refused (Stale joint)) → ⊥
runs_fresh seat joint taken w end [] after [] settled proper ready run now is = absurd run
runs_fresh seat joint taken w end [] after (r ∷ rs) settled proper ready run now is = first_not_stale w run.0 r seat joint settled (ready now) run.1.0 cc
runs_fresh seat joint taken w end (e ∷ before) after [] settled proper ready run now is = absurd run
runs_fresh seat joint taken w end (e ∷ before) after (r ∷ rs) settled proper ready run now is =
    runs_fresh seat joint (if is_of seat e then taken_after taken e else taken) run.0 end before after rs (named_leaves w run.0 e r settled proper.0 run.1.0).settled
    proper.1 (ready_next w run.0 e r taken seat settled proper.0 ready run.1.0) run.1.1 now is

pub named_fresh : NamedFreshReceiptsAreNotStale
named_fresh s end before after rs seat joint is reached proper run taken stale =
    runs_fresh seat joint false (named_nothing_pending s) end before after rs (settled_at_first s is reached) proper (λ t. nothing_ready s seat) run taken stale

-- one event more
pub proper-push : (es : List Event) (e : Event) → AreProper es → IsProperEvent e → AreProper (es ++ e ∷ [])
proper-push [] e all proper = (proper, tt)
proper-push (d ∷ es) e all proper = (all.0, proper-push es e all.1 proper)
