-- What each entry of a legal history leaves of what a seat sees, and what a seat decides alone.
use Rattle.std.proofs.Common.{◌≡◌, ap, refl, sym, ◌∙◌, inl, inr, subst, ℕ, zero, suc, Bool, cond, true, false, arith}
use Rattle.std.specs.Prelude.{List, [], ◌∷◌, ◌++◌, length, nat_lt, nat_le, ◌==◌, ◌&&◌, Option, Some, None, option_map, option_and_then, if◌then◌else◌, Result, Ok, Err}
use Rattle.std.proofs.lemmas.List.{length-replicate}
use Rattle.std.proofs.lemmas.Bool.{eqb-true}
use Rattle.std.proofs.lemmas.Bool.Decides.{nat_tests}
use Rattle.std.specs.Ordering.{nat_cmp}
use Rattle.std.specs.Cmp.{nat_cmp_total, unsigned_tied}
use Rattle.std.specs.FinMap as fin
use Rattle.lj_clause.specs.LiteralSet.{LiteralSet, negations}
use Rattle.lj_clause.specs.ClauseMap.{ClauseMap, formula_map}
use Rattle.lj_clause.specs.Lemma.{LemmaValue}
use Rattle.lj_clause.specs.Propagation.{Propagation, Closed, Open, Stuck, hints_in, propagate_over}
use Rattle.lj_text.specs.declared.line.Addition.{Addition}
use Rattle.lj_text.specs.declared.step.Step.{Step}
use Rattle.lj_text.specs.declared.step.Step.TheVariants as steps
use Rattle.lj_hint.specs.declared.pair.Pair.{Pair}
use Rattle.lj_hint.specs.Hints.{named_hints, numbers}
use Rattle.lj_hint.specs.Case.{CaseValue, propagation_of}
use Rattle.lj_book.specs.declared.entry.Added.{Added}
use Rattle.lj_book.specs.declared.entry.Call.{Call}
use Rattle.lj_book.specs.declared.entry.Call.TheVariants as calls
use Rattle.lj_book.specs.declared.entry.Entry.{Entry}
use Rattle.lj_book.specs.declared.refusal.Refusal.{Refusal}
use Rattle.lj_book.specs.declared.refusal.Refusal.TheVariants.{HintNotUnit}
use Rattle.lj_book.specs.Tables.{Table, Tables, table_of, up_to, with_binding, without_keys}
use Rattle.lj_book.specs.Imports.{clause_lemma, part_addition, import_number}
use Rattle.lj_book.specs.State.{State, next, given_out, live, opening}
use Rattle.lj_book.specs.History.{tables_after, with_found, after_entry, after_entries, IsLegalCall, IsLegal, AreLegal, IsReached}
use Rattle.lj_book.specs.Calls.{take_reply, unless_refused, commit_told}
use Rattle.lj_book.specs.Inside.{joint_addition, propagation_refusal, or_full, inside_after, inside_reply}
use Rattle.lj_book.specs.Solo.{View, with_clause, holdings_of, view_of, solo_take}
use Rattle.lj_book.specs.Views.{with_found_holding, HoldsTheFormula, stuck_refusal, decided_by, decided_refusal}
use Rattle.lj_book.specs.inner.Views.{view_after_call}
use Rattle.lj_book.proofs.HistoryLaws.{IsSound-reached, with_addition, after_part, has_table, formula_has, past_the_end}
use Rattle.lj_book.proofs.SoloTables.{table_of-left, length-with_table, length-without_seat, get-holdings}
use Rattle.lj_book.proofs.SoloStates.{IsGiven, IsGiven-sound, some_clause, with_clause-is, live-given, view-same}
use Rattle.lj_book.proofs.Parts.{FindsEqual, FindsPart, finds}
use Rattle.lj_book.proofs.SoloMoves.{Moves, moves-legal, given_out-addition, get-inserted}
use Rattle.lj_book.proofs.SoloTakes.{take_alone, take_fits, IsFit}
use Rattle.lj_book.proofs.SoloSteps.{view_is, view_bound, view_dropped, held_named}

-- ---- an entry that leads from one reached state to another is legal

seats_found : (ts : Tables) (seat own : ℕ) (o : Option ℕ) → length (with_found ts seat own o) ≡ length ts
seats_found ts seat own None = refl
seats_found ts seat own (Some joint) = length-with_table (λ t. fin.insert t own joint) ts seat

pub seats_after : (s : State) (seat : ℕ) (call : Call) → length (tables_after s seat call) ≡ length s.tables
seats_after s seat (calls.Add own lemma) = length-with_table (λ t. fin.insert t own (next s)) s.tables seat
seats_after s seat (calls.Drop numbers) = length-with_table (without_keys numbers) s.tables seat
seats_after s seat (calls.Adopt own joint) = length-with_table (λ t. fin.insert t own joint) s.tables seat
seats_after s seat (calls.Import own clause) = seats_found s.tables seat own (import_number s clause)
seats_after s seat calls.Leave = length-without_seat s.tables seat

seats_after_all : (s : State) (es : List Entry) → length (after_entries s es).tables ≡ length s.tables
seats_after_all s [] = refl
seats_after_all s (e ∷ es) = seats_after_all (after_entry s e) es ∙ seats_after s e.seat e.call

seats_reached : (s : State) (r : IsReached s) → length s.tables ≡ r.seats
seats_reached s r =
    sym (ap (λ (t : State). length t.tables) r.leads)
    ∙ seats_after_all (opening s.formula r.seats s.max_steps) s.history
    ∙ length-replicate r.seats (Some (up_to (length s.formula.clauses)))

last_legal : (s : State) (es : List Entry) (e : Entry) → AreLegal s (es ++ e ∷ []) → IsLegal (after_entries s es) e
last_legal s [] e legal = legal.0
last_legal s (x ∷ es) e legal = last_legal (after_entry s x) es e legal.1

pub legal_entry : (s : State) (e : Entry) → IsReached s → IsReached (after_entry s e) → IsLegal s e
legal_entry s e r later =
    let same : later.seats ≡ r.seats = sym (seats_reached (after_entry s e) later) ∙ seats_after s e.seat e.call ∙ seats_reached s r in
    let legal : AreLegal (opening s.formula r.seats s.max_steps) (s.history ++ e ∷ []) =
    subst (λ (n : ℕ). AreLegal (opening s.formula n s.max_steps) (s.history ++ e ∷ [])) same later.legal in
    subst (λ (t : State). IsLegal t e) r.leads (last_legal (opening s.formula r.seats s.max_steps) s.history e legal)

-- ---- what a legal entry leaves

abbrev entry_of : ℕ → Call → Option Step → Entry
entry_of seat call step = record { seat = seat; call = call; step = step }

-- ---- what the seat of an entry sees behind it

-- what is seen behind the call, by the seat's table before it
seen_by : (s s' : State) (seat : ℕ) (call : Call) (t : Table) → table_of s.tables seat ≡ Some t → view_of s' seat ≡ view_after_call s call (holdings_of (given_out s) t) → view_of s' seat ≡ option_and_then (view_after_call s call) (view_of s seat)
seen_by s s' seat call t at is = is ∙ sym (ap (option_and_then (view_after_call s call)) (view_is s seat (Some t) at))

given_of : (s : State) (seat own : ℕ) (call : Call) (lemma : LemmaValue) (a : Addition) → a.number ≡ next s → a.lemma ≡ lemma → fin.get (given_out (with_addition s seat own call a)) (next s) ≡ Some lemma.clause
given_of s seat own call lemma a num same =
    ap (λ (p : ClauseMap). fin.get p (next s)) (given_out-addition s seat own call a num)
    ∙ get-inserted (given_out s) (next s) a.lemma.clause
    ∙ ap (λ (l : LemmaValue). Some l.clause) same

view_adopted : (s s' : State) (seat own joint : ℕ) (t : Table) (c : LiteralSet) → IsGiven s → Moves seat s s' → table_of s.tables seat ≡ Some t → s'.tables ≡ with_binding s.tables seat own joint → fin.get (live s) joint ≡ Some c → view_of s' seat ≡ Some (fin.insert (holdings_of (given_out s) t) own (record { joint = joint; clause = c }))
view_adopted s s' seat own joint t c given moves at is lives = view_bound s s' seat t own joint c given moves.more at is (moves.more.stays joint c (live-given s joint c lives))

own_view : (s : State) (seat : ℕ) (call : Call) (step : Option Step) (t : Table) → IsGiven s → table_of s.tables seat ≡ Some t → Moves seat s (after_entry s (entry_of seat call step)) → IsLegalCall s seat call step → view_of (after_entry s (entry_of seat call step)) seat ≡ view_after_call s call (holdings_of (given_out s) t)
own_view s seat (calls.Add own lemma) None t given at moves legal = absurd legal.addition
own_view s seat (calls.Add own lemma) (Some (steps.Delete numbers)) t given at moves legal = absurd legal.addition
own_view s seat (calls.Add own lemma) (Some (steps.Add a)) t given at moves legal =
    view_bound s (after_entry s (entry_of seat (calls.Add own lemma) (Some (steps.Add a)))) seat t own (next s) lemma.clause given moves.more at refl
    (given_of s seat own (calls.Add own lemma) lemma a legal.addition.0 legal.addition.1.0)
own_view s seat (calls.Drop numbers) step t given at moves legal =
    ap (λ (o : Option Step). view_of (after_entry s (entry_of seat (calls.Drop numbers) o)) seat) legal.deletes ∙ view_dropped s seat numbers t at
own_view s seat (calls.Adopt own joint) step t given at moves legal =
    let c = some_clause (fin.get (live s) joint) legal.lives in
    view_adopted s (after_entry s (entry_of seat (calls.Adopt own joint) step)) seat own joint t c.0 given moves at refl c.1
    ∙ ap (λ (p : Pair). Some (fin.insert (holdings_of (given_out s) t) own p)) (sym (with_clause-is (live s) joint c.0 c.1))
own_view s seat (calls.Import own clause) step t given at moves legal =
    elim (finds s clause legal.finds) [
      | inl equal ↦
          let f : FindsEqual s clause equal.0 = equal.1 in
          view_adopted s (after_entry s (entry_of seat (calls.Import own clause) step)) seat own equal.0 t clause given moves at (ap (with_found s.tables seat own) f.number) f.lives
          ∙ ap (λ (o : Option ℕ). Some (with_found_holding (holdings_of (given_out s) t) own o clause)) (sym f.number)
      | inr part ↦
          let f : FindsPart s clause part.0 = part.1 in
          view_bound s (after_entry s (entry_of seat (calls.Import own clause) step)) seat t own (next s) clause given moves.more at (ap (with_found s.tables seat own) f.number)
          (ap (λ (u : State). fin.get (given_out u) (next s)) (after_part s seat own part.0 clause step f legal.asked) ∙ given_of s seat own (calls.Import own clause) (clause_lemma clause) (part_addition (next s) clause part.0) refl refl)
          ∙ ap (λ (o : Option ℕ). Some (with_found_holding (holdings_of (given_out s) t) own o clause)) (sym f.number)
    ]
own_view s seat calls.Leave step t given at moves legal = view_is (after_entry s (entry_of seat calls.Leave step)) seat None (table_of-left s.tables seat)

is_here_legal : (s : State) (seat : ℕ) (call : Call) (step : Option Step) → IsLegalCall s seat call step → (t : Table) × (table_of s.tables seat ≡ Some t)
is_here_legal s seat (calls.Add own lemma) step legal = has_table s.tables seat legal.here
is_here_legal s seat (calls.Drop numbers) step legal = has_table s.tables seat legal.here
is_here_legal s seat (calls.Adopt own joint) step legal = has_table s.tables seat legal.here
is_here_legal s seat (calls.Import own clause) step legal = has_table s.tables seat legal.here
is_here_legal s seat calls.Leave step legal = has_table s.tables seat legal.here

apart : (a b : ℕ) → (a == b) ≡ false → a ≡ b → ⊥
apart a b e f = grind (arith, nat_tests)

pub view_follows : (s : State) (e : Entry) (seat : ℕ) → IsGiven s → IsLegal s e → (b : Bool) → (e.seat == seat) ≡ b → view_of (after_entry s e) seat ≡ (if b then option_and_then (view_after_call s e.call) (view_of s seat) else view_of s seat)
view_follows s e seat given legal true is =
    let t = is_here_legal s e.seat e.call e.step legal in
    subst (λ (k : ℕ). view_of (after_entry s e) k ≡ option_and_then (view_after_call s e.call) (view_of s k)) (eqb-true e.seat seat is)
    (seen_by s (after_entry s e) e.seat e.call t.0 t.1 (own_view s e.seat e.call e.step t.0 given t.1 (moves-legal s e.seat e.call e.step given legal) legal))
view_follows s e seat given legal false is =
    let moves = moves-legal s e.seat e.call e.step given legal in
    view-same s (after_entry s e) seat given moves.more (moves.tables seat (apart e.seat seat is))

-- ---- the opening

get-up_to : (n q : ℕ) → fin.get (up_to n) q ≡ cond (nat_lt 0 q && nat_le q n) (Some q) None
get-up_to zero q = fin.get-empty nat_cmp q ∙ ap (λ b. cond b (Some q) None) (none q)
  where
    none : (q : ℕ) → ◌≡◌ {A = Bool} false (nat_lt 0 q && nat_le q 0)
    none q = grind (arith, nat_tests)
get-up_to (suc n) q =
    fin.get-insert nat_cmp_total (up_to n) (suc n) (suc n) q
    ∙ ap (λ b. cond b (Some (suc n)) (fin.get (up_to n) q)) (unsigned_tied q (suc n))
    ∙ ap (cond (q == suc n) (Some (suc n))) (get-up_to n q)
    ∙ go (q == suc n) refl
  where
    last : (n q : ℕ) → q ≡ suc n → (nat_lt 0 q && nat_le q (suc n)) ≡ true
    last n q e = grind (arith, nat_tests)

    earlier : (n q : ℕ) → (q == suc n) ≡ false → (nat_lt 0 q && nat_le q n) ≡ (nat_lt 0 q && nat_le q (suc n))
    earlier n q e = grind (arith, nat_tests)

    go : (b : Bool) → (q == suc n) ≡ b → cond b (Some (suc n)) (cond (nat_lt 0 q && nat_le q n) (Some q) None) ≡ cond (nat_lt 0 q && nat_le q (suc n)) (Some q) None
    go true e =
        let same = eqb-true q (suc n) e in
        ap Some (sym same) ∙ sym (ap (λ b. cond b (Some q) None) (last n q same))
    go false e = ap (λ b. cond b (Some q) None) (earlier n q e)

pub holds_the_formula : HoldsTheFormula
holds_the_formula f own =
    get-holdings (formula_map f) (up_to (length f.clauses)) own
    ∙ ap (option_map (with_clause (formula_map f))) (get-up_to (length f.clauses) own)
    ∙ go (nat_lt 0 own && nat_le own (length f.clauses)) refl
  where
    go : (b : Bool) → (nat_lt 0 own && nat_le own (length f.clauses)) ≡ b → option_map (with_clause (formula_map f)) (cond b (Some own) None) ≡ option_map (λ (c : LiteralSet). record { joint = own; clause = c }) (fin.get (formula_map f) own)
    go true e =
        let c = some_clause (fin.get (formula_map f) own) (formula_has f own e) in
        ap Some (with_clause-is (formula_map f) own c.0 c.1) ∙ sym (ap (option_map (λ (c : LiteralSet). record { joint = own; clause = c })) c.1)
    go false e = sym (ap (option_map (λ (c : LiteralSet). record { joint = own; clause = c })) (past_the_end f own e))

-- ---- what a seat decides alone

pub takes_alone : (s : State) (seat : ℕ) (a : Addition) → IsReached s → take_reply s seat a ≡ solo_take (view_of s seat) seat a
takes_alone s seat a reached = take_alone s seat a (IsGiven-sound s (IsSound-reached s reached))

-- the hints of a case that fits, as the book and as the case itself name them
named_alone : (s : State) (seat own : ℕ) (pairs : List Pair) → IsGiven s → IsFit (view_of s seat) own pairs → hints_in (live s) (numbers pairs) ≡ named_hints pairs
named_alone s seat own pairs given fit = go (table_of s.tables seat) refl
  where
    go : (o : Option Table) → table_of s.tables seat ≡ o → hints_in (live s) (numbers pairs) ≡ named_hints pairs
    go None at = absurd (subst (λ (v : View). IsFit v own pairs) (view_is s seat None at) fit)
    go (Some t) at = let here = subst (λ (v : View). IsFit v own pairs) (view_is s seat (Some t) at) fit in held_named s seat t pairs given at here.1

-- what is left to an addition whose propagation ends so
abbrev ended : State → CaseValue → Propagation → Result Added Refusal
ended s c w = unless_refused (or_full s (propagation_refusal (live s) (joint_addition (next s) c) w)) (commit_told s)

stuck_alone : (s : State) (c : CaseValue) (e : Refusal) (w : Propagation) → stuck_refusal w ≡ Some e → ended s c w ≡ Err e
stuck_alone s c e (Closed used) is = absurd (cc)
stuck_alone s c e (Open a) is = absurd (cc)
stuck_alone s c e (Stuck place) is = let same : HintNotUnit place ≡ e = cc in ap Err same

pub decided : (s : State) (seat : ℕ) (a : Addition) (e : Refusal) → IsReached s → decided_refusal (view_of s seat) seat a ≡ Some e → inside_reply s seat a ≡ Err e
decided s seat a e reached is = go (solo_take (view_of s seat) seat a) refl is
  where
    given : IsGiven s
    given = IsGiven-sound s (IsSound-reached s reached)

    go : (r : Result CaseValue Refusal) → solo_take (view_of s seat) seat a ≡ r → decided_by r ≡ Some e → inside_reply s seat a ≡ Err e
    go (Err x) at is = let same : x ≡ e = cc in ap (inside_after s) (take_alone s seat a given ∙ at) ∙ ap Err same
    go (Ok c) at is =
        let fit = (take_fits seat (view_of s seat) a c at).fit in
        ap (inside_after s) (take_alone s seat a given ∙ at)
        ∙ ap (λ hs. ended s c (propagate_over (negations c.lemma.clause) hs)) (named_alone s seat c.own c.hints given fit)
        ∙ stuck_alone s c e (propagation_of c) is
