-- What a seat decides by what it sees.
use Rattle.std.proofs.Common.{◌≡◌, ap, refl, sym, ◌∙◌, ℕ, zero, suc, ◌+◌, ◌-◌, ◌≤◌, Bool, cond, true, false, arith}
use Rattle.std.specs.Prelude.{ℤ, List, [], ◌∷◌, map, length, drop, slice_get, Option, Some, None, option_map, is_some, if◌then◌else◌, Result, Ok, Err, IsSome}
use Rattle.std.proofs.lemmas.Bool.{false≢true}
use Rattle.std.specs.Ordering.{nat_cmp, eq_by_cmp}
use Rattle.std.specs.Cmp.{nat_cmp_total}
use Rattle.std.specs.FinMap as fin
use Rattle.std.specs.FinMap.Entries.{find}
use Rattle.lj_clause.specs.LiteralSet.{LiteralSet, negations, with_literal}
use Rattle.lj_clause.specs.ClauseMap.{ClauseMap}
use Rattle.lj_clause.specs.Rat.{HintGroup}
use Rattle.lj_clause.specs.Propagation as propagations
use Rattle.lj_text.specs.declared.line.Addition.{Addition}
use Rattle.lj_hint.specs.declared.pair.Pair.{Pair}
use Rattle.lj_hint.specs.Hints.{named_hints}
use Rattle.lj_hint.specs.Case.{CaseValue, case_of, propagation_of}
use Rattle.lj_book.specs.declared.refusal.Refusal.{Refusal}
use Rattle.lj_book.specs.declared.refusal.Refusal.TheVariants.{NumberTaken, UnknownNumber, HintNotUnit}
use Rattle.lj_book.specs.Calls.{pairs_of, if_known, with_pair, group_pairs_of, case_with, repeated_after}
use Rattle.lj_book.specs.Solo.{View, Holdings, solo_case, solo_take}
use Rattle.lj_hint.specs.declared.propagate.Ending.{Ending}
use Rattle.lj_hint.specs.declared.propagate.Ending.TheVariants as endings
use Rattle.lj_hint.specs.Ending.{ending_of}
use Rattle.lj_hint.specs.Laws.{PropagationsGoByClauses}
use Rattle.lj_book.specs.Views.{IsClosedAlone, decided_by, decided_refusal, stuck_refusal}
use Rattle.lj_share.specs.inner.Seats.{clause_seen, clauses_seen}
use Rattle.lj_share.specs.inner.Ahead.{AreSeen, IsClosedBy, IsPropagatedTo, first_unseen}
use Rattle.lj_share.proofs.Confirming.{some_same}

none_some : {X P : Type 0} (x : X) → None ≡ Some x → P
none_some x e = absurd (false≢true (ap is_some e))

-- ---- the clauses that a seat sees

find_mapped : {A B : Type 0} (g : A → B) (q : ℕ) (es : List (ℕ × A)) → find nat_cmp q (map (λ e. (e.0, g e.1)) es) ≡ option_map g (find nat_cmp q es)
find_mapped g q [] = refl
find_mapped {A} {B} g q (e ∷ es) = ap (cond (eq_by_cmp nat_cmp q e.0) (Some (g e.1))) (find_mapped g q es) ∙ by (eq_by_cmp nat_cmp q e.0)
  where
    by : (b : Bool) → cond b (Some (g e.1)) (option_map g (find nat_cmp q es)) ≡ option_map g (cond b (Some e.1) (find nat_cmp q es))
    by true = refl
    by false = refl

pub get-seen : (view : View) (own : ℕ) → fin.get (clauses_seen view) own ≡ clause_seen view own
get-seen None own = fin.get-empty nat_cmp own
get-seen (Some h) own =
    fin.get-from_entries nat_cmp_total (map (λ (e : ℕ × Pair). (e.0, e.1.clause)) (fin.entries h)) own
    ∙ find_mapped (λ (p : Pair). p.clause) own (fin.entries h)
    ∙ ap (option_map (λ (p : Pair). p.clause)) (sym (fin.get-entries h own))

is_some-map : {X Y : Type 0} (f : X → Y) (o : Option X) → is_some (option_map f o) ≡ is_some o
is_some-map f None = refl
is_some-map f (Some x) = refl

-- an own number is bound where its clause is seen
contains-seen : (h : Holdings) (own : ℕ) → fin.contains_key h own ≡ is_some (clause_seen (Some h) own)
contains-seen h own = sym (is_some-map (λ (p : Pair). p.clause) (fin.get h own))

-- whoever is there sees its own clauses
pub seen_itself : (view : View) → IsSome view → AreSeen (clauses_seen view) view
seen_itself view there = (there, get-seen view)

-- whether there is a clause, where one was looked for
pub whether_bound : (m : ClauseMap) (own : ℕ) (clause : Option LiteralSet) (found b : Bool) → clause ≡ fin.get m own → found ≡ is_some clause → found ≡ b → is_some (fin.get m own) ≡ b
whether_bound m own clause found b is looked known = ap is_some (sym is) ∙ sym looked ∙ known

-- the same of the seat that sees the clauses
seen_bound : (m : ClauseMap) (view : View) (own : ℕ) (b : Bool) → AreSeen m view → is_some (fin.get m own) ≡ b → is_some (clause_seen view own) ≡ b
seen_bound m view own b seen is = ap is_some (sym (seen.1 own)) ∙ is

-- ---- the own number

taken_decided : (view : View) (seat : ℕ) (a : Addition) → is_some (clause_seen view a.number) ≡ true → decided_refusal view seat a ≡ Some NumberTaken
taken_decided None seat a is = absurd (false≢true is)
taken_decided (Some h) seat a is = ap (λ (b : Bool). decided_by (if b then Err NumberTaken else solo_case h seat a)) (contains-seen h a.number ∙ is)

pub taken_by : (m : ClauseMap) (a : Addition) → is_some (fin.get m a.number) ≡ true → (view : View) (seat : ℕ) → AreSeen m view → decided_refusal view seat a ≡ Some NumberTaken
taken_by m a is view seat seen = taken_decided view seat a (seen_bound m view a.number true seen is)

-- ---- the hints

-- the first of these own numbers that a seat doesn't see a clause of
abbrev first_not_seen : View → List ℕ → Option ℕ
first_not_seen view [] = None
first_not_seen view (own ∷ owns) = if is_some (clause_seen view own) then first_not_seen view owns else Some own

first_alike : (m : ClauseMap) (view : View) (owns : List ℕ) → AreSeen m view → first_not_seen view owns ≡ first_unseen m owns
first_alike m view [] seen = refl
first_alike m view (own ∷ owns) seen =
    ap (λ (o : Option LiteralSet). if is_some o then first_not_seen view owns else Some own) (sym (seen.1 own))
    ∙ ap (λ (o : Option ℕ). if is_some (fin.get m own) then o else Some own) (first_alike m view owns seen)

unseen_pairs : (h : Holdings) (owns : List ℕ) (own : ℕ) → first_not_seen (Some h) owns ≡ Some own → pairs_of (fin.get h) owns ≡ Err (UnknownNumber own)
unseen_pairs h [] own is = none_some own is
unseen_pairs h (n ∷ ns) own is = go (unseen_pairs h ns own) (fin.get h n) is
  where
    go : (first_not_seen (Some h) ns ≡ Some own → pairs_of (fin.get h) ns ≡ Err (UnknownNumber own)) → (o : Option Pair) → (if is_some (option_map (λ (p : Pair). p.clause) o) then first_not_seen (Some h) ns else Some n) ≡ Some own → if_known n o (λ p. with_pair p (pairs_of (fin.get h) ns)) ≡ Err (UnknownNumber own)
    go later None e = ap (λ (m : ℕ). Err (UnknownNumber m)) (some_same n own e)
    go later (Some p) e = ap (with_pair p) (later e)

-- the pairs of the hints, with the clauses that are seen
abbrev ArePairs : Holdings → List ℕ → Result (List Pair) Refusal → List (Option LiteralSet) → Type 0
ArePairs h owns found clauses = (pairs : List Pair) × ((found ≡ Ok pairs) × (map (λ (p : Pair). Some p.clause) pairs ≡ clauses))

seen_pairs : (h : Holdings) (owns : List ℕ) → first_not_seen (Some h) owns ≡ None → ArePairs h owns (pairs_of (fin.get h) owns) (map (clause_seen (Some h)) owns)
seen_pairs h [] is = ([], (refl, refl))
seen_pairs h (n ∷ ns) is = go (seen_pairs h ns) (fin.get h n) is
  where
    go : (first_not_seen (Some h) ns ≡ None → ArePairs h ns (pairs_of (fin.get h) ns) (map (clause_seen (Some h)) ns)) → (o : Option Pair) → (if is_some (option_map (λ (p : Pair). p.clause) o) then first_not_seen (Some h) ns else Some n) ≡ None → ArePairs h (n ∷ ns) (if_known n o (λ p. with_pair p (pairs_of (fin.get h) ns))) (option_map (λ (p : Pair). p.clause) o ∷ map (clause_seen (Some h)) ns)
    go later None e = none_some n (sym e)
    go later (Some p) e = let r = later e in (p ∷ r.0, (ap (with_pair p) r.1.0, ap (λ (cs : List (Option LiteralSet)). Some p.clause ∷ cs) r.1.1))

unseen_decided : (view : View) (seat : ℕ) (a : Addition) (own : ℕ) → IsSome view → is_some (clause_seen view a.number) ≡ false → first_not_seen view a.hints ≡ Some own → decided_refusal view seat a ≡ Some (UnknownNumber own)
unseen_decided None seat a own there free is = absurd (false≢true there)
unseen_decided (Some h) seat a own there free is =
    ap (λ (b : Bool). decided_by (if b then Err NumberTaken else solo_case h seat a)) (contains-seen h a.number ∙ free)
    ∙ ap (λ (r : Result (List Pair) Refusal). decided_by (case_with seat a (repeated_after (λ own. option_map (λ (p : Pair). p.joint) (fin.get h own)) [] a.groups) r (group_pairs_of (fin.get h) a.groups))) (unseen_pairs h a.hints own is)

pub unseen_by : (m : ClauseMap) (a : Addition) (own : ℕ) → is_some (fin.get m a.number) ≡ false → first_unseen m a.hints ≡ Some own → (view : View) (seat : ℕ) → AreSeen m view → decided_refusal view seat a ≡ Some (UnknownNumber own)
unseen_by m a own free is view seat seen = unseen_decided view seat a own seen.0 (seen_bound m view a.number false seen free) (first_alike m view a.hints seen ∙ is)

-- the numbers from a place on
drop_at : (owns : List ℕ) (k own : ℕ) → slice_get owns k ≡ Some own → drop k owns ≡ own ∷ drop (k + 1) owns
drop_at [] k own at = none_some own at
drop_at (n ∷ ns) zero own at = ap (λ x. x ∷ ns) (some_same n own at)
drop_at (n ∷ ns) (suc k) own at = let on : suc (k + 1) ≡ suc k + 1 = omega arith in drop_at ns k own at ∙ ap (λ j. own ∷ drop j (n ∷ ns)) on

-- one that isn't bound is the first
pub first_found : (m : ClauseMap) (owns : List ℕ) (k own : ℕ) → slice_get owns k ≡ Some own → is_some (fin.get m own) ≡ false → Some own ≡ first_unseen m (drop k owns)
first_found m owns k own at none = sym (ap (first_unseen m) (drop_at owns k own at) ∙ ap (λ (b : Bool). if b then first_unseen m (drop (k + 1) owns) else Some own) none)

-- one that is bound is passed by
pub first_later : (m : ClauseMap) (owns : List ℕ) (k own : ℕ) → slice_get owns k ≡ Some own → is_some (fin.get m own) ≡ true → first_unseen m (drop k owns) ≡ first_unseen m (drop (k + 1) owns)
first_later m owns k own at one = ap (first_unseen m) (drop_at owns k own at) ∙ ap (λ (b : Bool). if b then first_unseen m (drop (k + 1) owns) else Some own) one

-- none is behind the last
pub first_none : (m : ClauseMap) (owns : List ℕ) (k : ℕ) → length owns ≤ k → None ≡ first_unseen m (drop k owns)
first_none m [] zero past = refl
first_none m [] (suc k) past = refl
first_none m (n ∷ ns) zero past = absurd (let no : ⊥ = omega (arith, past) in no)
first_none m (n ∷ ns) (suc k) past = first_none m ns k (omega (arith, past))

-- ---- the propagation

case_of_pairs : (h : Holdings) (seat : ℕ) (a : Addition) (pairs : List Pair) → is_some (clause_seen (Some h) a.number) ≡ false → a.groups ≡ [] → pairs_of (fin.get h) a.hints ≡ Ok pairs → solo_take (Some h) seat a ≡ Ok (case_of seat a.number a.lemma pairs [])
case_of_pairs h seat a pairs free none found =
    ap (λ (b : Bool). if b then Err NumberTaken else solo_case h seat a) (contains-seen h a.number ∙ free)
    ∙ ap (λ (gs : List HintGroup). case_with seat a (repeated_after (λ own. option_map (λ (p : Pair). p.joint) (fin.get h own)) [] gs) (pairs_of (fin.get h) a.hints) (group_pairs_of (fin.get h) gs)) none
    ∙ ap (λ (r : Result (List Pair) Refusal). case_with seat a None r (Ok [])) found

abbrev clauses_of : List propagations.Hint → List (Option LiteralSet)
clauses_of hs = map (λ (h : propagations.Hint). h.clause) hs

named_clauses : (pairs : List Pair) → clauses_of (named_hints pairs) ≡ map (λ (p : Pair). Some p.clause) pairs
named_clauses [] = refl
named_clauses (p ∷ pairs) = ap (λ (cs : List (Option LiteralSet)). Some p.clause ∷ cs) (named_clauses pairs)

seen_clauses : (m : ClauseMap) (view : View) (owns : List ℕ) → AreSeen m view → map (clause_seen view) owns ≡ clauses_of (propagations.hints_in m owns)
seen_clauses m view [] seen = refl
seen_clauses m view (n ∷ ns) seen = λ i. sym (seen.1 n) i ∷ seen_clauses m view ns seen i

-- the case of an addition without groups whose hints are all seen, and how its propagation ends
record IsPropagated (view : View) (seat : ℕ) (a : Addition) (end : Ending) : Type 0 where
  case : CaseValue
  is_taken : solo_take view seat a ≡ Ok case
  ends : ending_of (propagation_of case) ≡ end

propagated : PropagationsGoByClauses → (m : ClauseMap) (view : View) (seat : ℕ) (a : Addition) (end : Ending) → IsPropagatedTo m a end → first_unseen m a.hints ≡ None → AreSeen m view → IsPropagated view seat a end
propagated laws m None seat a end w bound seen = absurd (false≢true seen.0)
propagated laws m (Some h) seat a end w bound seen =
    let found = seen_pairs h a.hints (first_alike m (Some h) a.hints seen ∙ bound) in
    let same = named_clauses found.0 ∙ found.1.1 ∙ seen_clauses m (Some h) a.hints seen in
    record {
      case = case_of seat a.number a.lemma found.0 [];
      is_taken = case_of_pairs h seat a found.0 (seen_bound m (Some h) a.number false seen w.free) w.none found.1.0;
      ends = laws (negations a.lemma.clause) (named_hints found.0) (propagations.hints_in m a.hints) same ∙ sym w.ends_so;
    }

closed_of : (view : View) (seat : ℕ) (a : Addition) (read : ℕ) → IsPropagated view seat a (endings.ClosedAfter read) → IsClosedAlone view seat a read
closed_of view seat a read w = go (propagation_of w.case) refl w.ends
  where
    go : (end : propagations.Propagation) → propagation_of w.case ≡ end → ending_of end ≡ endings.ClosedAfter read → IsClosedAlone view seat a read
    go (propagations.Closed used) at is = record { case = w.case; used = used; taken = w.is_taken; closed = at; read_is = cc }
    go (propagations.Open lits) at is = absurd cc
    go (propagations.Stuck position) at is = absurd cc

stuck_of : (view : View) (seat : ℕ) (a : Addition) (position : ℕ) → IsPropagated view seat a (endings.StuckAt position) → decided_refusal view seat a ≡ Some (HintNotUnit position)
stuck_of view seat a position w = ap decided_by w.is_taken ∙ go (propagation_of w.case) w.ends
  where
    go : (end : propagations.Propagation) → ending_of end ≡ endings.StuckAt position → stuck_refusal end ≡ Some (HintNotUnit position)
    go (propagations.Closed used) is = absurd cc
    go (propagations.Open lits) is = absurd cc
    go (propagations.Stuck at) is = let same : at ≡ position = cc in ap (λ (n : ℕ). Some (HintNotUnit n)) same

pub closed_by : PropagationsGoByClauses → (m : ClauseMap) (a : Addition) (read : ℕ) → IsPropagatedTo m a (endings.ClosedAfter read) → first_unseen m a.hints ≡ None → IsClosedBy m a read
closed_by laws m a read w bound view seat seen = closed_of view seat a read (propagated laws m view seat a (endings.ClosedAfter read) w bound seen)

pub stuck_by : PropagationsGoByClauses → (m : ClauseMap) (a : Addition) (position : ℕ) → IsPropagatedTo m a (endings.StuckAt position) → first_unseen m a.hints ≡ None → (view : View) (seat : ℕ) → AreSeen m view → decided_refusal view seat a ≡ Some (HintNotUnit position)
stuck_by laws m a position w bound view seat seen = stuck_of view seat a position (propagated laws m view seat a (endings.StuckAt position) w bound seen)

-- ---- the hints that a propagation read

-- how many hints in front the propagation found clauses of, at least
abbrev found_by : propagations.Propagation → ℕ
found_by (propagations.Closed used) = length used
found_by (propagations.Open lits) = 0
found_by (propagations.Stuck position) = position - 1

found_stuck : (m : ClauseMap) (n : ℕ) (ns : List ℕ) (position : ℕ) → first_unseen m (n ∷ ns) ≡ first_unseen m ns → first_unseen m ns ≡ first_unseen m (drop (position - 1) ns) → first_unseen m (n ∷ ns) ≡ first_unseen m (drop (suc position - 1) (n ∷ ns))
found_stuck m n ns zero one later = let none : 0 ≡ suc 0 - 1 = omega arith in ap (λ k. first_unseen m (drop k (n ∷ ns))) none
found_stuck m n ns (suc p) one later =
    let more : suc p ≡ suc (suc p) - 1 = omega arith in
    let less : suc p - 1 ≡ p = omega arith in
    one ∙ later ∙ ap (λ k. first_unseen m (drop k ns)) less ∙ ap (λ k. first_unseen m (drop k (n ∷ ns))) more

found_after : (m : ClauseMap) (n : ℕ) (ns : List ℕ) (w : propagations.Propagation) → first_unseen m (n ∷ ns) ≡ first_unseen m ns → first_unseen m ns ≡ first_unseen m (drop (found_by w) ns) → first_unseen m (n ∷ ns) ≡ first_unseen m (drop (found_by (propagations.after_hint n w)) (n ∷ ns))
found_after m n ns (propagations.Closed used) one later = one ∙ later
found_after m n ns (propagations.Open lits) one later = refl
found_after m n ns (propagations.Stuck position) one later = found_stuck m n ns position one later

found_rest : (m : ClauseMap) (n : ℕ) (ns : List ℕ) (left : List ℤ) (onward : ℤ → propagations.Propagation) → first_unseen m (n ∷ ns) ≡ first_unseen m ns → ((l : ℤ) → first_unseen m ns ≡ first_unseen m (drop (found_by (onward l)) ns)) → first_unseen m (n ∷ ns) ≡ first_unseen m (drop (found_by (propagations.by_rest n left onward)) (n ∷ ns))
found_rest m n ns [] onward one later = one
found_rest m n ns (l ∷ []) onward one later = found_after m n ns (onward l) one (later l)
found_rest m n ns (l ∷ k ∷ ls) onward one later = let none : 0 ≡ 1 - 1 = omega arith in ap (λ k. first_unseen m (drop k (n ∷ ns))) none

found_hint : (m : ClauseMap) (n : ℕ) (ns : List ℕ) (a : LiteralSet) (o : Option LiteralSet) (onward : ℤ → propagations.Propagation) → fin.get m n ≡ o → ((l : ℤ) → first_unseen m ns ≡ first_unseen m (drop (found_by (onward l)) ns)) → first_unseen m (n ∷ ns) ≡ first_unseen m (drop (found_by (propagations.by_hint n o a onward)) (n ∷ ns))
found_hint m n ns a None onward at later = let none : 0 ≡ 1 - 1 = omega arith in ap (λ k. first_unseen m (drop k (n ∷ ns))) none
found_hint m n ns a (Some d) onward at later =
    found_rest m n ns (propagations.rest d a) onward (ap (λ (o : Option LiteralSet). if is_some o then first_unseen m ns else Some n) at) later

found_unless : (m : ClauseMap) (owns : List ℕ) (b : Bool) (w : propagations.Propagation) → first_unseen m owns ≡ first_unseen m (drop (found_by w) owns) → first_unseen m owns ≡ first_unseen m (drop (found_by (cond b (propagations.Closed []) w)) owns)
found_unless m owns true w later = refl
found_unless m owns false w later = later

found : (m : ClauseMap) (a : LiteralSet) (owns : List ℕ) → first_unseen m owns ≡ first_unseen m (drop (found_by (propagations.propagate_over a (propagations.hints_in m owns))) owns)
unfolding propagations.propagate_over
found m a [] = found_unless m [] (propagations.is_contradictory a) (propagations.Open a) refl
found m a (n ∷ ns) =
    let onward : ℤ → propagations.Propagation = λ l. propagations.propagate_over (with_literal a l) (propagations.hints_in m ns) in
    found_unless m (n ∷ ns) (propagations.is_contradictory a) (propagations.by_hint n (fin.get m n) a onward) (found_hint m n ns a (fin.get m n) onward refl (λ l. found m (with_literal a l) ns))

found_closed : (w : propagations.Propagation) (read : ℕ) → endings.ClosedAfter read ≡ ending_of w → found_by w ≡ read
found_closed (propagations.Closed used) read is = let same : read ≡ length used = cc in sym same
found_closed (propagations.Open lits) read is = absurd cc
found_closed (propagations.Stuck position) read is = absurd cc

found_place : (w : propagations.Propagation) (position : ℕ) → endings.StuckAt position ≡ ending_of w → found_by w ≡ position - 1
found_place (propagations.Closed used) position is = absurd cc
found_place (propagations.Open lits) position is = absurd cc
found_place (propagations.Stuck at) position is = let same : position ≡ at = cc in ap (λ n. n - 1) (sym same)

-- the first hint that isn't bound is the first behind those that the propagation read
pub behind_closed : (m : ClauseMap) (a : Addition) (read : ℕ) → IsPropagatedTo m a (endings.ClosedAfter read) → first_unseen m a.hints ≡ first_unseen m (drop read a.hints)
behind_closed m a read w =
    found m (negations a.lemma.clause) a.hints ∙ ap (λ k. first_unseen m (drop k a.hints)) (found_closed (propagations.propagate m (negations a.lemma.clause) a.hints) read w.ends_so)

pub behind_stuck : (m : ClauseMap) (a : Addition) (position : ℕ) → IsPropagatedTo m a (endings.StuckAt position) → first_unseen m a.hints ≡ first_unseen m (drop (position - 1) a.hints)
behind_stuck m a position w =
    found m (negations a.lemma.clause) a.hints ∙ ap (λ k. first_unseen m (drop k a.hints)) (found_place (propagations.propagate m (negations a.lemma.clause) a.hints) position w.ends_so)
