-- The sequential object: for each call on a state its reply, the first refusal that holds if one does, and the entry that
-- an accepted call makes. The state after an accepted call is the one that its entry leaves; after a refused one it is the
-- state before.
use Rattle.std.specs.Prelude.{◌≡◌, ℕ, nat_lt, Bool, false, List, [], ◌∷◌, length, Option, Some, None, option_map, option_and_then, if◌then◌else◌, Result, Ok, Err, MatchResult}
use Rattle.std.specs.FinMap as fin
use Rattle.lj_clause.specs.ClauseMap.{ClauseMap}
use Rattle.lj_clause.specs.Rat.{HintGroup}
use Rattle.lj_text.specs.declared.line.Addition.{Addition}
use Rattle.lj_text.specs.Needed.{if_some}
use Rattle.lj_hint.specs.declared.pair.Pair.{Pair}
use Rattle.lj_hint.specs.Hints.{numbers}
use Rattle.lj_hint.specs.Case.{CaseValue, case_of}
use Rattle.lj_hint.specs.Receipt.{ReceiptValue}
use Rattle.lj_book.specs.declared.entry.Call.{Call}
use Rattle.lj_book.specs.declared.entry.Call.TheVariants as calls
use Rattle.lj_book.specs.declared.entry.Entry.{Entry}
use Rattle.lj_book.specs.declared.entry.Added.{Added}
use Rattle.lj_book.specs.declared.entry.Dropped.{Dropped}
use Rattle.lj_book.specs.declared.entry.Imported.{Imported}
use Rattle.lj_book.specs.declared.found.Found.{Found}
use Rattle.lj_book.specs.declared.found.Found.TheVariants.{Equal, Part, Neither}
use Rattle.lj_book.specs.declared.refusal.Refusal.{Refusal}
use Rattle.lj_book.specs.declared.refusal.Refusal.TheVariants.{SeatGone, NumberTaken, UnknownNumber, GroupRepeated, Stale, NoSuchClause, Full, NoMemory}
use Rattle.lj_book.specs.Tables.{Tables, table_of, is_here, is_bound, is_among, joint_of, with_table, without_keys, without_seat, keys_lost}
use Rattle.lj_book.specs.Lookup.{is_clause}
use Rattle.lj_book.specs.State.{State, addition_count, next, live}
use Rattle.lj_book.specs.History.{dead_numbers}

-- The answer of a call is the reply that it has here. NoMemory may stand in place of any reply.
abbrev pub IsRefusal : {A : Type 0} → Refusal → Result A Refusal → Type 0
IsRefusal (NoMemory _) reply = Unit {0}
IsRefusal e reply = reply ≡ Err e

-- the answer, seen so, is the reply
abbrev pub IsReplyBy : {A B : Type 0} → (A → B) → Result A Refusal → Result B Refusal → Type 0
IsReplyBy view answer reply = MatchResult answer (λ x. reply ≡ Ok (view x)) (λ e. IsRefusal e reply)

-- the answer is the reply
abbrev pub IsReply : {A : Type 0} → Result A Refusal → Result A Refusal → Type 0
IsReply answer reply = IsReplyBy (λ x. x) answer reply

-- the reply that a refusal leaves
abbrev pub unless_refused : {A : Type 0} → Option Refusal → A → Result A Refusal
unless_refused None reply = Ok reply
unless_refused (Some e) reply = Err e

-- ---- taking an addition: its hints and groups in joint numbers, with their clauses

-- the joint number that the seat's own number is bound to, and the clause of that number
abbrev pub pair_in : Tables → ClauseMap → ℕ → ℕ → Option Pair
pair_in tables p seat own = option_and_then
    (λ joint. option_map (λ c. record { joint = joint; clause = c }) (fin.get p joint))
    (joint_of tables seat own)

-- the pairs and one in front, where none was refused
abbrev pub with_pair : Pair → Result (List Pair) Refusal → Result (List Pair) Refusal
with_pair pair (Ok pairs) = Ok (pair ∷ pairs)
with_pair pair (Err e) = Err e

-- what goes on from the pair of an own number, where the seat holds it
abbrev pub if_known : {A : Type 0} → ℕ → Option Pair → (Pair → Result A Refusal) → Result A Refusal
if_known own None onward = Err (UnknownNumber own)
if_known own (Some pair) onward = onward pair

-- the pairs of these own numbers, or the first that isn't held
abbrev pub pairs_of : (ℕ → Option Pair) → List ℕ → Result (List Pair) Refusal
pairs_of pair [] = Ok []
pairs_of pair (own ∷ owns) = if_known own (pair own) (λ p. with_pair p (pairs_of pair owns))

-- the groups and one in front, where none was refused
abbrev pub with_group_pair : Pair → Result (List Pair) Refusal
    → Result (List (Pair × List Pair)) Refusal → Result (List (Pair × List Pair)) Refusal
with_group_pair candidate (Err e) later = Err e
with_group_pair candidate (Ok hints) (Err e) = Err e
with_group_pair candidate (Ok hints) (Ok groups) = Ok ((candidate, hints) ∷ groups)

-- the groups, each candidate before its hints
abbrev pub group_pairs_of : (ℕ → Option Pair) → List HintGroup
    → Result (List (Pair × List Pair)) Refusal
group_pairs_of pair [] = Ok []
group_pairs_of pair (g ∷ gs) = if_known g.candidate (pair g.candidate)
    (λ p. with_group_pair p (pairs_of pair g.hints) (group_pairs_of pair gs))

-- whether the joint number is among these
abbrev pub is_seen : List ℕ → Option ℕ → Bool
is_seen seen None = false
is_seen seen (Some joint) = is_among seen joint

-- these joint numbers and one more, if it is one
abbrev pub with_seen : Option ℕ → List ℕ → List ℕ
with_seen None seen = seen
with_seen (Some joint) seen = joint ∷ seen

-- the own number of the first group whose joint clause has an earlier group, or was seen before
abbrev pub repeated_after : (ℕ → Option ℕ) → List ℕ → List HintGroup → Option ℕ
repeated_after joint seen [] = None
repeated_after joint seen (g ∷ gs) =
    if is_seen seen (joint g.candidate) then Some g.candidate
    else repeated_after joint (with_seen (joint g.candidate) seen) gs

-- the case, where no group is repeated
abbrev pub case_unless : Option ℕ → CaseValue → Result CaseValue Refusal
case_unless None c = Ok c
case_unless (Some own) c = Err (GroupRepeated own)

-- the case of these hints and groups, or the first refusal among them
abbrev pub case_with : ℕ → Addition → Option ℕ → Result (List Pair) Refusal
    → Result (List (Pair × List Pair)) Refusal → Result CaseValue Refusal
case_with seat a repeated (Err e) groups = Err e
case_with seat a repeated (Ok hints) (Err e) = Err e
case_with seat a repeated (Ok hints) (Ok groups) = case_unless repeated
    (case_of seat a.number a.lemma hints groups)

-- the case in joint numbers, with the live clauses
abbrev pub take_reply : State → ℕ → Addition → Result CaseValue Refusal
take_reply s seat a =
    if is_here s.tables seat then
    (if is_bound s.tables seat a.number then Err NumberTaken
    else case_with seat a (repeated_after (joint_of s.tables seat) [] a.groups)
    (pairs_of (pair_in s.tables (live s) seat) a.hints)
    (group_pairs_of (pair_in s.tables (live s) seat) a.groups))
    else Err SeatGone

-- ---- giving numbers up

-- the entry of a drop: its step deletes what died
abbrev pub drop_entry : State → ℕ → List ℕ → Entry
drop_entry s seat numbers = record {
  seat = seat;
  call = calls.Drop numbers;
  step = if_some
      (dead_numbers s (with_table (without_keys numbers) s.tables seat));
}

-- the place of the entry, and the count of own numbers that were given up
abbrev pub drop_reply : State → ℕ → List ℕ → Result Dropped Refusal
drop_reply s seat numbers =
    if is_here s.tables seat then
    Ok (record { place = length s.history; count = keys_lost numbers (table_of s.tables seat) })
    else Err SeatGone

-- ---- leaving

-- the entry of a leave: its step deletes what died
abbrev pub leave_entry : State → ℕ → Entry
leave_entry s seat = record {
  seat = seat;
  call = calls.Leave;
  step = if_some
      (dead_numbers s (without_seat s.tables seat));
}

-- the place of the entry
abbrev pub leave_reply : State → ℕ → Result ℕ Refusal
leave_reply s seat = if is_here s.tables seat then Ok (length s.history) else Err SeatGone

-- ---- adopting and importing

-- the refusal of a binding of the seat's own number, whatever it is to be bound to
abbrev pub free_refusal : State → ℕ → ℕ → Option Refusal
free_refusal s seat own =
    if is_here s.tables seat then (if is_bound s.tables seat own then Some NumberTaken else None)
    else Some SeatGone

-- the reply that is left where nothing was refused before
abbrev pub if_free : {A : Type 0} → Option Refusal → Result A Refusal → Result A Refusal
if_free None later = later
if_free (Some e) later = Err e

-- the entry of a call that binds an own number to a clause that lives already has no step
abbrev pub binding_entry : ℕ → Call → Entry
binding_entry seat call = record { seat = seat; call = call; step = None }

-- the entry of an adoption, which has no step
abbrev pub adopt_entry : ℕ → ℕ → ℕ → Entry
adopt_entry seat own joint = binding_entry seat (calls.Adopt own joint)

-- the reply to an import by what it finds
abbrev pub imported : State → Found → Result Imported Refusal
imported s (Equal joint) = Ok (record { place = length s.history; joint = joint })
imported s (Part part) = if nat_lt (addition_count s.history) s.max_steps
    then Ok (record { place = length s.history; joint = next s })
    else Err Full
imported s Neither = Err NoSuchClause

-- ---- committing a receipt

-- whether the pair's number lives with that very clause
abbrev pub is_live_as : ClauseMap → Pair → Bool
is_live_as p pair = is_clause pair.clause (fin.get p pair.joint)

-- the refusal of a stale number, if there is one, or a later refusal
abbrev pub stale_or : Option ℕ → Option Refusal → Option Refusal
stale_or None later = later
stale_or (Some joint) later = Some (Stale joint)

-- the place of the entry, and the joint number of the lemma
abbrev pub commit_told : State → Added
commit_told s = record { place = length s.history; joint = next s }

-- the answer of a commit without the receipt that a refusal gives back
abbrev pub answer_alone : Result Added (Refusal × ReceiptValue) → Result Added Refusal
answer_alone (Ok addition_count) = Ok addition_count
answer_alone (Err e) = Err e.0
