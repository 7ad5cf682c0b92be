-- What an event leaves: everything that was given out, and the tables and pending things of other seats.
use Rattle.std.proofs.Common.{◌≡◌, ap, refl, sym, ◌∙◌, inl, inr, subst, ℕ, ◌+◌, Bool, cond, true, false, arith}
use Rattle.std.specs.Prelude.{◌⊎◌, List, length, Option, Some, None, is_some}
use Rattle.std.specs.Ordering.{nat_cmp, eq_by_cmp, is_eq}
use Rattle.std.specs.Cmp.{nat_cmp_total, tied_itself}
use Rattle.std.specs.FinMap as fin
use Rattle.lj_clause.specs.LiteralSet.{LiteralSet}
use Rattle.lj_clause.specs.ClauseMap.{ClauseMap}
use Rattle.lj_text.specs.declared.line.Addition.{Addition}
use Rattle.lj_text.specs.declared.step.Step.{Step}
use Rattle.lj_text.specs.declared.step.Step.TheVariants as steps
use Rattle.lj_book.specs.declared.entry.Call.{Call}
use Rattle.lj_book.specs.declared.entry.Call.TheVariants as calls
use Rattle.lj_book.specs.declared.entry.Entry.{Entry}
use Rattle.lj_book.specs.Tables.{Tables, table_of, joint_of, with_table, with_binding, without_keys, without_seat}
use Rattle.lj_book.specs.State.{State, next, given_out, live}
use Rattle.lj_book.specs.Imports.{part_addition, import_number}
use Rattle.lj_book.specs.History.{dead_numbers, after_entry, IsLegalImport, IsLegalCall}
use Rattle.lj_book.specs.Calls.{drop_entry, binding_entry, leave_entry}
use Rattle.lj_book.proofs.Parts.{tied_number, FindsEqual, FindsPart, finds}
use Rattle.lj_book.proofs.HistoryLaws.{with_entry, with_addition, after_equal, after_part}
use Rattle.lj_book.proofs.SoloTables.{table_of-other, table_of-left_other, length-with_table, length-without_seat, joint_of-binding, joint_of-dropped, joint_of-left}
use Rattle.lj_book.proofs.SoloStates.{IsGiven, some_clause, Extends, Extends-same, Extends-insert, AddsNothing, contains-extends, given_out-entry, given_out-same, next-entry, not_given, nothing_added, live-given}

-- What an entry of a seat leaves.
pub record Moves (k : ℕ) (s s' : State) : Type 0 where
  pub more : Extends (given_out s) (given_out s')
  pub tables : (seat : ℕ) → (k ≡ seat → ⊥) → table_of s'.tables seat ≡ table_of s.tables seat
  pub seats : length s'.tables ≡ length s.tables
  pub given : IsGiven s'

-- an entry without an addition, after which what is bound was bound or given out before
moves_by : (k : ℕ) (s : State) (ts : Tables) (e : Entry) → IsGiven s → AddsNothing e → ((seat : ℕ) → (k ≡ seat → ⊥) → table_of ts seat ≡ table_of s.tables seat) → length ts ≡ length s.tables → ((seat own joint : ℕ) → joint_of ts seat own ≡ Some joint → (joint_of s.tables seat own ≡ Some joint) ⊎ (fin.contains_key (given_out s) joint ≡ true)) → Moves k s (with_entry s ts e)
moves_by k s ts e given none others seats bound =
    let same = given_out-same s e none in
    let later = next-entry s e in
    record {
      more = Extends-same (given_out s) (given_out (with_entry s ts e)) same;
      tables = others;
      seats = seats;
      given = record {
        bound_given = λ seat own joint is. ap (λ (m : ClauseMap). fin.contains_key m joint) same ∙ elim (bound seat own joint is) [
          | inl before ↦ given.bound_given seat own joint before
          | inr there ↦ there
        ];
        given_below = λ n h. let low = given.given_below n (sym (ap (λ (m : ClauseMap). fin.contains_key m n) same) ∙ h) in omega arith;
      };
    }

pub moves-drop : (s : State) (seat : ℕ) (numbers : List ℕ) → IsGiven s → Moves seat s (after_entry s (drop_entry s seat numbers))
moves-drop s seat numbers given =
    moves_by seat s (with_table (without_keys numbers) s.tables seat) (drop_entry s seat numbers) given
    (record { additions_same = nothing_added (dead_numbers s (with_table (without_keys numbers) s.tables seat)) })
    (λ other apart. table_of-other (without_keys numbers) s.tables seat other apart)
    (length-with_table (without_keys numbers) s.tables seat)
    (λ other own joint is. inl (joint_of-dropped numbers s.tables seat other own joint is))

pub moves-leave : (s : State) (seat : ℕ) → IsGiven s → Moves seat s (after_entry s (leave_entry s seat))
moves-leave s seat given =
    moves_by seat s (without_seat s.tables seat) (leave_entry s seat) given
    (record { additions_same = nothing_added (dead_numbers s (without_seat s.tables seat)) })
    (λ other apart. table_of-left_other s.tables seat other apart)
    (length-without_seat s.tables seat)
    (λ other own joint is. inl (joint_of-left s.tables seat other own joint is))

bound_to : (s : State) (k own0 j0 seat own joint : ℕ) → fin.contains_key (given_out s) j0 ≡ true → joint_of (with_binding s.tables k own0 j0) seat own ≡ Some joint → (joint_of s.tables seat own ≡ Some joint) ⊎ (fin.contains_key (given_out s) joint ≡ true)
bound_to s k own0 j0 seat own joint there is =
    elim (joint_of-binding s.tables k own0 j0 seat own joint is) [
      | inl before ↦ inl before
      | inr same ↦ inr (ap (fin.contains_key (given_out s)) same ∙ there)
    ]

-- a binding of a number that lives
pub moves-bound : (s : State) (seat own joint : ℕ) (call : Call) (c : LiteralSet) → IsGiven s → fin.get (live s) joint ≡ Some c → Moves seat s (with_entry s (with_binding s.tables seat own joint) (binding_entry seat call))
moves-bound s seat own joint call c given lives =
    moves_by seat s (with_binding s.tables seat own joint) (binding_entry seat call) given
    (record { additions_same = λ p. refl })
    (λ other apart. table_of-other (λ t. fin.insert t own joint) s.tables seat other apart)
    (length-with_table (λ t. fin.insert t own joint) s.tables seat)
    (λ other k n is. bound_to s seat own joint other k n (ap is_some (live-given s joint c lives)) is)

-- ---- an addition

-- its entry, by whatever call it enters
abbrev addition_entry : ℕ → Call → Addition → Entry
addition_entry seat call a = record { seat = seat; call = call; step = Some (steps.Add a) }

pub given_out-addition : (s : State) (seat own : ℕ) (call : Call) (a : Addition) → a.number ≡ next s → given_out (with_addition s seat own call a) ≡ fin.insert (given_out s) (next s) a.lemma.clause
given_out-addition s seat own call a is = given_out-entry s (addition_entry seat call a) ∙ ap (λ (n : ℕ). fin.insert (given_out s) n a.lemma.clause) is

contains_inserted : (p : ClauseMap) (n : ℕ) (c : LiteralSet) (q : ℕ) → fin.contains_key (fin.insert p n c) q ≡ true → (q ≡ n) ⊎ (fin.contains_key p q ≡ true)
contains_inserted p n c q h = go (eq_by_cmp nat_cmp q n) refl (sym (ap is_some (fin.get-insert nat_cmp_total p n c q)) ∙ h)
  where
    go : (b : Bool) → eq_by_cmp nat_cmp q n ≡ b → is_some (cond b (Some c) (fin.get p q)) ≡ true → (q ≡ n) ⊎ (fin.contains_key p q ≡ true)
    go true e h = inl (tied_number q n e)
    go false e h = inr h

pub get-inserted : {X : Type 0} (p : fin.FinMap nat_cmp X) (n : ℕ) (c : X) → fin.get (fin.insert p n c) n ≡ Some c
get-inserted {X} p n c = fin.get-insert nat_cmp_total p n c n ∙ ap (λ b. cond b (Some c) (fin.get p n)) (ap is_eq (tied_itself nat_cmp_total n))

pub moves-addition : (s : State) (seat own : ℕ) (call : Call) (a : Addition) → IsGiven s → a.number ≡ next s → Moves seat s (with_addition s seat own call a)
moves-addition s seat own call a given num =
    let e : Entry = addition_entry seat call a in
    let s' = with_addition s seat own call a in
    let is : given_out s' ≡ fin.insert (given_out s) (next s) a.lemma.clause = given_out-addition s seat own call a num in
    let more : Extends (given_out s) (given_out s') = subst (Extends (given_out s)) (sym is) (Extends-insert (given_out s) (next s) a.lemma.clause (not_given s given)) in
    let later : next s' ≡ next s + 1 = next-entry s e in
    record {
      more = more;
      tables = λ other apart. table_of-other (λ t. fin.insert t own (next s)) s.tables seat other apart;
      seats = length-with_table (λ t. fin.insert t own (next s)) s.tables seat;
      given = record {
        bound_given = λ other k joint h. elim (joint_of-binding s.tables seat own (next s) other k joint h) [
          | inl before ↦ contains-extends (given_out s) (given_out s') joint more (given.bound_given other k joint before)
          | inr same ↦ ap (fin.contains_key (given_out s')) same ∙ ap (λ (m : ClauseMap). fin.contains_key m (next s)) is ∙ ap is_some (get-inserted (given_out s) (next s) a.lemma.clause)
        ];
        given_below = λ n h. elim (contains_inserted (given_out s) (next s) a.lemma.clause n (sym (ap (λ (m : ClauseMap). fin.contains_key m n) is) ∙ h)) [
          | inl same ↦ omega arith
          | inr before ↦ let low = given.given_below n before in omega arith
        ];
      };
    }

-- ---- an import

pub moves-import : (s : State) (seat own : ℕ) (clause : LiteralSet) (step : Option Step) → IsGiven s → IsLegalImport s seat own clause step → Moves seat s (after_entry s (record { seat = seat; call = calls.Import own clause; step = step }))
moves-import s seat own clause step given legal =
    elim (finds s clause legal.finds) [
      | inl equal ↦
          let f : FindsEqual s clause equal.0 = equal.1 in
          subst (Moves seat s) (sym (after_equal s seat own equal.0 clause step f legal.asked)) (moves-bound s seat own equal.0 (calls.Import own clause) clause given f.lives)
      | inr part ↦
          let f : FindsPart s clause part.0 = part.1 in
          subst (Moves seat s) (sym (after_part s seat own part.0 clause step f legal.asked)) (moves-addition s seat own (calls.Import own clause) (part_addition (next s) clause part.0) given refl)
    ]

-- the number that it binds has its clause
pub import_gives : (s : State) (seat own : ℕ) (clause : LiteralSet) (step : Option Step) (joint : ℕ) → IsGiven s → IsLegalImport s seat own clause step → import_number s clause ≡ Some joint → fin.get (given_out (after_entry s (record { seat = seat; call = calls.Import own clause; step = step }))) joint ≡ Some clause
import_gives s seat own clause step joint given legal number =
    elim (finds s clause legal.finds) [
      | inl equal ↦
          let f : FindsEqual s clause equal.0 = equal.1 in
          let same : equal.0 ≡ joint = one (sym f.number ∙ number) in
          (moves-import s seat own clause step given legal).more.stays joint clause (live-given s joint clause (ap (fin.get (live s)) (sym same) ∙ f.lives))
      | inr part ↦
          let f : FindsPart s clause part.0 = part.1 in
          let same : next s ≡ joint = one (sym f.number ∙ number) in
          ap (λ (u : State). fin.get (given_out u) joint) (after_part s seat own part.0 clause step f legal.asked)
          ∙ ap (fin.get (given_out (with_addition s seat own (calls.Import own clause) (part_addition (next s) clause part.0)))) (sym same)
          ∙ ap (λ (m : ClauseMap). fin.get m (next s)) (given_out-addition s seat own (calls.Import own clause) (part_addition (next s) clause part.0) refl)
          ∙ get-inserted (given_out s) (next s) clause
    ]
  where
    one : {a b : ℕ} → Some a ≡ Some b → a ≡ b
    one e = cc

-- ---- an entry that is legal

pub moves-legal : (s : State) (seat : ℕ) (call : Call) (step : Option Step) → IsGiven s → IsLegalCall s seat call step → Moves seat s (after_entry s (record { seat = seat; call = call; step = step }))
moves-legal s seat (calls.Add own lemma) None given legal = absurd legal.addition
moves-legal s seat (calls.Add own lemma) (Some (steps.Delete numbers)) given legal = absurd legal.addition
moves-legal s seat (calls.Add own lemma) (Some (steps.Add a)) given legal = moves-addition s seat own (calls.Add own lemma) a given legal.addition.0
moves-legal s seat (calls.Drop numbers) step given legal =
    subst (λ (o : Option Step). Moves seat s (after_entry s (record { seat = seat; call = calls.Drop numbers; step = o }))) (sym legal.deletes) (moves-drop s seat numbers given)
moves-legal s seat (calls.Adopt own joint) step given legal =
    let c = some_clause (fin.get (live s) joint) legal.lives in
    subst (λ (o : Option Step). Moves seat s (after_entry s (record { seat = seat; call = calls.Adopt own joint; step = o }))) (sym legal.stepless) (moves-bound s seat own joint (calls.Adopt own joint) c.0 given c.1)
moves-legal s seat (calls.Import own clause) step given legal = moves-import s seat own clause step given legal
moves-legal s seat calls.Leave step given legal =
    subst (λ (o : Option Step). Moves seat s (after_entry s (record { seat = seat; call = calls.Leave; step = o }))) (sym legal.deletes) (moves-leave s seat given)
