-- No joint number is held by more own numbers than there are seats and entries: the opening binds each number once for each
-- seat, and an entry binds at most one own number.
use Rattle.std.proofs.Common.{◌≡◌, ap, refl, subst, ℕ, zero, suc, ◌+◌, ◌*◌, ◌≤◌, Bool, true, false, arith}
use Rattle.std.specs.Prelude.{List, [], ◌∷◌, ◌++◌, Option, Some, None, length, nat_lt, nat_le, ◌==◌, ◌&&◌, if◌then◌else◌, replicate}
use Rattle.std.proofs.lemmas.List.{length-append}
use Rattle.std.specs.FinMap as fin
use Rattle.lj_text.specs.declared.step.Step.{Step}
use Rattle.lj_clause.specs.ClauseMap.{FormulaValue}
use Rattle.lj_book.specs.declared.entry.Call.{Call}
use Rattle.lj_book.specs.declared.entry.Call.TheVariants as calls
use Rattle.lj_book.specs.declared.entry.Entry.{Entry}
use Rattle.lj_book.specs.Tables.{Table, Tables, is_here, is_bound, with_table, with_binding, without_keys, without_seat, up_to}
use Rattle.lj_book.specs.inner.Holders.{count_in, holders_of}
use Rattle.lj_book.specs.State.{State, next, opening}
use Rattle.lj_book.specs.Imports.{import_number}
use Rattle.lj_book.specs.History.{tables_after, with_found, after_entry, after_entries, IsLegalCall, IsLegal, AreLegal, IsReached}
use Rattle.lj_book.proofs.TableLaws.{count-insert, count-up_to, count-without_keys, holders-with_table, holders-replicate, free_in_table}
use Rattle.lj_book.proofs.HistoryLaws.{has_table}

-- ---- a change of the tables

length-with_table : (change : Table → Table) (ts : Tables) (seat : ℕ) → length (with_table change ts seat) ≡ length ts
length-with_table change [] seat = refl
length-with_table change (t ∷ ts) zero = refl
length-with_table change (t ∷ ts) (suc seat) = ap (λ n. suc n) (length-with_table change ts seat)

length-without_seat : (ts : Tables) (seat : ℕ) → length (without_seat ts seat) ≡ length ts
length-without_seat [] seat = refl
length-without_seat (t ∷ ts) zero = refl
length-without_seat (t ∷ ts) (suc seat) = ap (λ n. suc n) (length-without_seat ts seat)

at_most_one : (b : Bool) (n : ℕ) → (if b then 1 else 0) + n ≤ n + 1
at_most_one true n = omega arith
at_most_one false n = omega arith

holders-binding : (ts : Tables) (seat own joint q : ℕ) → is_here ts seat ≡ true → is_bound ts seat own ≡ false → holders_of (with_binding ts seat own joint) q ≤ holders_of ts q + 1
holders-binding ts seat own joint q here free =
    let t = has_table ts seat here in
    let a : holders_of (with_binding ts seat own joint) q + count_in (Some t.0) q ≡ holders_of ts q + count_in (Some (fin.insert t.0 own joint)) q = holders-with_table (λ u. fin.insert u own joint) ts seat t.0 q t.1 in
    let b : count_in (Some (fin.insert t.0 own joint)) q ≡ (if joint == q then 1 else 0) + count_in (Some t.0) q = count-insert t.0 own joint q (free_in_table ts seat own t.0 t.1 free) in
    let c : (if joint == q then 1 else 0) + count_in (Some t.0) q ≤ count_in (Some t.0) q + 1 = at_most_one (joint == q) (count_in (Some t.0) q) in
    omega arith

holders-keys : (ts : Tables) (seat q : ℕ) (numbers : List ℕ) → is_here ts seat ≡ true → holders_of (with_table (without_keys numbers) ts seat) q ≤ holders_of ts q
holders-keys ts seat q numbers here =
    let t = has_table ts seat here in
    let a : holders_of (with_table (without_keys numbers) ts seat) q + count_in (Some t.0) q ≡ holders_of ts q + count_in (Some (without_keys numbers t.0)) q = holders-with_table (without_keys numbers) ts seat t.0 q t.1 in
    let b : count_in (Some (without_keys numbers t.0)) q ≤ count_in (Some t.0) q = count-without_keys numbers t.0 q in
    omega arith

holders-seat : (ts : Tables) (seat q : ℕ) → holders_of (without_seat ts seat) q ≤ holders_of ts q
holders-seat [] seat q = omega arith
holders-seat (t ∷ ts) zero q = omega arith
holders-seat (t ∷ ts) (suc seat) q = let rest = holders-seat ts seat q in omega arith

-- ---- an entry

record IsWithin (before after : Tables) : Type 0 where
  seats : length after ≡ length before
  more : (q : ℕ) → holders_of after q ≤ holders_of before q + 1

found-within : (ts : Tables) (seat own : ℕ) (o : Option ℕ) → is_here ts seat ≡ true → is_bound ts seat own ≡ false → IsWithin ts (with_found ts seat own o)
found-within ts seat own None here free = record { seats = refl; more = λ q. omega arith }
found-within ts seat own (Some joint) here free = record { seats = length-with_table (λ t. fin.insert t own joint) ts seat; more = λ q. holders-binding ts seat own joint q here free }

call-within : (s : State) (seat : ℕ) (call : Call) (step : Option Step) → IsLegalCall s seat call step → IsWithin s.tables (tables_after s seat call)
call-within s seat (calls.Add own lemma) step legal = found-within s.tables seat own (Some (next s)) legal.here legal.unbound
call-within s seat (calls.Drop numbers) step legal = record { seats = length-with_table (without_keys numbers) s.tables seat; more = λ q. let fewer = holders-keys s.tables seat q numbers legal.here in omega arith }
call-within s seat (calls.Adopt own joint) step legal = found-within s.tables seat own (Some joint) legal.here legal.unbound
call-within s seat (calls.Import own clause) step legal = found-within s.tables seat own (import_number s clause) legal.here legal.unbound
call-within s seat calls.Leave step legal = record { seats = length-without_seat s.tables seat; more = λ q. let fewer = holders-seat s.tables seat q in omega arith }

-- ---- whole histories

HoldersBounded : State → Type 0
HoldersBounded s = (q : ℕ) → holders_of s.tables q ≤ length s.tables + length s.history

bounded-after : (s : State) (e : Entry) → HoldersBounded s → IsLegal s e → HoldersBounded (after_entry s e)
unfolding HoldersBounded
bounded-after s e bounded legal q =
    let within : IsWithin s.tables (tables_after s e.seat e.call) = call-within s e.seat e.call e.step legal in
    let a : length (tables_after s e.seat e.call) ≡ length s.tables = within.seats in
    let b : holders_of (tables_after s e.seat e.call) q ≤ holders_of s.tables q + 1 = within.more q in
    let c : length (s.history ++ e ∷ []) ≡ length s.history + 1 = length-append s.history (e ∷ []) in
    let d : holders_of s.tables q ≤ length s.tables + length s.history = bounded q in
    omega arith

bounded-after_all : (s : State) (es : List Entry) → HoldersBounded s → AreLegal s es → HoldersBounded (after_entries s es)
bounded-after_all s [] bounded legal = bounded
bounded-after_all s (e ∷ es) bounded legal = bounded-after_all (after_entry s e) es (bounded-after s e bounded legal.0) legal.1

length-replicate-of : (n : ℕ) (t : Option Table) → length (replicate n t) ≡ n
length-replicate-of zero t = refl
length-replicate-of (suc n) t = ap (λ m. suc m) (length-replicate-of n t)

times_one_if : (n : ℕ) (b : Bool) → n * (if b then 1 else 0) ≤ n
times_one_if n true = omega arith
times_one_if n false = omega arith

bounded-opening : (f : FormulaValue) (seats max_steps : ℕ) → HoldersBounded (opening f seats max_steps)
unfolding HoldersBounded
bounded-opening f seats max_steps q =
    let n : ℕ = length f.clauses in
    let a : holders_of (replicate seats (Some (up_to n))) q ≡ seats * count_in (Some (up_to n)) q = holders-replicate seats (up_to n) q in
    let b : seats * count_in (Some (up_to n)) q ≡ seats * (if nat_lt 0 q && nat_le q n then 1 else 0) = ap (λ (k : ℕ). seats * k) (count-up_to n q) in
    let c : seats * (if nat_lt 0 q && nat_le q n then 1 else 0) ≤ seats = times_one_if seats (nat_lt 0 q && nat_le q n) in
    let d : length (replicate seats (Some (up_to n))) ≡ seats = length-replicate-of seats (Some (up_to n)) in
    omega arith

-- so it is in each state that a legal history reaches
pub holders_bounded : (s : State) → IsReached s → (q : ℕ) → holders_of s.tables q ≤ length s.tables + length s.history
unfolding HoldersBounded
holders_bounded s r = subst HoldersBounded r.leads (bounded-after_all (opening s.formula r.seats s.max_steps) s.history (bounded-opening s.formula r.seats s.max_steps) r.legal)
