-- Additions in joint numbers.
use Rattle.std.proofs.Common.{◌≡◌, ap, sym, ◌∙◌, ℕ, true, false}
use Rattle.std.specs.Prelude.{List, [], ◌∷◌, Option, Some, Result, Err, ◌||◌, if◌then◌else◌, is_some}
use Rattle.std.specs.Ordering.{nat_cmp, eq_by_cmp}
use Rattle.std.specs.Cmp.{nat_cmp_total, unsigned_tied}
use Rattle.std.specs.FinMap as fin
use Rattle.lj_clause.specs.ClauseMap.{ClauseMap}
use Rattle.lj_clause.specs.Rat.{HintGroup}
use Rattle.lj_clause.proofs.Tests.{turned, marked}
use Rattle.lj_text.specs.declared.line.Addition.{Addition}
use Rattle.lj_hint.specs.Case.{CaseValue}
use Rattle.lj_book.specs.declared.refusal.Refusal.{Refusal}
use Rattle.lj_book.specs.declared.refusal.Refusal.TheVariants.{SeatGone, NumberTaken}
use Rattle.lj_book.specs.Tables.{is_here, is_bound, is_among, joint_of}
use Rattle.lj_book.specs.State.{State, live}
use Rattle.lj_book.specs.Calls.{pair_in, pairs_of, group_pairs_of, repeated_after, is_seen, with_seen, case_with, take_reply}

-- the reply where neither the seat nor the own number is refused
pub take_is : (s : State) (m : ClauseMap) (seat : ℕ) (a : Addition) → is_here s.tables seat ≡ true → is_bound s.tables seat a.number ≡ false → m ≡ live s → case_with seat a (repeated_after (joint_of s.tables seat) [] a.groups) (pairs_of (pair_in s.tables m seat) a.hints) (group_pairs_of (pair_in s.tables m seat) a.groups) ≡ take_reply s seat a
take_is s m seat a here free is =
    let whole : ClauseMap → Result CaseValue Refusal = λ p. case_with seat a (repeated_after (joint_of s.tables seat) [] a.groups) (pairs_of (pair_in s.tables p seat) a.hints) (group_pairs_of (pair_in s.tables p seat) a.groups) in
    ap whole is
    ∙ sym (ap (λ b. if b then (if is_bound s.tables seat a.number then Err NumberTaken else whole (live s)) else Err SeatGone) here
    ∙ ap (λ b. if b then Err NumberTaken else whole (live s)) free)

-- ---- repeated groups

pub repeated-new : (joint : ℕ → Option ℕ) (before : List ℕ) (g : HintGroup) (gs : List HintGroup) (j : ℕ) → joint g.candidate ≡ Some j → is_among before j ≡ false → repeated_after joint (j ∷ before) gs ≡ repeated_after joint before (g ∷ gs)
repeated-new joint before g gs j at fresh =
    sym (ap (λ o. if is_seen before o then Some g.candidate else repeated_after joint (with_seen o before) gs) at
    ∙ ap (λ b. if b then Some g.candidate else repeated_after joint (j ∷ before) gs) fresh)

pub seen-none : (m : fin.FinMap nat_cmp (Unit {0})) → m ≡ fin.empty → (q : ℕ) → fin.contains_key m q ≡ is_among [] q
seen-none m is q = ap (λ (k : fin.FinMap nat_cmp (Unit {0})). fin.contains_key k q) is ∙ ap is_some (fin.get-empty nat_cmp q)

pub seen-more : (m n : fin.FinMap nat_cmp (Unit {0})) (before : List ℕ) (j : ℕ) → ((q : ℕ) → fin.contains_key m q ≡ is_among before q) → n ≡ fin.insert m j tt → (q : ℕ) → fin.contains_key n q ≡ is_among (j ∷ before) q
seen-more m n before j has is q =
    ap (λ (k : fin.FinMap nat_cmp (Unit {0})). fin.contains_key k q) is
    ∙ ap is_some (fin.get-insert nat_cmp_total m j tt q)
    ∙ marked (eq_by_cmp nat_cmp q j) (fin.get m q)
    ∙ (λ i. (unsigned_tied q j ∙ turned q j) i || has q i)
