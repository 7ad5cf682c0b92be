-- A take, decided by the seat's holdings.
use Rattle.std.proofs.Common.{◌≡◌, ap, refl, sym, ◌∙◌, subst, ℕ, Bool, true, false, zero, suc}
use Rattle.std.specs.Prelude.{List, [], ◌∷◌, take, Option, Some, None, option_map, option_and_then, is_some, if◌then◌else◌, Result, Ok, Err}
use Rattle.std.specs.FinMap as fin
use Rattle.lj_clause.specs.LiteralSet.{LiteralSet}
use Rattle.lj_text.specs.declared.line.Addition.{Addition}
use Rattle.lj_hint.specs.declared.pair.Pair.{Pair}
use Rattle.lj_hint.specs.Case.{CaseValue, case_of}
use Rattle.lj_book.specs.declared.refusal.Refusal.{Refusal}
use Rattle.lj_book.specs.declared.refusal.Refusal.TheVariants.{SeatGone, NumberTaken}
use Rattle.lj_book.specs.Tables.{Table, table_of, joint_of, is_bound}
use Rattle.lj_book.specs.State.{State, given_out, live}
use Rattle.lj_book.specs.Calls.{pair_in, pairs_of, group_pairs_of, repeated_after, with_pair, if_known, case_with, free_refusal, take_reply}
use Rattle.lj_book.specs.Solo.{Holdings, View, with_clause, holdings_of, view_of, solo_case, solo_refusal, solo_take}
use Rattle.lj_book.proofs.SoloTables.{get-holdings, contains-holdings}
use Rattle.lj_book.proofs.SoloStates.{IsGiven, some_clause, with_clause-is, live-bound, bound_in_table}

-- what the book finds under an own number is what the seat's holdings have
pair_is : (s : State) (seat : ℕ) (t : Table) → IsGiven s → table_of s.tables seat ≡ Some t → (own : ℕ) → pair_in s.tables (live s) seat own ≡ fin.get (holdings_of (given_out s) t) own
pair_is s seat t given at own = go (fin.get t own) refl
  where
    found : joint_of s.tables seat own ≡ fin.get t own
    found = ap (option_and_then (λ (u : Table). fin.get u own)) at

    go : (o : Option ℕ) → fin.get t own ≡ o → pair_in s.tables (live s) seat own ≡ fin.get (holdings_of (given_out s) t) own
    go None e =
        ap (option_and_then (λ (joint : ℕ). option_map (λ (c : LiteralSet). record { joint = joint; clause = c }) (fin.get (live s) joint))) (found ∙ e)
        ∙ sym (get-holdings (given_out s) t own ∙ ap (option_map (with_clause (given_out s))) e)
    go (Some joint) e =
        let is = bound_in_table s.tables seat own joint t at e in
        let c = some_clause (fin.get (given_out s) joint) (given.bound_given seat own joint is) in
        ap (option_and_then (λ (joint : ℕ). option_map (λ (c : LiteralSet). record { joint = joint; clause = c }) (fin.get (live s) joint))) (found ∙ e)
        ∙ ap (option_map (λ (c : LiteralSet). record { joint = joint; clause = c })) (live-bound s seat own joint is ∙ c.1)
        ∙ sym (get-holdings (given_out s) t own ∙ ap (option_map (with_clause (given_out s))) e ∙ ap Some (with_clause-is (given_out s) joint c.0 c.1))

joint_is : (s : State) (seat : ℕ) (t : Table) → table_of s.tables seat ≡ Some t → (own : ℕ) → joint_of s.tables seat own ≡ option_map (λ (p : Pair). p.joint) (fin.get (holdings_of (given_out s) t) own)
joint_is s seat t at own =
    ap (option_and_then (λ (u : Table). fin.get u own)) at
    ∙ back (fin.get t own)
    ∙ sym (ap (option_map (λ (p : Pair). p.joint)) (get-holdings (given_out s) t own))
  where
    back : (o : Option ℕ) → o ≡ option_map (λ (p : Pair). p.joint) (option_map (with_clause (given_out s)) o)
    back None = refl
    back (Some joint) = refl

-- what a take answers, by whether the seat is there, the own number bound, and by what is found under own numbers
abbrev taken_by : ℕ → Addition → Bool → Bool → (ℕ → Option ℕ) → (ℕ → Option Pair) → Result CaseValue Refusal
taken_by seat a here bound joint pair =
    if here then
    (if bound then Err NumberTaken
    else case_with seat a (repeated_after joint [] a.groups) (pairs_of pair a.hints) (group_pairs_of pair a.groups))
    else Err SeatGone

-- the book answers a take as the seat's view decides
pub take_alone : (s : State) (seat : ℕ) (a : Addition) → IsGiven s → take_reply s seat a ≡ solo_take (view_of s seat) seat a
take_alone s seat a given = go (table_of s.tables seat) refl
  where
    go : (o : Option Table) → table_of s.tables seat ≡ o → take_reply s seat a ≡ solo_take (view_of s seat) seat a
    go None e =
        ap (λ (o : Option Table). taken_by seat a (is_some o) (is_bound s.tables seat a.number) (joint_of s.tables seat) (pair_in s.tables (live s) seat)) e
        ∙ sym (ap (λ (o : Option Table). solo_take (option_map (holdings_of (given_out s)) o) seat a) e)
    go (Some t) e =
        ap (λ (o : Option Table). taken_by seat a (is_some o) (is_bound s.tables seat a.number) (joint_of s.tables seat) (pair_in s.tables (live s) seat)) e
        ∙ (λ i. taken_by seat a true (bound i) (λ own. joint_is s seat t e own i) (λ own. pair_is s seat t given e own i))
        ∙ sym (ap (λ (o : Option Table). solo_take (option_map (holdings_of (given_out s)) o) seat a) e)
      where
        bound : is_bound s.tables seat a.number ≡ fin.contains_key (holdings_of (given_out s) t) a.number
        bound = ap (λ (o : Option Table). is_some (option_and_then (λ (u : Table). fin.get u a.number) o)) e ∙ sym (contains-holdings (given_out s) t a.number)

-- the first refusals are those that the seat's view decides
pub refusal_alone : (s : State) (seat own : ℕ) → free_refusal s seat own ≡ solo_refusal (view_of s seat) own
refusal_alone s seat own = go (table_of s.tables seat) refl
  where
    go : (o : Option Table) → table_of s.tables seat ≡ o → free_refusal s seat own ≡ solo_refusal (view_of s seat) own
    go None e =
        ap (λ (o : Option Table). if is_some o then (if is_bound s.tables seat own then Some NumberTaken else None) else Some SeatGone) e
        ∙ sym (ap (λ (o : Option Table). solo_refusal (option_map (holdings_of (given_out s)) o) own) e)
    go (Some t) e =
        ap (λ (o : Option Table). if is_some o then (if is_bound s.tables seat own then Some NumberTaken else None) else Some SeatGone) e
        ∙ ap (λ (b : Bool). if b then Some NumberTaken else None) (ap (λ (o : Option Table). is_some (option_and_then (λ (u : Table). fin.get u own) o)) e ∙ sym (contains-holdings (given_out s) t own))
        ∙ sym (ap (λ (o : Option Table). solo_refusal (option_map (holdings_of (given_out s)) o) own) e)

-- ---- what a case that was taken names

-- an own number that is bound to the pair
pub record IsHolding (h : Holdings) (p : Pair) : Type 0 where
  pub own : ℕ
  pub bound : fin.get h own ≡ Some p

abbrev pub AllHeld : Holdings → List Pair → Type 0
AllHeld h [] = Unit {0}
AllHeld h (p ∷ ps) = IsHolding h p × AllHeld h ps

pub AllHeld-take : (h : Holdings) (n : ℕ) (ps : List Pair) → AllHeld h ps → AllHeld h (take n ps)
AllHeld-take h n [] all = nothing n
  where
    nothing : (n : ℕ) → AllHeld h (take n [])
    nothing zero = tt
    nothing (suc n) = tt
AllHeld-take h zero (p ∷ ps) all = tt
AllHeld-take h (suc n) (p ∷ ps) all = (all.0, AllHeld-take h n ps all.1)

pub pairs_held : (h : Holdings) (owns : List ℕ) (ps : List Pair) → pairs_of (fin.get h) owns ≡ Ok ps → AllHeld h ps
pairs_held h [] ps e = let is : [] ≡ ps = cc in subst (AllHeld h) is tt
pairs_held h (own ∷ owns) ps e = go (fin.get h own) refl (pairs_of (fin.get h) owns) (pairs_held h owns) e
  where
    go : (o : Option Pair) → fin.get h own ≡ o → (r : Result (List Pair) Refusal) → ((qs : List Pair) → r ≡ Ok qs → AllHeld h qs) → if_known own o (λ p. with_pair p r) ≡ Ok ps → AllHeld h ps
    go None at r later e = absurd (cc)
    go (Some p) at (Err x) later e = absurd (cc)
    go (Some p) at (Ok qs) later e = let same : p ∷ qs ≡ ps = cc in subst (AllHeld h) same (record { own = own; bound = at }, later qs refl)

-- The own number is new to the holdings, and each pair is held.
abbrev pub IsFit : View → ℕ → List Pair → Type 0
IsFit None own pairs = ⊥
IsFit (Some h) own pairs = (fin.contains_key h own ≡ false) × AllHeld h pairs

-- the seat, the number and the lemma of a taken case, and that its own number is new and its hints are held
pub record IsTakenFrom (seat : ℕ) (a : Addition) (view : View) (c : CaseValue) : Type 0 where
  pub owner : c.seat ≡ seat
  pub number : c.own ≡ a.number
  pub lemma : c.lemma ≡ a.lemma
  pub fit : IsFit view c.own c.hints

pub case_parts : (seat : ℕ) (a : Addition) (h : Holdings) (c : CaseValue) → fin.contains_key h a.number ≡ false → solo_case h seat a ≡ Ok c → IsTakenFrom seat a (Some h) c
case_parts seat a h c free e = go (repeated_after (λ own. option_map (λ p. p.joint) (fin.get h own)) [] a.groups) (pairs_of (fin.get h) a.hints) refl (group_pairs_of (fin.get h) a.groups) e
  where
    go : (repeated : Option ℕ) (hints : Result (List Pair) Refusal) → pairs_of (fin.get h) a.hints ≡ hints → (groups : Result (List (Pair × List Pair)) Refusal) → case_with seat a repeated hints groups ≡ Ok c → IsTakenFrom seat a (Some h) c
    go repeated (Err x) at groups e = absurd (cc)
    go repeated (Ok hints) at (Err x) e = absurd (cc)
    go (Some own) (Ok hints) at (Ok groups) e = absurd (cc)
    go None (Ok hints) at (Ok groups) e =
        let is : case_of seat a.number a.lemma hints groups ≡ c = cc in
        subst (IsTakenFrom seat a (Some h)) is (record { owner = refl; number = refl; lemma = refl; fit = (free, pairs_held h a.hints hints at) })

pub take_fits : (seat : ℕ) (view : View) (a : Addition) (c : CaseValue) → solo_take view seat a ≡ Ok c → IsTakenFrom seat a view c
take_fits seat None a c e = absurd (cc)
take_fits seat (Some h) a c e =
    elim (fin.contains_key h a.number) as (λ b. fin.contains_key h a.number ≡ b → (if b then Err NumberTaken else solo_case h seat a) ≡ Ok c → IsTakenFrom seat a (Some h) c) [
      | true ↦ λ is g. absurd (cc)
      | false ↦ λ is g. case_parts seat a h c is g
    ] refl e
