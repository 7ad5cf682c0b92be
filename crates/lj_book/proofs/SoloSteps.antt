-- A seat's own event, answered as its solo object decides.
use Rattle.std.proofs.Common.{◌≡◌, ap, refl, sym, ◌∙◌, subst, ℕ}
use Rattle.std.specs.Prelude.{List, [], ◌∷◌, Option, Some, None, option_map, is_some}
use Rattle.std.proofs.lemmas.Bool.{false≢true}
use Rattle.std.specs.FinMap as fin
use Rattle.lj_clause.specs.LiteralSet.{LiteralSet}
use Rattle.lj_clause.specs.Propagation.{hints_in}
use Rattle.lj_clause.specs.ClauseMap.{ClauseMap}
use Rattle.lj_hint.specs.declared.pair.Pair.{Pair}
use Rattle.lj_hint.specs.Hints.{named_hints, numbers}
use Rattle.lj_book.specs.declared.event.Pending.{Pending}
use Rattle.lj_book.specs.declared.event.Pending.TheVariants as pendings
use Rattle.lj_book.specs.Tables.{Table, Tables, table_of, with_table, with_binding, without_keys}
use Rattle.lj_book.specs.State.{State, given_out, live}
use Rattle.lj_book.specs.History.{dead_numbers, after_entry}
use Rattle.lj_book.specs.Calls.{drop_entry}
use Rattle.lj_book.specs.Solo.{View, Solo, with_clause, holdings_of, without_holdings, view_of}
use Rattle.lj_book.proofs.TableLaws.{table_of-with_table}
use Rattle.lj_book.proofs.SoloTables.{get-holdings, holdings-insert, holdings-without}
use Rattle.lj_book.proofs.SoloStates.{IsGiven, Extends, some_clause, with_clause-is, live-bound, bound_in_table, agree_at, given_out-same, nothing_added}
use Rattle.lj_book.proofs.SoloTakes.{AllHeld, IsHolding, IsFit}

-- ---- the view after an event of the seat

pub view_is : (s : State) (seat : ℕ) (o : Option Table) → table_of s.tables seat ≡ o → view_of s seat ≡ option_map (holdings_of (given_out s)) o
view_is s seat o at = ap (option_map (holdings_of (given_out s))) at

pub view_bound : (s s' : State) (seat : ℕ) (t : Table) (own joint : ℕ) (c : LiteralSet) → IsGiven s → Extends (given_out s) (given_out s') → table_of s.tables seat ≡ Some t → s'.tables ≡ with_binding s.tables seat own joint → fin.get (given_out s') joint ≡ Some c → view_of s' seat ≡ Some (fin.insert (holdings_of (given_out s) t) own (record { joint = joint; clause = c }))
view_bound s s' seat t own joint c given more at is e =
    view_is s' seat (Some (fin.insert t own joint))
    (ap (λ (ts : Tables). table_of ts seat) is ∙ table_of-with_table (λ u. fin.insert u own joint) s.tables seat ∙ ap (option_map (λ (u : Table). fin.insert u own joint)) at)
    ∙ ap Some (holdings-insert (given_out s) (given_out s') t own joint c (agree_at s (given_out s') seat t given more at) e)

pub view_dropped : (s : State) (seat : ℕ) (numbers : List ℕ) (t : Table) → table_of s.tables seat ≡ Some t → view_of (after_entry s (drop_entry s seat numbers)) seat ≡ Some (without_holdings numbers (holdings_of (given_out s) t))
view_dropped s seat numbers t at =
    view_is (after_entry s (drop_entry s seat numbers)) seat (Some (without_keys numbers t))
    (table_of-with_table (without_keys numbers) s.tables seat ∙ ap (option_map (without_keys numbers)) at)
    ∙ ap (λ (p : ClauseMap). Some (holdings_of p (without_keys numbers t)))
    (given_out-same s (drop_entry s seat numbers) (record { additions_same = nothing_added (dead_numbers s (with_table (without_keys numbers) s.tables seat)) }))
    ∙ ap Some (holdings-without (given_out s) numbers t)

-- ---- commits

-- The own number of what is pending is new, and what it names is held.
abbrev pub IsReadyOf : View → Pending → Type 0
IsReadyOf v pendings.Nothing = Unit {0}
IsReadyOf v (pendings.Case c) = IsFit v c.own c.hints
IsReadyOf v (pendings.Receipt r) = IsFit v r.own r.listed

abbrev pub IsReady : Solo → Type 0
IsReady o = IsReadyOf o.view o.pending

lives_as : (s : State) (seat : ℕ) (t : Table) (p : Pair) → IsGiven s → table_of s.tables seat ≡ Some t → IsHolding (holdings_of (given_out s) t) p → fin.get (live s) p.joint ≡ Some p.clause
lives_as s seat t p given at holding = go (fin.get t holding.own) refl (sym (get-holdings (given_out s) t holding.own) ∙ holding.bound)
  where
    go : (o : Option ℕ) → fin.get t holding.own ≡ o → option_map (with_clause (given_out s)) o ≡ Some p → fin.get (live s) p.joint ≡ Some p.clause
    go None e is = absurd (false≢true (ap is_some is))
    go (Some joint) e is =
        let bound = bound_in_table s.tables seat holding.own joint t at e in
        let c = some_clause (fin.get (given_out s) joint) (given.bound_given seat holding.own joint bound) in
        let pair : Pair = record { joint = joint; clause = c.0 } in
        let whole : with_clause (given_out s) joint ≡ p = cc in
        let same : pair ≡ p = sym (with_clause-is (given_out s) joint c.0 c.1) ∙ whole in
        subst (λ (q : Pair). fin.get (live s) q.joint ≡ Some q.clause) same (live-bound s seat holding.own joint bound ∙ c.1)

-- the hints that are held, as the book and as the case itself name them
pub held_named : (s : State) (seat : ℕ) (t : Table) (pairs : List Pair) → IsGiven s → table_of s.tables seat ≡ Some t → AllHeld (holdings_of (given_out s) t) pairs → hints_in (live s) (numbers pairs) ≡ named_hints pairs
held_named s seat t [] given at held = refl
held_named s seat t (p ∷ pairs) given at held = λ i. record { number = p.joint; clause = lives_as s seat t p given at held.0 i } ∷ held_named s seat t pairs given at held.1 i
