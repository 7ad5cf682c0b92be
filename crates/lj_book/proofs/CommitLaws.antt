-- What a commit enters.
use Rattle.std.proofs.Common.{◌≡◌, ap, refl, sym, ◌∙◌, subst, ◌<◌, true, false}
use Rattle.std.specs.Prelude.{List, [], ◌∷◌, Option, Some, None, not, ◌||◌, if◌then◌else◌, is_some}
use Rattle.std.proofs.lemmas.Bool.{false≢true, and_from}
use Rattle.std.specs.FinMap as fin
use Rattle.lj_clause.specs.LiteralSet.{LiteralSet, negations}
use Rattle.lj_clause.specs.ClauseMap.{ClauseMap}
use Rattle.lj_clause.specs.Propagation.{Propagation, Closed, hints_in, propagate_over, is_closed}
use Rattle.lj_text.specs.declared.line.Addition.{Addition}
use Rattle.lj_text.specs.Steps.{names_all, names, is_in_place, first_propagation, is_rat_after, IsRecordedAfter}
use Rattle.lj_hint.specs.declared.pair.Pair.{Pair}
use Rattle.lj_hint.specs.Hints.{named_hints, numbers}
use Rattle.lj_hint.specs.Receipt.{ReceiptValue, IsReceipt}
use Rattle.lj_book.specs.Tables.{is_here, is_bound, has_holder}
use Rattle.lj_book.specs.State.{State, addition_count, next, live}
use Rattle.lj_book.specs.History.{IsLegal}
use Rattle.lj_book.specs.Lookup.{is_clause}
use Rattle.lj_book.specs.Calls.{is_live_as}
use Rattle.lj_book.specs.inner.Commits.{first_stale, commit_entry}
use Rattle.lj_book.proofs.Parts.{same_clauses}
use Rattle.lj_book.proofs.HistoryLaws.{IsSound, live-held, not_there}

-- ---- the listed clauses, where none is stale

live_as : (p : ClauseMap) (pair : Pair) → is_live_as p pair ≡ true → fin.get p pair.joint ≡ Some pair.clause
live_as p pair h = go (fin.get p pair.joint) h
  where
    go : (o : Option LiteralSet) → is_clause pair.clause o ≡ true → o ≡ Some pair.clause
    go None h = absurd (false≢true h)
    go (Some d) h = ap Some (sym (same_clauses pair.clause d h))

record AllLive (p : ClauseMap) (pairs : List Pair) : Type 0 where
  hints : hints_in p (numbers pairs) ≡ named_hints pairs
  names : names_all p (numbers pairs) ≡ true

all_live : (p : ClauseMap) (pairs : List Pair) → first_stale p pairs ≡ None → AllLive p pairs
all_live p [] h = record { hints = refl; names = refl }
all_live p (pair ∷ pairs) h =
    elim (is_live_as p pair) as (λ b. is_live_as p pair ≡ b → (if b then first_stale p pairs else Some pair.joint) ≡ None → AllLive p (pair ∷ pairs)) [
      | true ↦ λ e g.
          let rest = all_live p pairs g in
          let here = live_as p pair e in
          record {
            hints = λ i. record { number = pair.joint; clause = here i } ∷ rest.hints i;
            names = and_from (names p pair.joint) (names_all p (numbers pairs)) (ap is_some here) rest.names;
          }
      | false ↦ λ e g. absurd (false≢true (sym (ap is_some g)))
    ] refl h

-- a commit that isn't refused
pub record CanCommit (s : State) (r : ReceiptValue) : Type 0 where
  pub here : is_here s.tables r.seat ≡ true
  pub unbound : is_bound s.tables r.seat r.own ≡ false
  pub fresh : first_stale (live s) r.listed ≡ None
  pub capacity : addition_count s.history < s.max_steps

-- ---- the entry of a commit is legal

pub no_holder_at_next : (s : State) → IsSound s → has_holder s.tables (next s) ≡ false
no_holder_at_next s sound = sym (live-held s sound (next s)) ∙ not_there s sound

pub commit_legal : (s : State) (r : ReceiptValue) → IsSound s → IsReceipt r → CanCommit s r → IsLegal s (commit_entry s r)
commit_legal s r sound receipt can =
    let lives = all_live (live s) r.listed can.fresh in
    let a : Addition = record { number = next s; lemma = r.lemma; hints = numbers r.listed; groups = [] } in
    let closed : first_propagation (live s) a ≡ Closed (numbers r.listed) = ap (propagate_over (negations r.lemma.clause)) lives.hints ∙ receipt in
    let stored : is_in_place (live s) a ≡ true =
    and_from (not (names (live s) (next s))) _ (ap not (not_there s sound)) (and_from (names_all (live s) (numbers r.listed)) true lives.names refl) in
    let rup : (is_closed (first_propagation (live s) a) || is_rat_after (live s) a (first_propagation (live s) a)) ≡ true = ap (λ (w : Propagation). is_closed w || is_rat_after (live s) a w) closed in
    record {
      here = can.here;
      unbound = can.unbound;
      capacity = can.capacity;
      addition = (refl, (refl, (and_from (is_in_place (live s) a) _ stored rup, subst (IsRecordedAfter (live s) a) (sym closed) (refl, refl))));
    }
