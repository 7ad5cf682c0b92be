-- What an entry leaves of the numbers that were given out, and of what is bound.
use Rattle.std.proofs.Common.{◌≡◌, ap, refl, sym, ◌∙◌, ℕ, ◌+◌, ◌<◌, Bool, cond, true, false, arith}
use Rattle.std.specs.Prelude.{List, [], ◌∷◌, ◌++◌, length, Option, Some, None, option_map, option_and_then, is_some, ◌==◌, unwrap_or}
use Rattle.std.specs.List.{cons_option}
use Rattle.std.proofs.lemmas.Bool.{false≢true}
use Rattle.std.proofs.lemmas.Bool.Decides.{nat_tests}
use Rattle.std.specs.Ordering.{nat_cmp, eq_by_cmp}
use Rattle.std.specs.Cmp.{nat_cmp_total, unsigned_tied}
use Rattle.std.specs.FinMap as fin
use Rattle.lj_clause.specs.LiteralSet.{LiteralSet, no_literals}
use Rattle.lj_clause.specs.ClauseMap.{ClauseMap, formula_map}
use Rattle.lj_text.specs.declared.step.Step.{Step}
use Rattle.lj_text.specs.declared.step.Step.TheVariants as steps
use Rattle.lj_text.specs.Needed.{additions, if_some}
use Rattle.lj_book.specs.declared.entry.Entry.{Entry}
use Rattle.lj_book.specs.Tables.{Table, Tables, table_of, joint_of, has_holder}
use Rattle.lj_book.specs.State.{State, steps_of, next, with_additions, given_out, live}
use Rattle.lj_book.specs.History.{after_entry}
use Rattle.lj_book.specs.Solo.{with_clause, holdings_of, view_of}
use Rattle.lj_book.proofs.HistoryLaws.{IsSound, get-live, steps_of-push, additions-append}
use Rattle.lj_book.proofs.SoloTables.{bound_has_holder, holdings-agree}

-- What each state keeps that events lead to: each joint number that is bound was given out, and none from the next on.
pub record IsGiven (s : State) : Type 0 where
  pub bound_given : (seat own joint : ℕ) → joint_of s.tables seat own ≡ Some joint → fin.contains_key (given_out s) joint ≡ true
  pub given_below : (n : ℕ) → fin.contains_key (given_out s) n ≡ true → n < next s

pub IsGiven-sound : (s : State) → IsSound s → IsGiven s
IsGiven-sound s sound = record {
  bound_given = λ seat own joint is. sound.held_given joint (bound_has_holder s.tables seat own joint is);
  given_below = sound.given_below;
}

-- each number that has a clause in the one map has that clause in the other
pub record Extends (p q : ClauseMap) : Type 0 where
  pub stays : (n : ℕ) (c : LiteralSet) → fin.get p n ≡ Some c → fin.get q n ≡ Some c

pub Extends-refl : (p : ClauseMap) → Extends p p
Extends-refl p = record { stays = λ n c e. e }

pub Extends-same : (p q : ClauseMap) → q ≡ p → Extends p q
Extends-same p q is = record { stays = λ n c e. ap (λ (m : ClauseMap). fin.get m n) is ∙ e }

pub Extends-trans : (p q r : ClauseMap) → Extends p q → Extends q r → Extends p r
Extends-trans p q r f g = record { stays = λ n c e. g.stays n c (f.stays n c e) }

pub some_clause : {X : Type 0} (o : Option X) → is_some o ≡ true → (x : X) × (o ≡ Some x)
some_clause None h = absurd (false≢true h)
some_clause (Some x) h = (x, refl)

pub contains-extends : (p q : ClauseMap) (n : ℕ) → Extends p q → fin.contains_key p n ≡ true → fin.contains_key q n ≡ true
contains-extends p q n f h = let c = some_clause (fin.get p n) h in ap is_some (f.stays n c.0 c.1)

pub with_clause-is : (p : ClauseMap) (n : ℕ) (c : LiteralSet) → fin.get p n ≡ Some c → with_clause p n ≡ record { joint = n; clause = c }
with_clause-is p n c e = ap (λ (o : Option LiteralSet). record { joint = n; clause = unwrap_or o no_literals }) e

pub with_clause-stays : (p q : ClauseMap) (n : ℕ) → Extends p q → fin.contains_key p n ≡ true → with_clause p n ≡ with_clause q n
with_clause-stays p q n f h = let c = some_clause (fin.get p n) h in with_clause-is p n c.0 c.1 ∙ sym (with_clause-is q n c.0 (f.stays n c.0 c.1))

-- ---- what an entry gives out

additions_joined : (p : ClauseMap) (xs ys : List Step) → with_additions p (xs ++ ys) ≡ with_additions (with_additions p xs) ys
additions_joined p [] ys = refl
additions_joined p (steps.Add a ∷ xs) ys = additions_joined (fin.insert p a.number a.lemma.clause) xs ys
additions_joined p (steps.Delete numbers ∷ xs) ys = additions_joined p xs ys

pub given_out-entry : (s : State) (e : Entry) → given_out (after_entry s e) ≡ with_additions (given_out s) (cons_option e.step [])
given_out-entry s e = ap (with_additions (formula_map s.formula)) (steps_of-push s.history e) ∙ additions_joined (formula_map s.formula) (steps_of s.history) (cons_option e.step [])

pub next-entry : (s : State) (e : Entry) → next (after_entry s e) ≡ next s + length (additions (cons_option e.step []))
next-entry s e =
    let more = ap (λ ss. length (additions ss)) (steps_of-push s.history e) ∙ additions-append (steps_of s.history) (cons_option e.step []) in
    omega arith

-- an entry without an addition
pub record AddsNothing (e : Entry) : Type 0 where
  pub additions_same : (p : ClauseMap) → with_additions p (cons_option e.step []) ≡ p

pub nothing_added : (ns : List ℕ) (p : ClauseMap) → with_additions p (cons_option (if_some ns) []) ≡ p
nothing_added [] p = refl
nothing_added (n ∷ ns) p = refl

pub given_out-same : (s : State) (e : Entry) → AddsNothing e → given_out (after_entry s e) ≡ given_out s
given_out-same s e none = given_out-entry s e ∙ none.additions_same (given_out s)

-- a number that wasn't given out is new
pub not_given : (s : State) → IsGiven s → fin.get (given_out s) (next s) ≡ None
not_given s given = go (fin.get (given_out s) (next s)) refl
  where
    go : (o : Option LiteralSet) → fin.get (given_out s) (next s) ≡ o → o ≡ None
    go None e = refl
    go (Some c) e = let low = given.given_below (next s) (ap is_some e) in absurd (omega arith)

pub Extends-insert : (p : ClauseMap) (n : ℕ) (c : LiteralSet) → fin.get p n ≡ None → Extends p (fin.insert p n c)
Extends-insert p n c none = record { stays = λ q d e. fin.get-insert nat_cmp_total p n c q ∙ go (eq_by_cmp nat_cmp q n) q d refl e }
  where
    same_number : (q : ℕ) → eq_by_cmp nat_cmp q n ≡ true → q ≡ n
    same_number q e = let f : (q == n) ≡ true = sym (unsigned_tied q n) ∙ e in grind (arith, nat_tests)

    go : (b : Bool) (q : ℕ) (d : LiteralSet) → eq_by_cmp nat_cmp q n ≡ b → fin.get p q ≡ Some d → cond b (Some c) (fin.get p q) ≡ Some d
    go true q d is e = absurd (false≢true (sym (ap is_some none) ∙ ap (λ (k : ℕ). is_some (fin.get p k)) (sym (same_number q is)) ∙ ap is_some e))
    go false q d is e = e

-- ---- what lives

-- a number that is held lives with the clause that was given out under it
pub live-bound : (s : State) (seat own joint : ℕ) → joint_of s.tables seat own ≡ Some joint → fin.get (live s) joint ≡ fin.get (given_out s) joint
live-bound s seat own joint is = get-live s joint ∙ ap (λ b. cond b (fin.get (given_out s) joint) None) (bound_has_holder s.tables seat own joint is)

-- what lives was given out
pub live-given : (s : State) (joint : ℕ) (c : LiteralSet) → fin.get (live s) joint ≡ Some c → fin.get (given_out s) joint ≡ Some c
live-given s joint c e = go (has_holder s.tables joint) (sym (get-live s joint) ∙ e)
  where
    go : (b : Bool) → cond b (fin.get (given_out s) joint) None ≡ Some c → fin.get (given_out s) joint ≡ Some c
    go true h = h
    go false h = absurd (false≢true (ap is_some h))

-- ---- the view of a seat whose table stays

pub bound_in_table : (ts : Tables) (seat own joint : ℕ) (t : Table) → table_of ts seat ≡ Some t → fin.get t own ≡ Some joint → joint_of ts seat own ≡ Some joint
bound_in_table ts seat own joint t at e = ap (option_and_then (λ (u : Table). fin.get u own)) at ∙ e

pub agree_at : (s : State) (q : ClauseMap) (seat : ℕ) (t : Table) → IsGiven s → Extends (given_out s) q → table_of s.tables seat ≡ Some t → (own joint : ℕ) → fin.get t own ≡ Some joint → with_clause (given_out s) joint ≡ with_clause q joint
agree_at s q seat t given more at own joint e =
    with_clause-stays (given_out s) q joint more (given.bound_given seat own joint (bound_in_table s.tables seat own joint t at e))

pub view-same : (s s' : State) (seat : ℕ) → IsGiven s → Extends (given_out s) (given_out s') → table_of s'.tables seat ≡ table_of s.tables seat → view_of s' seat ≡ view_of s seat
view-same s s' seat given more same = go (table_of s.tables seat) refl
  where
    go : (o : Option Table) → table_of s.tables seat ≡ o → view_of s' seat ≡ view_of s seat
    go None e = ap (option_map (holdings_of (given_out s'))) (same ∙ e) ∙ sym (ap (option_map (holdings_of (given_out s))) e)
    go (Some t) e =
        ap (option_map (holdings_of (given_out s'))) (same ∙ e)
        ∙ ap Some (sym (holdings-agree (given_out s) (given_out s') t (agree_at s (given_out s') seat t given more e)))
        ∙ sym (ap (option_map (holdings_of (given_out s))) e)
