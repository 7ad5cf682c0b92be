-- What a seat sees in its own variables, entry by entry, and what it decides alone.
use Rattle.std.proofs.Common.{◌≡◌, ap, refl, sym, ◌∙◌, subst, ℕ, zero, suc, ◌<◌, Bool, true, false, arith}
use Rattle.std.specs.Prelude.{List, [], ◌∷◌, ◌++◌, length, replicate, ◌==◌, Option, Some, None, option_map, option_and_then, if◌then◌else◌}
use Rattle.std.proofs.lemmas.List.{length-replicate}
use Rattle.std.proofs.lemmas.Bool.{eqb-true, eqb-false}
use Rattle.std.specs.Ordering.{nat_cmp}
use Rattle.std.specs.FinMap as fin
use Rattle.lj_clause.specs.ClauseMap.{formula_map}
use Rattle.lj_clause.specs.Renaming.{Renaming, inverse}
use Rattle.lj_clause.proofs.Renaming.{renaming_laws, inverse_gives}
use Rattle.lj_hint.specs.declared.pair.Pair.{Pair}
use Rattle.lj_hint.specs.Images.{pair_image}
use Rattle.lj_book.specs.declared.entry.Entry.{Entry}
use Rattle.lj_book.specs.Tables.{Table, table_of, up_to}
use Rattle.lj_book.specs.Solo.{Holdings, holdings_of}
use Rattle.lj_book.specs.Views.{formula_holdings}
use Rattle.lj_book.specs.Variables.{renaming_of, no_variables}
use Rattle.lj_book.specs.Named.{NamedState, beneath, entry_beneath, after_named, after_all_named, IsNamedLegal, AreNamedLegal, named_opening, IsNamedReached, has_variables_for}
use Rattle.lj_book.specs.NamedViews.{holdings_image, view_image, named_view, addition_beneath}
use Rattle.lj_book.specs.NamedInside.{if_left}
use Rattle.lj_book.specs.NamedAlone.{named_after_call, NamedViewsFollowEntries, NamedSeatsHoldTheFormula, NamedDecidedAlone}
use Rattle.lj_book.proofs.NumberMaps.{same_map}
use Rattle.lj_book.proofs.SoloTables.{same_holdings}
use Rattle.lj_book.proofs.ViewLaws.{seats_after, decided}
use Rattle.lj_book.proofs.VariableLaws.{none_is_some, nothing-replicate}
use Rattle.lj_book.proofs.NamedLaws.{beneath_is_reached}
use Rattle.lj_book.proofs.NamedTakes.{get-holdings_image}
use Rattle.lj_book.proofs.DecidedBeneath.{decided_so}
use Rattle.lj_book.proofs.OtherViews.{others_leave_views}
use Rattle.lj_book.proofs.NamedInsideLaws.{replies_are_beneath}
use Rattle.lj_book.proofs.NamedSoloViews.{sees_behind}

-- ---- an entry that leads from one reached state to another is legal

seats_after_all : (s : NamedState) (es : List Entry) → length (after_all_named s es).tables ≡ length s.tables
seats_after_all s [] = refl
seats_after_all s (e ∷ es) = seats_after_all (after_named s e) es ∙ seats_after (beneath s) e.seat (entry_beneath s e).call

seats_reached : (s : NamedState) (r : IsNamedReached s) → length s.tables ≡ r.seats
seats_reached s r =
    sym (ap (λ (t : NamedState). length t.tables) r.leads)
    ∙ seats_after_all (named_opening s.formula r.seats s.max_steps) s.history
    ∙ length-replicate r.seats (Some (up_to (length s.formula.clauses)))

last_legal : (s : NamedState) (es : List Entry) (e : Entry) → AreNamedLegal s (es ++ e ∷ []) → IsNamedLegal (after_all_named s es) e
last_legal s [] e legal = legal.0
last_legal s (x ∷ es) e legal = last_legal (after_named s x) es e legal.1

named_legal_entry : (s : NamedState) (e : Entry) → IsNamedReached s → IsNamedReached (after_named s e) → IsNamedLegal s e
named_legal_entry s e r later =
    let same : later.seats ≡ r.seats = sym (seats_reached (after_named s e) later) ∙ seats_after (beneath s) e.seat (entry_beneath s e).call ∙ seats_reached s r in
    let legal : AreNamedLegal (named_opening s.formula r.seats s.max_steps) (s.history ++ e ∷ []) =
    subst (λ (n : ℕ). AreNamedLegal (named_opening s.formula n s.max_steps) (s.history ++ e ∷ [])) same later.legal in
    subst (λ (t : NamedState). IsNamedLegal t e) r.leads (last_legal (named_opening s.formula r.seats s.max_steps) s.history e legal)

-- ---- what a seat sees behind an entry

pub views_follow : NamedViewsFollowEntries
views_follow s e seat is reached later = by (e.seat == seat) refl
  where
    legal : IsNamedLegal s e
    legal = named_legal_entry s e reached later

    by : (b : Bool) → (e.seat == seat) ≡ b → named_view (after_named s e) seat ≡ (if b then option_and_then (named_after_call s seat e.call) (named_view s seat) else named_view s seat)
    by true own =
        subst (λ (k : ℕ). named_view (after_named s e) k ≡ option_and_then (named_after_call s k e.call) (named_view s k))
        (eqb-true e.seat seat own) (sees_behind s is reached e legal)
    by false other = others_leave_views s e seat reached legal (eqb-false e.seat seat other)

-- ---- what a seat sees at the opening

-- the seat has no variable to rename back
no_names : (top seats seat : ℕ) → inverse (renaming_of (no_variables top seats) seat) ≡ fin.empty
no_names top seats seat = same_map _ _ (λ y. by y (fin.get (inverse m) y) refl ∙ sym (fin.get-empty nat_cmp y))
  where
    m : Renaming
    m = renaming_of (no_variables top seats) seat

    by : (y : ℕ) (o : Option ℕ) → fin.get (inverse m) y ≡ o → fin.get (inverse m) y ≡ None
    by y None e = e
    by y (Some x) e = none_is_some _ y (nothing-replicate seats seat x) (inverse_gives m x y e)

pair_same : (o : Option Pair) → option_map (pair_image fin.empty) o ≡ o
pair_same None = refl
pair_same (Some p) = λ i. Some (record { joint = p.joint; clause = renaming_laws.nothing p.clause i })

holdings_same : (h : Holdings) → holdings_image fin.empty h ≡ h
holdings_same h = same_holdings _ _ (λ q. get-holdings_image fin.empty h q ∙ pair_same (fin.get h q))

table_at : (seats : ℕ) (t : Option Table) (seat : ℕ) → seat < seats → table_of (replicate seats t) seat ≡ t
table_at zero t seat within = absurd (omega arith)
table_at (suc seats) t zero within = refl
table_at (suc seats) t (suc seat) within = table_at seats t seat (omega arith)

pub seats_hold_the_formula : NamedSeatsHoldTheFormula
seats_hold_the_formula f seats max_steps seat within =
    ap (view_image (inverse (renaming_of (no_variables f.variables seats) seat)))
    (ap (option_map (holdings_of (formula_map f))) (table_at seats (Some (up_to (length f.clauses))) seat within))
    ∙ ap (λ (m : Renaming). Some (holdings_image m (formula_holdings f))) (no_names f.variables seats seat)
    ∙ ap Some (holdings_same (formula_holdings f))

-- ---- what a seat decides alone

pub decided_alone : NamedDecidedAlone
decided_alone s seat a e is reached refuses =
    replies_are_beneath s seat a
    ∙ ap (if_left (has_variables_for s seat a.lemma.clause))
    (decided (beneath s) seat (addition_beneath s seat a) e (beneath_is_reached s reached) (sym (decided_so s seat a is reached) ∙ refuses))
