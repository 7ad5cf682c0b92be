-- What a seat sees of a clause that it adopted.
use Rattle.std.proofs.Common.{◌≡◌, ℕ, Bool, Option, None, Some, true, false, refl, sym, ap, ◌∙◌, subst}
use Rattle.std.specs.Prelude.{if◌then◌else◌, option_and_then, Result, Ok, Err, is_ok, unwrap_or}
use Rattle.std.specs.FinMap as fin
use Rattle.std.proofs.lemmas.Bool.{eq-eqb, false≢true}
use Rattle.lj_clause.specs.LiteralSet.{LiteralSet, no_literals}
use Rattle.lj_clause.specs.ClauseMap.{IsFormula}
use Rattle.lj_clause.specs.Renaming.{image, inverse}
use Rattle.lj_book.specs.declared.entry.Call.TheVariants as calls
use Rattle.lj_book.specs.declared.refusal.Refusal.{Refusal}
use Rattle.lj_book.specs.declared.refusal.Refusal.TheVariants.{PrivateVariable}
use Rattle.lj_book.specs.Variables.{is_own}
use Rattle.lj_book.specs.State.{live}
use Rattle.lj_book.specs.Calls.{adopt_entry}
use Rattle.lj_book.specs.Solo.{View}
use Rattle.lj_book.specs.Named.{NamedState, IsNamedReached, after_named, beneath, names_of, top_of}
use Rattle.lj_book.specs.NamedViews.{named_view}
use Rattle.lj_book.specs.NamedAlone.{NamedViewsFollowEntries, clause_for, clause_seen_by, named_after_call}
use Rattle.lj_share.specs.Seats.{SeatValue, seat_of_book, with_bound}

-- the clause that lives under a joint number, in the seat's variables
abbrev own_form : NamedState → ℕ → Option LiteralSet → LiteralSet
own_form s seat o = image (inverse (names_of s seat)) (unwrap_or o no_literals)

-- what is told of it is that clause
told_form : (s : NamedState) (seat : ℕ) (o : Option LiteralSet) (c : LiteralSet) → clause_seen_by s seat o ≡ Ok c → own_form s seat o ≡ c
told_form s seat None c is = absurd (false≢true (ap is_ok is))
told_form s seat (Some d) c is = by (is_own (top_of s) s.variables seat d) (own_form s seat (Some d)) is
  where
    told : Result LiteralSet Refusal → LiteralSet
    told (Ok x) = x
    told (Err e) = no_literals

    by : (own : Bool) (x : LiteralSet) → (if own then Ok x else Err PrivateVariable) ≡ Ok c → x ≡ c
    by true x at = ap told at
    by false x at = absurd (false≢true (ap is_ok at))

-- the view behind an adoption
pub adopted_view : NamedViewsFollowEntries → (s t : NamedState) (seat own joint : ℕ) (c : LiteralSet) (v w : SeatValue) → IsFormula s.formula → IsNamedReached s → IsNamedReached t → t ≡ after_named s (adopt_entry seat own joint) → seat ≡ v.number → seat_of_book s v.number ≡ v → w ≡ seat_of_book t v.number → clause_for s seat joint ≡ Ok c
    → w.view ≡ with_bound own joint c v.view
adopted_view views s t seat own joint c v w formula reached next is same before after told =
    let behind : named_view (after_named s (adopt_entry seat own joint)) seat ≡ option_and_then (named_after_call s seat (calls.Adopt own joint)) (named_view s seat) =
    views s (adopt_entry seat own joint) seat formula reached (subst IsNamedReached is next)
    ∙ ap (λ (b : Bool). if b then option_and_then (named_after_call s seat (calls.Adopt own joint)) (named_view s seat) else named_view s seat) (eq-eqb seat seat refl) in
    ap (λ (x : SeatValue). x.view) after
    ∙ ap (named_view t) (sym same)
    ∙ ap (λ (u : NamedState). named_view u seat) is
    ∙ behind
    ∙ ap (option_and_then (named_after_call s seat (calls.Adopt own joint))) (ap (named_view s) same ∙ ap (λ (x : SeatValue). x.view) before)
    ∙ bound v.view
  where
    bound : (u : View) → option_and_then (named_after_call s seat (calls.Adopt own joint)) u ≡ with_bound own joint c u
    bound None = refl
    bound (Some h) = ap (λ (x : LiteralSet). Some (fin.insert h own (record { joint = joint; clause = x }))) (told_form s seat (fin.get (live (beneath s)) joint) c told)
