-- What another seat does leaves what a seat sees.
use Rattle.std.proofs.Common.{◌≡◌, ap, refl, sym, ◌∙◌, subst, ℕ, ◌<◌, false}
use Rattle.std.specs.Prelude.{◌≢◌, Option}
use Rattle.std.proofs.lemmas.Bool.{ne_eqb}
use Rattle.lj_clause.specs.Renaming.{inverse}
use Rattle.lj_text.specs.declared.step.Step.{Step}
use Rattle.lj_book.specs.declared.entry.Call.{Call}
use Rattle.lj_book.specs.declared.entry.Call.TheVariants as calls
use Rattle.lj_book.specs.State.{State}
use Rattle.lj_book.specs.History.{IsLegalCall}
use Rattle.lj_book.specs.Solo.{view_of}
use Rattle.lj_book.specs.Variables.{renaming_of}
use Rattle.lj_book.specs.Named.{NamedState, top_of, call_image, beneath, variables_behind, entry_beneath}
use Rattle.lj_book.specs.NamedViews.{view_image}
use Rattle.lj_book.specs.PrivateAdditions.{OthersLeaveViews}
use Rattle.lj_book.proofs.TableLaws.{here_in_range}
use Rattle.lj_book.proofs.HistoryLaws.{IsSound-reached}
use Rattle.lj_book.proofs.SoloStates.{IsGiven-sound}
use Rattle.lj_book.proofs.ViewLaws.{view_follows}
use Rattle.lj_book.proofs.GivenLaws.{each_gives}
use Rattle.lj_book.proofs.NamedLaws.{Rules, rules_reached, beneath_after, beneath_is_reached}

-- a call of another seat leaves the seat's variables
names_stay : (s : NamedState) (caller seat : ℕ) (call : Call) (step : Option Step) → Rules s → seat ≢ caller
    → IsLegalCall (beneath s) caller (call_image (renaming_of (variables_behind s caller call) caller) call) step
    → renaming_of (variables_behind s caller call) seat ≡ renaming_of s.variables seat
names_stay s caller seat (calls.Add own lemma) step rules other legal =
    (each_gives (top_of s) s.variables caller lemma.clause rules.variables (subst (λ n. caller < n) (sym rules.seats) (here_in_range s.tables caller legal.here))).others seat other
names_stay s caller seat (calls.Drop numbers) step rules other legal = refl
names_stay s caller seat (calls.Adopt own joint) step rules other legal = refl
names_stay s caller seat (calls.Import own clause) step rules other legal = refl
names_stay s caller seat calls.Leave step rules other legal = refl

pub others_leave_views : OthersLeaveViews
others_leave_views s e seat reached legal other =
    let rules = rules_reached s reached in
    let names = names_stay s e.seat seat e.call e.step rules (λ same. other (sym same)) legal.legal in
    let view = ap (λ (t : State). view_of t seat) (beneath_after s rules e legal)
    ∙ view_follows (beneath s) (entry_beneath s e) seat (IsGiven-sound (beneath s) (IsSound-reached (beneath s) (beneath_is_reached s reached))) legal.legal false (ne_eqb e.seat seat other) in
    λ i. view_image (inverse (names i)) (view i)
