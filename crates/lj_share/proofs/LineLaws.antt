-- What a seat's line leaves of its book and its seat, where it is accepted.
use Rattle.std.proofs.Common.{◌≡◌, ℕ, Bool, true, false, refl, sym, subst, ◌∙◌}
use Rattle.std.specs.Prelude.{Option, Some, None, IsSomeAnd, if◌then◌else◌}
use Rattle.lj_clause.specs.ClauseMap.{IsFormula}
use Rattle.lj_text.specs.declared.line.Line.{Line}
use Rattle.lj_text.specs.declared.line.Line.TheVariants as lines
use Rattle.lj_book.specs.declared.entry.Call.{Call}
use Rattle.lj_book.specs.declared.entry.Entry.{Entry}
use Rattle.lj_book.specs.Named.{NamedState, IsNamedReached, after_named}
use Rattle.lj_book.specs.NamedViews.{named_view}
use Rattle.lj_book.specs.NamedAlone.{NamedDecidedAlone, NamedFreeAlone, NamedViewsFollowEntries}
use Rattle.lj_share.specs.Entries.{IsEntryOf, call_of}
use Rattle.lj_share.specs.Refusals.{line_refusal}
use Rattle.lj_share.specs.Seats.{IsMaking, SeatValue, seat_of_book}
use Rattle.lj_share.specs.inner.Lines.{IsJointOf, accepts_line, seat_line_entry}
use Rattle.lj_share.specs.declared.seat.Unlocked.{Unlocked}
use Rattle.lj_share.specs.inner.Seats.{IsTestedAs, view_behind}
use Rattle.lj_share.specs.inner.WithEntry.{IsTokenOf}
use Rattle.lj_share.proofs.FreeLaws.{free_added, free_bound, free_here}
use Rattle.lj_share.proofs.Opened.{HasFound, added_in, dropped_in, imported_in, made_in}

-- the entry is the seat's
pub line_seat : (s : NamedState) (seat : ℕ) (line : Line) → (seat_line_entry s seat line).seat ≡ seat
line_seat s seat (lines.Add a) = refl
line_seat s seat (lines.Delete numbers) = refl
line_seat s seat (lines.Import own clause) = refl

-- and its call is the line's
line_call : (s : NamedState) (seat : ℕ) (line : Line) → (seat_line_entry s seat line).call ≡ call_of line
line_call s seat (lines.Add a) = refl
line_call s seat (lines.Delete numbers) = refl
line_call s seat (lines.Import own clause) = refl

line_found : (s : NamedState) (seat : ℕ) (line : Line) (joint : ℕ) → IsJointOf s seat line joint → HasFound s (seat_line_entry s seat line).seat (seat_line_entry s seat line).call
line_found s seat (lines.Add a) joint is = tt
line_found s seat (lines.Delete numbers) joint is = tt
line_found s seat (lines.Import own clause) joint is = (joint, is)

-- what the seat's view shows of the line, the book's shows
pub line_tested : (s : NamedState) (seat : ℕ) (line : Line) (unlocked : Unlocked) (v : SeatValue) → seat ≡ v.number → seat_of_book s v.number ≡ v → IsTestedAs v.view v.number line unlocked → IsTestedAs (named_view s seat) seat line unlocked
line_tested s seat line unlocked v same is tested =
    subst (λ (n : ℕ). IsTestedAs (named_view s n) n line unlocked) (sym same) (subst (λ (w : SeatValue). IsTestedAs w.view w.number line unlocked) (sym is) tested)

-- a copy that was asked for is a token's
pub line_token : (asked : Bool) (s : NamedState) (seat number : ℕ) (line : Line) (told : Option Entry) → seat ≡ number → told ≡ (if asked then Some (seat_line_entry s seat line) else None) → IsTokenOf asked number (call_of line) told
line_token true s seat number line told same is =
    subst (λ (o : Option Entry). IsSomeAnd o (IsEntryOf number (call_of line))) (sym is) (record { seat_is = line_seat s seat line ∙ same; call_is = line_call s seat line })
line_token false s seat number line told same is = is

-- one call more
pub line_made : NamedViewsFollowEntries → (s t : NamedState) (seat joint : ℕ) (line : Line) (v u w : SeatValue) → IsFormula s.formula → IsNamedReached s → IsNamedReached t → seat ≡ u.number → t ≡ after_named s (seat_line_entry s seat line) → seat_of_book s v.number ≡ v → u ≡ v → w ≡ seat_of_book t u.number → IsJointOf s seat line joint → IsMaking (call_of line) v w
line_made views s t seat joint line v u w formula reached onward same is before kept after found =
    subst (λ (c : Call). IsMaking c v w) (line_call s seat line)
    (made_in views s t (seat_line_entry s seat line) v u w formula reached onward (line_seat s seat line ∙ same) is before kept after (line_found s seat line joint found))

-- what the seat sees then
pub line_view : NamedViewsFollowEntries → (s t : NamedState) (seat joint : ℕ) (line : Line) (v u w : SeatValue) → IsFormula s.formula → IsNamedReached s → IsNamedReached t → seat ≡ u.number → t ≡ after_named s (seat_line_entry s seat line) → seat_of_book s v.number ≡ v → u ≡ v → w ≡ seat_of_book t u.number → IsJointOf s seat line joint → w.view ≡ view_behind line joint v.view
line_view views s t seat joint (lines.Add a) v u w formula reached onward same is before kept after found =
    added_in views s t (seat_line_entry s seat (lines.Add a)) a.number a.lemma joint v u w formula reached onward same is before kept after refl found
line_view views s t seat joint (lines.Delete numbers) v u w formula reached onward same is before kept after found =
    dropped_in views s t (seat_line_entry s seat (lines.Delete numbers)) numbers v u w formula reached onward same is before kept after refl
line_view views s t seat joint (lines.Import own clause) v u w formula reached onward same is before kept after found =
    imported_in views s t (seat_line_entry s seat (lines.Import own clause)) own clause joint v u w formula reached onward same is before kept after refl found

-- what it saw refuses nothing
pub line_free : NamedDecidedAlone → NamedFreeAlone → (s : NamedState) (seat : ℕ) (line : Line) (v : SeatValue) → IsFormula s.formula → IsNamedReached s → seat ≡ v.number → seat_of_book s v.number ≡ v → accepts_line s seat line ≡ true → line_refusal v line ≡ None
line_free decided free s seat (lines.Add a) v formula reached same is accepted = free_added decided s seat a v formula reached same is accepted
line_free decided free s seat (lines.Delete numbers) v formula reached same is accepted = free_here free _ s seat v same is accepted
line_free decided free s seat (lines.Import own clause) v formula reached same is accepted = free_bound free _ _ s seat own v same is accepted
