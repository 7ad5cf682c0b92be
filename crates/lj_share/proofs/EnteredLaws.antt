-- Lines that are entered, one after the other.
use Rattle.std.proofs.Common.{◌≡◌, ap, refl, sym, ◌∙◌, subst, ℕ, ◌+◌}
use Rattle.std.specs.Prelude.{List, [], ◌∷◌, ◌++◌, map, take, drop, Some, slice_get}
use Rattle.std.proofs.lemmas.List.{append_assoc, append-nil}
use Rattle.lj_share.specs.declared.numbered.Numbered.{Numbered}
use Rattle.lj_share.specs.Entered.{AreEntered, IsEntering}
use Rattle.lj_share.specs.Entries.{call_of}
use Rattle.lj_share.specs.Seats.{SeatValue}
use Rattle.lj_share.proofs.AheadLaws.{behind, behind_is, take_next, take_plus}

both : (s m t : SeatValue) (ls rs : List Numbered) → AreEntered s ls m → AreEntered m rs t → AreEntered s (ls ++ rs) t
both s m t [] rs first later = subst (λ (x : SeatValue). AreEntered x rs t) first later
both s m t (l ∷ ls) rs first later = (first.0, (first.1.0, both first.0 m t ls rs first.1.1 later))

-- one line more
pub entered_next : (s m t : SeatValue) (ls : List Numbered) (k : ℕ) (l : Numbered) → slice_get ls k ≡ Some l → AreEntered s (take k ls) m → IsEntering l m t → AreEntered s (take (k + 1) ls) t
entered_next s m t ls k l at first one =
    subst (λ (xs : List Numbered). AreEntered s xs t) (sym (take_next ls k l at)) (both s m t (take k ls) (l ∷ []) first (t, (one, refl)))

-- more lines
pub entered_plus : (s m t : SeatValue) (ls : List Numbered) (a b : ℕ) → AreEntered s (take a ls) m → AreEntered m (take b (behind ls a)) t → AreEntered s (take (a + b) ls) t
entered_plus s m t ls a b first later =
    subst (λ (xs : List Numbered). AreEntered s xs t) (take_plus ls a b)
    (both s m t (take a ls) (take b (drop a ls)) first (subst (λ (xs : List Numbered). AreEntered m (take b xs) t) (behind_is ls a) later))

-- no line
pub entered_none : (s t : SeatValue) (ls : List Numbered) → t ≡ s → AreEntered s (take 0 ls) t
entered_none s t [] is = is
entered_none s t (l ∷ ls) is = is

-- ---- what the seat is then

pub number_entered : (s t : SeatValue) (ls : List Numbered) → AreEntered s ls t → t.number ≡ s.number
number_entered s t [] is = ap (λ (v : SeatValue). v.number) is
number_entered s t (l ∷ ls) is = number_entered is.0 t ls is.1.1 ∙ is.1.0.made.number_is

pub calls_entered : (s t : SeatValue) (ls : List Numbered) → AreEntered s ls t → t.calls ≡ s.calls ++ map (λ l. call_of l.line) ls
calls_entered s t [] is = ap (λ (v : SeatValue). v.calls) is ∙ sym (append-nil s.calls)
calls_entered s t (l ∷ ls) is =
    calls_entered is.0 t ls is.1.1
    ∙ ap (λ cs. cs ++ map (λ (x : Numbered). call_of x.line) ls) is.1.0.made.calls_are
    ∙ append_assoc s.calls (call_of l.line ∷ []) (map (λ (x : Numbered). call_of x.line) ls)
