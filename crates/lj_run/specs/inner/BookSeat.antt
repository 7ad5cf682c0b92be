-- A seat of a book that one thread has.
use Rattle.std.specs.Prelude.{◌≡◌, ℕ, true, false, List, [], ◌∷◌, ◌++◌, Option, Some, None, option_and_then}
use Rattle.std.proofs.Common.{refl, sym, ap, ◌∙◌, cond}
use Rattle.lj_text.specs.Lines.{Said}
use Rattle.lj_book.specs.Named.{NamedState}
use Rattle.lj_run.specs.Run.{state_after_lines, state_after_said, has_verdict}

-- The seat of this number led the book by these lines from one state to the other, and has the number still.
abbrev pub LeadsOn : ℕ → NamedState → List Said → ℕ → NamedState → Type 0
LeadsOn seat s lines seat' t = (state_after_lines seat s lines ≡ Some t) × (seat' ≡ seat)

pub no_lead : (seat : ℕ) (s : NamedState) → LeadsOn seat s [] seat s
no_lead seat s = (refl, refl)

-- further lines, from the state that the others left
pub after_both : (seat : ℕ) (s t : NamedState) (u : Option NamedState) (front rest : List Said)
    → state_after_lines seat s front ≡ Some t → state_after_lines seat t rest ≡ u
    → state_after_lines seat s (front ++ rest) ≡ u
after_both seat s t u [] rest first then = let same : s ≡ t = cc in ap (λ r. state_after_lines seat r rest) same ∙ then
after_both seat s t u (x ∷ xs) rest first then =
    elim (has_verdict s) as (λ b. cond b None (option_and_then (λ r. state_after_lines seat r xs) (state_after_said seat s x.says)) ≡ Some t
    → cond b None (option_and_then (λ r. state_after_lines seat r (xs ++ rest)) (state_after_said seat s x.says)) ≡ u) [
      | true ↦ λ is. cc
      | false ↦ λ is. elim (state_after_said seat s x.says) as (λ o. option_and_then (λ r. state_after_lines seat r xs) o ≡ Some t → option_and_then (λ r. state_after_lines seat r (xs ++ rest)) o ≡ u) [
        | None ↦ λ none. cc
        | Some r ↦ λ later. after_both seat r t u xs rest later then
      ] is
    ] first

pub leads_further : (seat seat' seat'' : ℕ) (s t u : NamedState) (front rest : List Said) → LeadsOn seat s front seat' t
    → LeadsOn seat' t rest seat'' u → LeadsOn seat s (front ++ rest) seat'' u
leads_further seat seat' seat'' s t u front rest first then =
    (after_both seat s t (Some u) front rest first.0 (ap (λ n. state_after_lines n t rest) (sym first.1) ∙ then.0), then.1 ∙ first.1)
