-- What the test of a line tells of its recorded form.
use Rattle.std.proofs.Common.{◌≡◌, ap, refl, sym, ◌∙◌, ℕ, take, length}
use Rattle.std.specs.Prelude.{List, [], Result, Ok, Err}
use Rattle.lj_clause.specs.LiteralSet.{negations}
use Rattle.lj_clause.specs.ClauseMap.{ClauseMap}
use Rattle.lj_clause.specs.Propagation as propagations
use Rattle.lj_clause.specs.Propagation.{Propagation, hints_in}
use Rattle.lj_clause.specs.Rat.{HintGroup, groups_in}
use Rattle.lj_clause.proofs.PropagationLaws.{used-first}
use Rattle.lj_text.specs.declared.line.Addition.{Addition}
use Rattle.lj_text.specs.Steps.{first_propagation, recorded_after}
use Rattle.lj_hint.specs.declared.rat_refusal.RatRefusal.{RatRefusal}
use Rattle.lj_hint.specs.declared.live_line.Passed.TheVariants.{Closed}
use Rattle.lj_hint.specs.RatTest.{rat_reply}
use Rattle.lj_hint.specs.LineTest.{covered_reply, line_reply}
use Rattle.lj_book.specs.Calls.{unless_refused}
use Rattle.lj_book.specs.Inside.{propagation_refusal}
use Rattle.lj_book.specs.inner.JointLines.{tested_line}

-- the addition with so many hints, and no groups
abbrev pub cut : Addition → ℕ → Addition
cut a read = record a { hints = take read a.hints; groups = [] }

-- a line whose first list closed the propagation is recorded with the hints that were read
pub closed_line : (p : ClauseMap) (a : Addition) (read : ℕ) → line_reply p a.lemma.pivot a.groups (first_propagation p a) ≡ Ok (Closed read) → tested_line p a ≡ Ok (cut a read)
closed_line p a read h = go (first_propagation p a) refl h
  where
    not_covered : (r : Result (List HintGroup) RatRefusal) → covered_reply r ≡ Ok (Closed read) → ⊥
    not_covered (Ok groups) h = cc
    not_covered (Err e) h = cc

    go : (w : Propagation) → first_propagation p a ≡ w → line_reply p a.lemma.pivot a.groups w ≡ Ok (Closed read) → unless_refused (propagation_refusal p a w) (recorded_after p a w) ≡ Ok (cut a read)
    go (propagations.Closed used) is h =
        let count : length used ≡ read = cc in
        let first : take (length used) a.hints ≡ used = used-first p (negations a.lemma.clause) a.hints used is in
        let shortened : List ℕ → Addition = λ ns. record a { hints = ns; groups = [] } in
        ap (λ ns. Ok (shortened ns)) (sym first ∙ ap (λ (k : ℕ). take k a.hints) count)
    go (propagations.Open t) is h = absurd (not_covered (rat_reply p t a.lemma.pivot (groups_in p a.groups)) h)
    go (propagations.Stuck place) is h = absurd (let no : ⊥ = cc in no)
