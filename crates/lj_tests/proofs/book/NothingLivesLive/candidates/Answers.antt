-- The empty map has no entries.
use Rattle.std.proofs.Common.{◌≡◌, ℕ, List, [], ◌∷◌, length, map, ap, sym, refl, ◌∙◌, nat_cmp}
use Rattle.std.specs.List.{filter}
use Rattle.std.specs.FinMap as fin
use Rattle.lj_clause.specs.LiteralSet.{LiteralSet, holds}
use Rattle.lj_tests.proofs.book.NothingLivesLive.candidates.Goals as goal

no_entries : {X : Type 0} (es : List X) → length es ≡ 0 → es ≡ []
no_entries [] e = refl
no_entries (x ∷ xs) e = absurd cc

entries-empty : {X : Type 0} → fin.entries (fin.empty {X = X} {R = nat_cmp}) ≡ []
entries-empty {X} = no_entries _ (sym (fin.len-entries (fin.empty {X = X} {R = nat_cmp})) ∙ fin.len-empty nat_cmp X)

pub returns : goal.returns
returns c = c.new.ensures.items ∙ sym (ap (λ es. map (λ (e : ℕ × LiteralSet). e.0) (filter (λ (e : ℕ × LiteralSet). holds e.1 c.args._lit) es)) entries-empty)
