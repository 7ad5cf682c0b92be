use Rattle.std.proofs.Common.{◌≡◌, ap, sym, ◌∙◌, refl, ℕ, suc}
use Rattle.std.specs.Prelude.{ℤ, List, [], ◌∷◌, map, length, Option, Some, None, ◌==◌, cond, Bool, true, false}
use Rattle.std.specs.Bool.{then_some}
use Rattle.std.specs.FinMap as fin
use Rattle.lj_clause.specs.LiteralSet.{LiteralSet, literals}
use Rattle.lj_book.specs.inner.Kept.{refuted_after}
use Rattle.lj_book.proofs.committing.refuted_at.Goals as goal

length_first : {X Y : Type 0} (es : List (X × Y)) → length (map (λ e. e.0) es) ≡ length es
length_first [] = refl
length_first (e ∷ es) = ap suc (length_first es)

no_literal : (c : LiteralSet) → (length (literals c) == 0) ≡ (fin.len c == 0)
no_literal c = ap (λ (n : ℕ). n == 0) (length_first (fin.entries c) ∙ sym (fin.len-entries c))

then_is : (b : Bool) (n : ℕ) → then_some b n ≡ cond b (Some n) None
then_is true n = refl
then_is false n = refl

pub returns-in-None : goal.returns-in-None
returns-in-None c =
    c.then_some.ensures
    ∙ then_is c.is_empty.result c.args.place
    ∙ ap (λ b. cond b (Some c.args.place) None) (c.is_empty.ensures ∙ ap (λ (ls : List ℤ). length ls == 0) c.lits.ensures ∙ no_literal c.args.clause.now)
    ∙ ap (λ (o : Option ℕ). refuted_after o c.args.place c.args.clause.now) (sym c.in-None.is)
