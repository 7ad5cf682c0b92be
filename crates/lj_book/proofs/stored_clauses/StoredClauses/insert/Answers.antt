use Rattle.std.proofs.Common.{◌≡◌, ap, sym, ◌∙◌, subst, ◌++◌, length}
use Rattle.std.specs.Prelude.{ℤ, List}
use Rattle.std.specs.FinMap as fin
use Rattle.lj_clause.specs.LiteralSet.{literals}
use Rattle.lj_book.specs.declared.lit_range.LitRange.{LitRange}
use Rattle.lj_book.specs.inner.Ranges.{Ranges, stored, AreRanges}
use Rattle.lj_book.proofs.Slots.{ok_then, either_way}
use Rattle.lj_book.proofs.RangeLaws.{places_stay, places_clause, placed_clause}
use Rattle.lj_book.proofs.stored_clauses.StoredClauses.insert.Goals as goal

pub invariant_of-self : goal.invariant_of-self
invariant_of-self c = λ q p e. subst (λ (xs : List ℤ). AreRanges xs c.self.inside.ranges) (sym c.in_err-extend_from_slice.ensures.items) c.self.invariant q p e

pub invariant_of-self-2 : goal.invariant_of-self-2
invariant_of-self-2 c =
    let ls : List ℤ = c.self.inside.lits.items in
    let m : Ranges = c.self.inside.ranges in
    let d = c.args.clause.now in
    let place : LitRange = record { start = c.len-start.result; count = length c.lits.result.now } in
    let start : c.len-start.result ≡ length ls = c.len-start.ensures ∙ c.self.inside.lits.ok.0 in
    let lits : c.extend_from_slice.new.self.items ≡ ls ++ literals d = c.in_ok-extend_from_slice.ensures.items ∙ ap (λ (xs : List ℤ). ls ++ xs) c.lits-2.ensures in
    λ q p e. either_way c.insert.result _ _ (AreRanges c.extend_from_slice.new.self.items c.insert.new.self) c.insert.ensures.ok c.insert.ensures.err
    (λ is. subst (λ (xs : List ℤ). AreRanges xs c.insert.new.self) (sym lits) (subst (AreRanges (ls ++ literals d)) (sym is) (places_clause ls m d c.args.number place c.self.invariant start (ap length c.lits.ensures))))
    (λ is. subst (λ (xs : List ℤ). AreRanges xs c.insert.new.self) (sym lits) (subst (AreRanges (ls ++ literals d)) (sym is) (places_stay ls (literals d) m c.self.invariant)))
    q p e

pub returns : goal.returns
returns c =
    let ls : List ℤ = c.self.inside.lits.items in
    let m : Ranges = c.self.inside.ranges in
    let d = c.args.clause.now in
    let place : LitRange = record { start = c.len-start.result; count = length c.lits.result.now } in
    let start : c.len-start.result ≡ length ls = c.len-start.ensures ∙ c.self.inside.lits.ok.0 in
    let lits : c.extend_from_slice.new.self.items ≡ ls ++ literals d = c.in_ok-extend_from_slice.ensures.items ∙ ap (λ (xs : List ℤ). ls ++ xs) c.lits-2.ensures in
    ok_then c.insert.result _ _ c.insert.ensures.ok (λ is.
    (λ i. stored (lits i) (is i))
    ∙ placed_clause ls m d c.args.number place c.self.invariant start (ap length c.lits.ensures)
    ∙ ap (λ p. fin.insert p c.args.number d) c.self.view_is)
