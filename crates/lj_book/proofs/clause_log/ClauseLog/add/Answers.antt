use Rattle.std.proofs.Common.{◌≡◌, ap, sym, ◌∙◌, subst, ℕ, ◌+◌, ◌≤◌, ◌++◌, length, arith}
use Rattle.std.specs.Prelude.{ℤ, List}
use Rattle.std.specs.FinMap as fin
use Rattle.lj_clause.specs.LiteralSet.{LiteralSet}
use Rattle.lj_clause.specs.ClauseMap.{ClauseMap}
use Rattle.lj_text.specs.declared.line.Addition.{Addition}
use Rattle.lj_book.specs.inner.Records.{lemma_lits}
use Rattle.lj_book.specs.inner.FirstUses.{AreFirstUses}
use Rattle.lj_book.specs.inner.Occurrences.{AreListed}
use Rattle.lj_book.specs.inner.Ranges.{Ranges, stored, pivots, AreRanges, AreRecorded}
use Rattle.lj_book.proofs.OccurrenceLaws.{Indexed-none}
use Rattle.lj_book.proofs.RangeLaws.{placed_lemma, Recorded-add}
use Rattle.lj_book.proofs.clause_log.ClauseLog.add.Goals as goal

pub invariant_of-self-in-Err : goal.invariant_of-self-in-Err
invariant_of-self-in-Err c =
    let ls : List ℤ = c.self.inside.history.lits in
    let m : Ranges = c.self.inside.ranges in
    let kept : c.reserve_addition.new.self.lits ≡ ls = c.in_ok-reserve_addition.ensures.kept in
    record {
      ranges_are = subst (λ (xs : List ℤ). AreRanges xs c.insert.new.self) (sym kept) (subst (AreRanges ls) (sym c.in-Err.ensures.err) c.self.invariant.ranges_are);
      used = subst (λ (q : ClauseMap). AreFirstUses q c.self.inside.last c.self.inside.uses) (λ i. stored (sym kept i) (sym c.in-Err.ensures.err i)) c.self.invariant.used;
      indexed = Indexed-none c.self.inside.lists (stored ls m) _ c.self.inside.last c.self.invariant.indexed (λ i. stored (kept i) (c.in-Err.ensures.err i));
    }

pub invariant_of-self-then-step-self : goal.invariant_of-self-then-step-self
invariant_of-self-then-step-self c =
    let ls : List ℤ = c.self.inside.history.lits in
    let m : Ranges = c.self.inside.ranges in
    let lemma = c.args.step.now.lemma in
    let k : ℕ = c.step.inside.number in
    let kept : c.reserve_addition.new.self.lits ≡ ls = c.in_ok-reserve_addition.ensures.kept in
    let start : c.range_behind-range.result.start ≡ length ls + pivots lemma.pivot = c.range_behind-range.ensures.start ∙ ap (λ (xs : List ℤ). length xs + pivots lemma.pivot) (c.lits.ensures ∙ kept) in
    let lits : c.push_addition.new.self.lits ≡ ls ++ lemma_lits lemma = c.push_addition.ensures.lits ∙ ap (λ (xs : List ℤ). xs ++ lemma_lits lemma) kept in
    let listed = subst (λ (d : LiteralSet). AreListed c.list_clause.new.lists (fin.insert (stored ls m) k d) (k + 1)) (c.step.invariant ∙ ap (λ (a : Addition). a.lemma.clause) c.step.view_is) (c.list_clause.ensures (stored ls m) c.self.invariant.indexed.listed) in
    let used : (next : ℕ) → c.self.inside.last ≤ next → k ≤ next → AreFirstUses (fin.insert (stored ls m) k lemma.clause) next c.add_clause.new.self = λ next le there. subst (λ (d : LiteralSet). AreFirstUses (fin.insert (stored ls m) k d) next c.add_clause.new.self) (c.step.invariant ∙ ap (λ (a : Addition). a.lemma.clause) c.step.view_is) (c.add_clause.ensures (stored ls m) next c.self.invariant.used le there) in
    subst (λ (xs : List ℤ). AreRecorded xs c.insert.new.self c.list_clause.new.lists c.add_clause.new.self k) (sym lits)
    (subst (λ (n : Ranges). AreRecorded (ls ++ lemma_lits lemma) n c.list_clause.new.lists c.add_clause.new.self k) (sym c.in_default.ensures.ok)
    (Recorded-add ls m c.self.inside.lists c.list_clause.new.lists c.self.inside.uses c.add_clause.new.self lemma k c.self.inside.last k c.range_behind-range.result c.self.invariant (used k (omega arith) (omega arith)) start c.range_behind-range.ensures.count listed (omega arith) (omega arith)))

pub invariant_of-self-else-step-self : goal.invariant_of-self-else-step-self
invariant_of-self-else-step-self c =
    let ls : List ℤ = c.self.inside.history.lits in
    let m : Ranges = c.self.inside.ranges in
    let lemma = c.args.step.now.lemma in
    let k : ℕ = c.step.inside.number in
    let kept : c.reserve_addition.new.self.lits ≡ ls = c.in_ok-reserve_addition.ensures.kept in
    let start : c.range_behind-range.result.start ≡ length ls + pivots lemma.pivot = c.range_behind-range.ensures.start ∙ ap (λ (xs : List ℤ). length xs + pivots lemma.pivot) (c.lits.ensures ∙ kept) in
    let lits : c.push_addition.new.self.lits ≡ ls ++ lemma_lits lemma = c.push_addition.ensures.lits ∙ ap (λ (xs : List ℤ). xs ++ lemma_lits lemma) kept in
    let listed = subst (λ (d : LiteralSet). AreListed c.list_clause.new.lists (fin.insert (stored ls m) k d) (k + 1)) (c.step.invariant ∙ ap (λ (a : Addition). a.lemma.clause) c.step.view_is) (c.list_clause.ensures (stored ls m) c.self.invariant.indexed.listed) in
    let used : (next : ℕ) → c.self.inside.last ≤ next → k ≤ next → AreFirstUses (fin.insert (stored ls m) k lemma.clause) next c.add_clause.new.self = λ next le there. subst (λ (d : LiteralSet). AreFirstUses (fin.insert (stored ls m) k d) next c.add_clause.new.self) (c.step.invariant ∙ ap (λ (a : Addition). a.lemma.clause) c.step.view_is) (c.add_clause.ensures (stored ls m) next c.self.invariant.used le there) in
    subst (λ (xs : List ℤ). AreRecorded xs c.insert.new.self c.list_clause.new.lists c.add_clause.new.self c.self.inside.last) (sym lits)
    (subst (λ (n : Ranges). AreRecorded (ls ++ lemma_lits lemma) n c.list_clause.new.lists c.add_clause.new.self c.self.inside.last) (sym c.in_default.ensures.ok)
    (Recorded-add ls m c.self.inside.lists c.list_clause.new.lists c.self.inside.uses c.add_clause.new.self lemma k c.self.inside.last c.self.inside.last c.range_behind-range.result c.self.invariant (used c.self.inside.last (omega arith) (omega arith)) start c.range_behind-range.ensures.count listed (omega arith) (omega arith)))

pub returns-then-step-self-clause-live : goal.returns-then-step-self-clause-live
returns-then-step-self-clause-live c =
    let ls : List ℤ = c.self.inside.history.lits in
    let m : Ranges = c.self.inside.ranges in
    let lemma = c.args.step.now.lemma in
    let k : ℕ = c.step.inside.number in
    let kept : c.reserve_addition.new.self.lits ≡ ls = c.in_ok-reserve_addition.ensures.kept in
    let start : c.range_behind-range.result.start ≡ length ls + pivots lemma.pivot = c.range_behind-range.ensures.start ∙ ap (λ (xs : List ℤ). length xs + pivots lemma.pivot) (c.lits.ensures ∙ kept) in
    let lits : c.push_addition.new.self.lits ≡ ls ++ lemma_lits lemma = c.push_addition.ensures.lits ∙ ap (λ (xs : List ℤ). xs ++ lemma_lits lemma) kept in
    (λ i. stored (lits i) (c.in_default.ensures.ok i))
    ∙ placed_lemma ls m lemma k c.range_behind-range.result c.self.invariant.ranges_are start c.range_behind-range.ensures.count
    ∙ ap (λ r. fin.insert r.live k lemma.clause) c.self.view_is
    ∙ ap (λ (a : Addition). fin.insert c.args.self.now.live a.number lemma.clause) c.step.view_is

pub returns-else-step-self-clause-live : goal.returns-else-step-self-clause-live
returns-else-step-self-clause-live c =
    let ls : List ℤ = c.self.inside.history.lits in
    let m : Ranges = c.self.inside.ranges in
    let lemma = c.args.step.now.lemma in
    let k : ℕ = c.step.inside.number in
    let kept : c.reserve_addition.new.self.lits ≡ ls = c.in_ok-reserve_addition.ensures.kept in
    let start : c.range_behind-range.result.start ≡ length ls + pivots lemma.pivot = c.range_behind-range.ensures.start ∙ ap (λ (xs : List ℤ). length xs + pivots lemma.pivot) (c.lits.ensures ∙ kept) in
    let lits : c.push_addition.new.self.lits ≡ ls ++ lemma_lits lemma = c.push_addition.ensures.lits ∙ ap (λ (xs : List ℤ). xs ++ lemma_lits lemma) kept in
    (λ i. stored (lits i) (c.in_default.ensures.ok i))
    ∙ placed_lemma ls m lemma k c.range_behind-range.result c.self.invariant.ranges_are start c.range_behind-range.ensures.count
    ∙ ap (λ r. fin.insert r.live k lemma.clause) c.self.view_is
    ∙ ap (λ (a : Addition). fin.insert c.args.self.now.live a.number lemma.clause) c.step.view_is
