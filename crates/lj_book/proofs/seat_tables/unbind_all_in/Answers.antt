use Rattle.std.proofs.Common.{◌≡◌, ap, refl, sym, ◌∙◌, ◌+◌, ◌≤◌, ℕ, Bool, true, false, arith, take}
use Rattle.std.specs.Prelude.{List, ◌++◌, ◌∷◌, [], Some, if◌then◌else◌}
use Rattle.std.specs.FinMap as fin
use Rattle.std.proofs.lemmas.Bool.{false≢true}
use Rattle.std.proofs.lemmas.List.{take_more}
use Rattle.lj_book.specs.Tables.{Table, without_keys, keys_lost}
use Rattle.lj_book.specs.inner.Holders.{Counted, count_in, count_at, one_if_at}
use Rattle.lj_book.proofs.TableLaws.{without_keys-none, keys_lost-none, without_keys-push, keys_lost-push, count-remove, count_removed, self_counts}
use Rattle.lj_book.proofs.seat_tables.unbind_all_in.Goals as goal
use Rattle.lj_book.proofs.seat_tables.unbind_all_in.Goals.{then-unbind_in, else-unbind_in}

pub loop-own-init : goal.loop-own-init
loop-own-init c = record {
  table = sym (without_keys-none c.args.table.now);
  count = sym (keys_lost-none (Some c.args.table.now));
  few = omega arith;
  holders = λ joint. refl;
}

pub unbind_in-requires : goal.unbind_in-requires
unbind_in-requires c = λ joint here.
    let t = c.loop-own.table in
    let a = count-remove t c.from.result joint joint here in
    let b = self_counts joint (count_in (Some (fin.remove t c.from.result)) joint) in
    let d = c.loop-own.invariant.holders joint in
    let e = c.requires joint in
    omega arith

added : (lost before count now : ℕ) (b : Bool) → lost ≡ before + (if b then 1 else 0) → count ≡ before → now ≡ count + (if b then 1 else 0) → now ≡ lost
added lost before count now true e f g = omega arith
added lost before count now false e f g = omega arith

one_more : (count now : ℕ) (b : Bool) → b ≡ true → now ≡ count + 1 → now ≡ count + (if b then 1 else 0)
one_more count now true h e = e
one_more count now false h e = absurd (false≢true h)

none_more : (count now : ℕ) (b : Bool) → b ≡ false → now ≡ count → now ≡ count + (if b then 1 else 0)
none_more count now true h e = absurd (false≢true (sym h))
none_more count now false h e = omega arith

one_at_most : (count now i : ℕ) (b : Bool) → now ≡ count + (if b then 1 else 0) → count ≤ i → now ≤ i + 1
one_at_most count now i true e h = omega arith
one_at_most count now i false e h = omega arith

-- one number more is given up
lost_at : (ns : List ℕ) (n : ℕ) (t u : Table) (b : Bool) (count now : ℕ) → u ≡ without_keys ns t → b ≡ fin.contains_key u n → count ≡ keys_lost ns (Some t) → now ≡ count + (if b then 1 else 0) → now ≡ keys_lost (ns ++ n ∷ []) (Some t)
lost_at ns n t u b count now is bound before e =
    added (keys_lost (ns ++ n ∷ []) (Some t)) (keys_lost ns (Some t)) count now b
    (keys_lost-push ns n (Some t) ∙ ap (λ (x : Bool). keys_lost ns (Some t) + (if x then 1 else 0)) (sym (bound ∙ ap (λ (m : Table). fin.contains_key m n) is)))
    before e

held_after : (t u v : Table) (m0 m n : Counted) (own joint : ℕ) → v ≡ fin.remove u own → count_at m joint ≡ one_if_at (fin.get u own) joint + count_at n joint → count_at m joint + count_in (Some t) joint ≡ count_at m0 joint + count_in (Some u) joint → count_at n joint + count_in (Some t) joint ≡ count_at m0 joint + count_in (Some v) joint
held_after t u v m0 m n own joint is less before =
    let a = count_removed u own joint (fin.get u own) refl in
    let b = ap (λ (w : Table). count_in (Some w) joint) is in
    omega arith

pub loop-own-preserved : goal.loop-own-preserved
loop-own-preserved c =
    let owns = c.args.owns.now in
    let i = c.loop-own.own-index in
    let n = c.from.result in
    let t = c.args.table.now in
    let before = c.loop-own.invariant in
    let more : take (i + 1) owns ≡ take i owns ++ n ∷ [] = take_more owns i 0 c.loop-own-test.true ∙ ap (λ m. take i owns ++ m ∷ []) (sym c.from.ensures) in
    let now : c.if-unbind_in.count ≡ c.loop-own.count + (if c.unbind_in.result then 1 else 0) = elim c.if-unbind_in.branch [
      | then-unbind_in w ↦ one_more c.loop-own.count c.if-unbind_in.count c.unbind_in.result w.if-unbind_in.true w.count-is
      | else-unbind_in w ↦ none_more c.loop-own.count c.if-unbind_in.count c.unbind_in.result w.if-unbind_in.false w.count-is
    ] in
    record {
      table = c.unbind_in.ensures.table ∙ ap (λ (u : Table). fin.remove u n) before.table ∙ sym (without_keys-push (take i owns) n t) ∙ ap (λ ns. without_keys ns t) (sym more);
      count = lost_at (take i owns) n t c.loop-own.table c.unbind_in.result c.loop-own.count c.if-unbind_in.count before.table c.unbind_in.ensures.bound before.count now ∙ ap (λ ns. keys_lost ns (Some t)) (sym more);
      few = one_at_most c.loop-own.count c.if-unbind_in.count i c.unbind_in.result now before.few;
      holders = λ joint. held_after t c.loop-own.table c.unbind_in.new.table c.args.holders.now c.loop-own.holders c.unbind_in.new.holders n joint c.unbind_in.ensures.table (c.unbind_in.ensures.holders joint) (before.holders joint);
    }
