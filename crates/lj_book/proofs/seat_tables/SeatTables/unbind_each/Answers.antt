use Rattle.std.proofs.Common.{◌≡◌, ap, sym, ◌∙◌, ◌+◌, ◌<◌, ◌++◌, ◌∷◌, [], arith, take, length}
use Rattle.std.specs.Prelude.{ℕ, Bool, true, false, List, None, Some, slice_get, if◌then◌else◌}
use Rattle.std.specs.FinMap as fin
use Rattle.std.proofs.lemmas.Bool.{false≢true}
use Rattle.std.proofs.lemmas.List.{take_more}
use Rattle.std.proofs.lemmas.Option.{slice_get_within, slice_get-get_or, get_or_from_slice_get}
use Rattle.lj_book.specs.Tables.{Tables, table_of, is_here, is_bound, with_table, without_keys, keys_lost}
use Rattle.lj_book.proofs.TableLaws.{with_table-none, keys_lost-none, here-with_table, bound-with_table, with_table-push, keys_lost-push}
use Rattle.lj_book.proofs.seat_tables.SeatTables.unbind_each.Goals as goal
use Rattle.lj_book.proofs.seat_tables.SeatTables.unbind_each.Goals.{in-Some+then-unbind, in-Some+else-unbind, in_default}

counted : (lost before count now : ℕ) {b : Bool} → lost ≡ before + (if b then 1 else 0) → b ≡ true → count ≡ before → now ≡ count + 1 → now ≡ lost
counted lost before count now {b = true} e h f g = omega arith
counted lost before count now {b = false} e h f g = absurd (false≢true h)

uncounted : (lost before count now : ℕ) {b : Bool} → lost ≡ before + (if b then 1 else 0) → b ≡ false → count ≡ before → now ≡ count → now ≡ lost
uncounted lost before count now {b = true} e h f g = absurd (false≢true (sym h))
uncounted lost before count now {b = false} e h f g = omega arith

there : (ns : List ℕ) (i : ℕ) → i < length ns → slice_get ns i ≡ None → ⊥
there ns i lt none = let some = slice_get-get_or ns i 0 lt in absurd (let no : ⊥ = cc in no)

more_at : (ns : List ℕ) (i n : ℕ) → slice_get ns i ≡ Some n → take (i + 1) ns ≡ take i ns ++ n ∷ []
more_at ns i n is =
    take_more ns i 0 (slice_get_within ns i n is)
    ∙ ap (λ m. take i ns ++ m ∷ []) (get_or_from_slice_get ns i n 0 is)

pub loop-index-init : goal.loop-index-init
loop-index-init c = record {
  removed = sym (with_table-none c.args.self.now c.args.seat);
  count = sym (keys_lost-none (table_of c.args.self.now c.args.seat));
  few = omega arith;
}

pub unbind-requires : goal.unbind-requires
unbind-requires c = record {
  here =
      ap (λ (ts : Tables). is_here ts c.args.seat) c.loop-index.invariant.removed
      ∙ here-with_table (without_keys (take c.loop-index.index c.args.numbers.now)) c.args.self.now c.args.seat
      ∙ c.requires.here;
}

-- what the number at an index takes away
lost_at : (ts us : Tables) (ns : List ℕ) (seat i n : ℕ) {b : Bool} → us ≡ with_table (without_keys (take i ns)) ts seat → slice_get ns i ≡ Some n → b ≡ is_bound us seat n → keys_lost (take (i + 1) ns) (table_of ts seat) ≡ keys_lost (take i ns) (table_of ts seat) + (if b then 1 else 0)
lost_at ts us ns seat i n removed is bound =
    ap (λ ms. keys_lost ms (table_of ts seat)) (more_at ns i n is)
    ∙ keys_lost-push (take i ns) n (table_of ts seat)
    ∙ ap (λ (x : Bool). keys_lost (take i ns) (table_of ts seat) + (if x then 1 else 0)) (sym (bound ∙ ap (λ (vs : Tables). is_bound vs seat n) removed ∙ bound-with_table (without_keys (take i ns)) ts seat n))

removed_at : (ts us vs : Tables) (ns : List ℕ) (seat i n : ℕ) → us ≡ with_table (without_keys (take i ns)) ts seat → slice_get ns i ≡ Some n → vs ≡ with_table (λ t. fin.remove t n) us seat → vs ≡ with_table (without_keys (take (i + 1) ns)) ts seat
removed_at ts us vs ns seat i n removed is one =
    one
    ∙ ap (λ (ws : Tables). with_table (λ t. fin.remove t n) ws seat) removed
    ∙ with_table-push (take i ns) n ts seat
    ∙ ap (λ ms. with_table (without_keys ms) ts seat) (sym (more_at ns i n is))

pub loop-index-preserved : goal.loop-index-preserved
loop-index-preserved c =
    let ts = c.args.self.now in
    let ns = c.args.numbers.now in
    let i = c.loop-index.index in
    let seat = c.args.seat in
    let before = c.loop-index.invariant in
    elim c.match-get.branch [
      | in-Some+then-unbind w ↦
          let is : slice_get ns i ≡ Some w.in-Some.own = sym c.get.ensures ∙ w.in-Some.is in
          let lost = lost_at ts c.loop-index.self ns seat i w.in-Some.own before.removed is w.unbind.ensures.bound in
          record {
            removed = removed_at ts c.loop-index.self _ ns seat i w.in-Some.own before.removed is (w.self-is ∙ w.unbind.ensures.removed);
            count = counted _ _ _ _ lost w.if-unbind.true before.count w.count-is;
            few = omega arith;
          }
      | in-Some+else-unbind w ↦
          let is : slice_get ns i ≡ Some w.in-Some.own = sym c.get.ensures ∙ w.in-Some.is in
          let lost = lost_at ts c.loop-index.self ns seat i w.in-Some.own before.removed is w.unbind.ensures.bound in
          record {
            removed = removed_at ts c.loop-index.self _ ns seat i w.in-Some.own before.removed is (w.self-is ∙ w.unbind.ensures.removed);
            count = uncounted _ _ _ _ lost w.if-unbind.false before.count w.count-is;
            few = omega arith;
          }
      | in_default w ↦ absurd (there ns i (let len = c.len-index-end.ensures in let test = c.loop-index-test.true in omega arith) (sym c.get.ensures ∙ w.in_default.is))
    ]
