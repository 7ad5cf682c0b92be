use Rattle.std.proofs.Common.{◌≡◌, ap, sym, ◌∙◌, subst, arith, ◌++◌, ◌+◌, ◌-◌, ◌^◌, ◌<◌, ℕ, List}
use Rattle.std.specs.Prelude.{map}
use Rattle.std.specs.List.{All}
use Rattle.std.specs.FinMap as fin
use Rattle.lj_book.specs.Tables.{is_among}
use Rattle.lj_book.specs.inner.Slots.{shifted}
use Rattle.lj_book.proofs.Slots.{joined_keys}
use Rattle.lj_book.proofs.Shifts.{among_shifted, among_each, keys_before}
use Rattle.lj_book.proofs.seat_table.SeatTable.keys.Goals as goal

pub put_greater-requires : goal.put_greater-requires
put_greater-requires c =
    let end = c.self.inside.end in
    subst (All (λ (n : ℕ). end + n < 2 ^ 64)) (sym (c.deref.ensures.value ∙ c.in_ok-late.ensures))
    (keys_before (λ (n : ℕ). end + n < 2 ^ 64) (2 ^ 64 - end) c.self.inside.late (λ n h. omega (arith, h)) c.self.invariant.1)

pub returns : goal.returns
returns c =
    let end = c.self.inside.end in
    let late = c.self.inside.late in
    let early : List ℕ = fin.keys c.self.inside.early in
    let greater : List ℕ = map (λ (n : ℕ). end + n) (fin.keys late) in
    let all : c.put_greater.new.keys.items ≡ early ++ greater =
    c.in_ok-put_greater.ensures
    ∙ ap (λ (ks : List ℕ). ks ++ map (λ (n : ℕ). end + n) c.deref.result.now) c.in_ok-keys.ensures
    ∙ ap (λ (ks : List ℕ). early ++ map (λ (n : ℕ). end + n) ks) (c.deref.ensures.value ∙ c.in_ok-late.ensures) in
    joined_keys c.self.inside.early (shifted end late) c.rising.result.items c.rising.ensures.rising (λ q.
    c.rising.ensures.same q
    ∙ ap (λ (ks : List ℕ). is_among ks q) all
    ∙ among_each early greater (fin.keys (shifted end late)) q (among_shifted end late q))
    ∙ ap fin.keys c.self.view_is
