use Rattle.std.proofs.Common.{ap, sym, ◌∙◌, ◌<◌, arith}
use Rattle.std.proofs.lemmas.Bool.{false≢true}
use Rattle.std.specs.Prelude.{length, Some, slice_get, option_map}
use Rattle.lj_book.specs.declared.entry.Entry.{Entry}
use Rattle.lj_book.specs.Named.{NamedState}
use Rattle.lj_share.proofs.Confirming.{passed_by, matched, is_first, same_first, not_empty, entry_there, some_entry, some_same, where_none}
use Rattle.lj_share.proofs.closed.Closed.confirm.Goals.{in-Some+then-by-seat+in-Some-split_first, in-Some+else-by-seat, in_default}
use Rattle.lj_share.proofs.closed.Closed.confirm.Goals as goal

pub returns-in_default-split_first : goal.returns-in_default-split_first
returns-in_default-split_first g c =
    let position = c.loop-position.position in
    let es = c.args.self.now.history in
    let there = entry_there es position c.in-Some.by (ap (λ (s : NamedState). option_map (λ (e : Entry). e.seat) (slice_get s.history position)) (sym c.self.view_is) ∙ sym c.seat_at.ensures ∙ c.in-Some.is) in (
      λ no. absurd (false≢true no),
      λ whole.
          let first = is_first es c.args.seat position there.0 c.loop-position.rest.now c.loop-position.invariant there.1.0 (there.1.1 ∙ c.if-by-seat.true) whole in
          let equal = same_first _ _ _ _ (sym first ∙ c.in-Some-split_first.ensures.cases.0) in
          sym c.if-is_entry.false ∙ c.is_entry.ensures.1 (ap (λ (s : NamedState). slice_get s.history position) c.self.view_is ∙ there.1.0 ∙ ap Some (equal ∙ sym c.entry.ensures)),
    )

pub returns-in_default-split_first-2 : goal.returns-in_default-split_first-2
returns-in_default-split_first-2 g c =
    let position = c.loop-position.position in
    let es = c.args.self.now.history in
    let there = entry_there es position c.in-Some.by (ap (λ (s : NamedState). option_map (λ (e : Entry). e.seat) (slice_get s.history position)) (sym c.self.view_is) ∙ sym c.seat_at.ensures ∙ c.in-Some.is) in (
      λ no. absurd (false≢true no),
      λ whole.
          let first = is_first es c.args.seat position there.0 c.loop-position.rest.now c.loop-position.invariant there.1.0 (there.1.1 ∙ c.if-by-seat.true) whole in
          absurd (not_empty _ _ _ first (where_none _ c.split_first.result c.split_first.ensures.cases c.in_default-split_first.is)),
    )

pub loop-position-preserved : goal.loop-position-preserved
loop-position-preserved g c =
    let position = c.loop-position.position in
    let es = c.args.self.now.history in
    elim c.match-seat_at.branch [
      | in-Some+then-by-seat+in-Some-split_first w ↦ (
          let there = entry_there es position w.in-Some.by (ap (λ (s : NamedState). option_map (λ (e : Entry). e.seat) (slice_get s.history position)) (sym c.self.view_is) ∙ sym c.seat_at.ensures ∙ w.in-Some.is) in
          let told = ap (λ (s : NamedState). slice_get s.history position) (sym c.self.view_is) ∙ w.is_entry.ensures.0 w.if-is_entry.true in
          let equal = some_same _ _ (sym there.1.0 ∙ told) ∙ w.entry.ensures in
          matched es c.args.seat position there.0 w.in-Some-split_first.first.now c.loop-position.rest.now w.in-Some-split_first.others.now c.match-seat_at.rest.now c.loop-position.invariant there.1.0 (there.1.1 ∙ w.if-by-seat.true) equal w.in-Some-split_first.ensures.cases.0 (ap (λ r. r.now) w.rest-is))
      | in-Some+else-by-seat w ↦ (
          let there = entry_there es position w.in-Some.by (ap (λ (s : NamedState). option_map (λ (e : Entry). e.seat) (slice_get s.history position)) (sym c.self.view_is) ∙ sym c.seat_at.ensures ∙ w.in-Some.is) in
          passed_by es c.args.seat position there.0 c.loop-position.rest.now c.match-seat_at.rest.now c.loop-position.invariant there.1.0 (λ same. w.if-by-seat.false (sym there.1.1 ∙ same)) (ap (λ r. r.now) w.rest-is))
      | in_default w ↦ (
          let within : position < length c.self.inside.book.history = let len = c.history_len-position-end.ensures in let test = c.loop-position-test.true in omega arith in
          absurd (some_entry c.self.inside.book.history position within (sym c.seat_at.ensures ∙ w.in_default.is)))
    ]
