use Rattle.std.proofs.Common.{◌≡◌, true, ap, sym, ◌∙◌, subst, ℕ, map}
use Rattle.std.specs.Prelude.{Option, IfSome}
use Rattle.lj_clause.specs.Literal.{index_of}
use Rattle.lj_book.specs.Tables.{is_among}
use Rattle.lj_book.proofs.OccurrenceLaws.{place_among}
use Rattle.lj_book.proofs.occurrence_lists.OccurrenceLists.shortest_within.Goals as goal
use Rattle.lj_book.proofs.occurrence_lists.OccurrenceLists.shortest_within.Goals.{in-Some, in_default}

pub loop-lit-preserved : goal.loop-lit-preserved
loop-lit-preserved c =
    let IsAmong : Option ℕ → Type 0 = λ shortest. IfSome shortest (λ key. is_among (map index_of c.args.lits.now) key ≡ true) in
    elim c.match-length_within.branch [
      | in-Some w ↦ subst IsAmong (sym w.shortest-is)
          (ap (λ (p : ℕ). is_among (map index_of c.args.lits.now) p) (c.index-key.ensures.index ∙ ap index_of c.lit-item.is)
          ∙ place_among c.args.lits.now c.loop-lit.lit-index _ c.loop-lit-test.true)
      | in_default w ↦ subst IsAmong (sym w.shortest-is) c.loop-lit.invariant
    ]
