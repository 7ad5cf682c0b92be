use Rattle.std.proofs.Common.{◌≡◌, ℕ, ap, ◌∙◌, sym, subst, List, ◌++◌}
use Rattle.lj_trim.specs.declared.marks.Marks.{Marks}
use Rattle.lj_trim.specs.inner.Marks.{Marked}
use Rattle.lj_trim.proofs.MarkLemmas.{marked_then, marked_none}
use Rattle.lj_trim.proofs.FrontLemmas.{empty_numbers-more}
use Rattle.lj_trim.proofs.needed.mark_empty.Goals as goal
use Rattle.lj_trim.proofs.needed.mark_empty.Goals.{in-Some+in_ok-mark, in_default}

one_more : (m k j after : Marks) (ns ms here all : List ℕ) → Marked m k ns → Marked k j ms → after ≡ j → ms ≡ here → all ≡ ns ++ here → Marked m after all
one_more m k j after ns ms here all a b e f g =
    subst (λ (t : Marks). Marked m t all) (sym e) (subst (Marked m j) (sym (g ∙ ap (λ t. ns ++ t) (sym f))) (marked_then m k j ns ms a b))

pub loop-step-preserved : goal.loop-step-preserved
loop-step-preserved c =
    let more = empty_numbers-more c.args.steps.now c.loop-step.step-index c.step-item.result c.loop-step-test.true c.step-item.is in
    elim c.match-empty_number.branch [
      | in-Some+in_ok-mark w ↦ one_more _ _ _ _ _ _ _ _ c.loop-step.invariant w.in_ok-mark.ensures w.marks-is w.in-Some.ensures more
      | in_default w ↦ one_more _ _ _ _ _ _ _ _ c.loop-step.invariant (marked_none c.loop-step.marks) w.marks-is w.in_default.ensures more
    ]
