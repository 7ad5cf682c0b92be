use Rattle.std.proofs.Common.{ap, ◌∙◌, ◌++◌, ◌∷◌, [], sym, append_assoc}
use Rattle.lj_trim.proofs.MarkLemmas.{marked_then}
use Rattle.lj_trim.proofs.marks.Marks.mark_numbers.Goals as goal

pub loop-number-preserved : goal.loop-number-preserved
loop-number-preserved c = record {
  marked = marked_then _ _ _ c.loop-number.yielded (c.in-Some.number ∷ []) c.loop-number.invariant.marked c.in_ok-mark.ensures;
  left = c.loop-number.invariant.left ∙ ap (λ t. c.loop-number.yielded ++ t) c.in-Some.ensures.steps ∙ sym (append_assoc c.loop-number.yielded (c.in-Some.number ∷ []) c.next.new.self);
}
