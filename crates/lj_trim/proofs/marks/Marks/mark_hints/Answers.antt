use Rattle.std.proofs.Common.{ℕ, List, subst, ap, ◌∙◌, ◌≡◌, ◌++◌, ◌∷◌, [], sym, append_assoc, append-nil}
use Rattle.std.specs.Prelude.{flat_map}
use Rattle.std.proofs.lemmas.Grind.{flat_map-append}
use Rattle.lj_clause.specs.Rat.{HintGroup}
use Rattle.lj_trim.specs.inner.Marks.{Marked}
use Rattle.lj_trim.proofs.MarkLemmas.{marked_then}
use Rattle.lj_trim.proofs.marks.Marks.mark_hints.Goals as goal

one_more : (hints : List ℕ) (gs : List HintGroup) (g : HintGroup)
    → (hints ++ flat_map (λ (x : HintGroup). x.hints) gs) ++ g.hints ≡ hints ++ flat_map (λ (x : HintGroup). x.hints) (gs ++ g ∷ [])
one_more hints gs g =
    append_assoc hints (flat_map (λ (x : HintGroup). x.hints) gs) g.hints
    ∙ ap (λ t. hints ++ t) (sym (flat_map-append (λ (x : HintGroup). x.hints) gs (g ∷ []) ∙ ap (λ t. flat_map (λ (x : HintGroup). x.hints) gs ++ t) (append-nil g.hints)))

pub loop-group-preserved : goal.loop-group-preserved
loop-group-preserved c =
    let P : HintGroup → Type 0 = λ v. Marked c.loop-group.self c.mark_numbers-in-loop-group.new.self v.hints in
    record {
      marked = subst (Marked _ _) (one_more c.args.addition.now.hints c.loop-group.yielded c.in-Some.group)
          (marked_then _ _ _ _ _ c.loop-group.invariant.marked (subst P c.group.view_is c.in_ok-mark_numbers-2.ensures));
      left = c.loop-group.invariant.left ∙ ap (λ t. c.loop-group.yielded ++ t) c.in-Some.ensures.steps ∙ sym (append_assoc c.loop-group.yielded (c.in-Some.group ∷ []) c.next.new.self);
    }
