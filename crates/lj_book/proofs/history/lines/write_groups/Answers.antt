use Rattle.std.proofs.Common.{◌≡◌, ap, sym, ◌∙◌, ◌+◌, ◌-◌, ◌++◌, ℕ, suc, arith, List}
use Rattle.std.specs.Prelude.{flat_map}
use Rattle.lj_text.specs.StepText.{group_tokens}
use Rattle.lj_text.specs.inner.Writing.{spaced_tokens}
use Rattle.lj_book.specs.inner.Encoding.{hint_group_in, hint_groups_in, many_in}
use Rattle.lj_clause.specs.Rat.{HintGroup}
use Rattle.lj_text.proofs.WrittenTokens.{spaced_tokens-append}
use Rattle.lj_book.proofs.StepLineLemmas.{all_left, remains_all, remains_as, remains_less}
use Rattle.lj_book.proofs.history.lines.write_groups.Goals as goal

pub loop-init : goal.loop-init
loop-init g c =
    let ws : List ℕ = c.args.encoding.now in
    let is : many_in hint_group_in (c.number-count.result.0 - 0) c.number-count.result.1.now ≡ hint_groups_in ws = all_left hint_group_in _ _ _ _ c.number-count.ensures.number c.number-count.ensures.rest in
    record { remains = remains_as _ _ _ _ _ (remains_all _ _) (ap (λ (p : List HintGroup × List ℕ). spaced_tokens (flat_map group_tokens p.0)) (sym is)) }

pub loop-preserved : goal.loop-preserved
loop-preserved g c =
    let n : ℕ = c.number-count.result.0 - (c.loop.counter + 1) in
    let left : c.number-count.result.0 - c.loop.counter ≡ suc n = omega (arith, c.loop-test.true) in
    record {
      remains = remains_less _ _ _ _ _ _ _ c.loop.invariant.remains
          (ap (λ k. spaced_tokens (flat_map group_tokens (many_in hint_group_in k c.loop.rest.now).0)) left
          ∙ spaced_tokens-append (group_tokens (hint_group_in c.loop.rest.now).0) (flat_map group_tokens (many_in hint_group_in n (hint_group_in c.loop.rest.now).1).0)
          ∙ ap (λ ws. spaced_tokens (group_tokens (hint_group_in c.loop.rest.now).0) ++ spaced_tokens (flat_map group_tokens (many_in hint_group_in n ws).0)) (sym c.write_group-rest.ensures.rest))
          c.write_group-rest.ensures.given;
    }
