use Rattle.std.proofs.Common.{◌≡◌, ap, sym, ◌∙◌, ◌+◌, ◌-◌, ℕ, suc, arith, map, List, ◌++◌}
use Rattle.std.specs.Fmt.{decimal}
use Rattle.lj_text.specs.Writing.{spaced_token}
use Rattle.lj_text.specs.inner.Writing.{spaced_tokens}
use Rattle.lj_book.specs.inner.Encoding.{number_in, many_in, list_in}
use Rattle.lj_book.proofs.StepLineLemmas.{all_left, remains_all, remains_as, remains_less}
use Rattle.lj_book.proofs.history.lines.write_list.Goals as goal

pub loop-init : goal.loop-init
loop-init g c =
    let ws : List ℕ = c.args.encoding.now in
    let is : many_in number_in (c.number-count.result.0 - 0) c.number-count.result.1.now ≡ list_in ws = all_left number_in _ _ _ _ c.number-count.ensures.number c.number-count.ensures.rest in
    record {
      remains = remains_as _ _ _ _ _ (remains_all _ _) (ap (λ (p : List ℕ × List ℕ). spaced_tokens (map decimal p.0)) (sym is));
      behind = ap (λ (p : List ℕ × List ℕ). p.1) is;
    }

pub loop-preserved : goal.loop-preserved
loop-preserved g c =
    let n : ℕ = c.number-count.result.0 - (c.loop.counter + 1) in
    let left : c.number-count.result.0 - c.loop.counter ≡ suc n = omega (arith, c.loop-test.true) in
    record {
      remains = remains_less _ _ _ _ _ _ _ c.loop.invariant.remains
          (ap (λ k. spaced_tokens (map decimal (many_in number_in k c.loop.rest.now).0)) left
          ∙ (λ i. spaced_token (decimal (sym c.number-next.ensures.number i)) ++ spaced_tokens (map decimal (many_in number_in n (sym c.number-next.ensures.rest i)).0)))
          c.token.ensures.given;
      behind = ap (λ ws. (many_in number_in n ws).1) c.number-next.ensures.rest
          ∙ ap (λ k. (many_in number_in k c.loop.rest.now).1) (sym left) ∙ c.loop.invariant.behind;
    }
