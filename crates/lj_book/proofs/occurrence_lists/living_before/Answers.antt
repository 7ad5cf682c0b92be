use Rattle.std.proofs.Common.{◌≡◌, ap, sym, ◌∙◌, ℕ, Bool, ◌-◌, ◌++◌, arith, get_or}
use Rattle.std.specs.Prelude.{List, [], ◌∷◌, filter, reverse}
use Rattle.std.specs.FinMap as fin
use Rattle.lj_book.specs.declared.occurrence_lists.Link.{Link}
use Rattle.lj_book.specs.inner.Chains.{chain}
use Rattle.lj_book.proofs.Chains.{before_less, found_more, found_no_more}
use Rattle.lj_book.proofs.occurrence_lists.living_before.Goals as goal
use Rattle.lj_book.proofs.occurrence_lists.living_before.Goals.{then-contains_key+in_ok-push, else-contains_key}

pub loop-at-preserved : goal.loop-at-preserved
loop-at-preserved c =
    let none : Link = record { number = 0; before = 0 } in
    let links : List Link = c.args.links.now in
    let link : Link = get_or links (c.loop-at.at - 1) none in
    let l = c.loop-at.invariant.there in
    let less = before_less links c.loop-at.at none c.requires.linked c.loop-at-test.true l in
    let lives : ℕ → Bool = λ n. fin.contains_key c.args.clauses.now n in
    let told = ap lives (sym c.from-number.ensures) ∙ sym c.contains_key.ensures in
    record {
      there = omega (arith, less, l);
      found = elim c.if-contains_key.branch [
        | then-contains_key+in_ok-push w ↦
            let items : c.if-contains_key.living.items ≡ c.loop-at.living.items ++ link.number ∷ [] =
            (λ i. (w.living-is i).items) ∙ w.in_ok-push.ensures.items ∙ ap (λ (n : ℕ). c.loop-at.living.items ++ n ∷ []) c.from-number.ensures in
            ap (λ (ns : List ℕ). filter lives (chain links link.before) ++ reverse ns) items
            ∙ found_more lives links c.loop-at.at none c.loop-at.living.items _ c.requires.linked c.loop-at-test.true l c.loop-at.invariant.found (told ∙ w.if-contains_key.true)
        | else-contains_key w ↦
            (λ i. filter lives (chain links link.before) ++ reverse (w.living-is i).items)
            ∙ found_no_more lives links c.loop-at.at none (reverse c.loop-at.living.items) _ c.requires.linked c.loop-at-test.true l c.loop-at.invariant.found (told ∙ w.if-contains_key.false)
      ];
    }
