use Rattle.std.proofs.Common.{rules, ◌≡◌, ap, sym, ◌∙◌}
use Rattle.std.specs.declared.cmp.Ordering.TheVariants.{Less}
use Rattle.lj_clause.specs.Literal.{lit_cmp}
use Rattle.lj_clause.specs.LiteralSet.{no_literals, with_literal}
use Rattle.lj_clause.proofs.ShortLists.{swap, and_last, rising_three}
use Rattle.lj_clause.proofs.literal_list.three.Goals as goal

pub returns-then-lt-clause-rising : goal.returns-then-lt-clause-rising
returns-then-lt-clause-rising c =
    let less : lit_cmp c.args.c c.in_ok-first.first ≡ Less = search rules in
    rising_three c.args.c c.in_ok-first.first c.in_ok-first.last less c.in_ok-first.ensures.rising

pub returns-then-lt-clause-same : goal.returns-then-lt-clause-same
returns-then-lt-clause-same c = ap (λ s. with_literal s c.args.c) c.in_ok-first.ensures.same ∙ and_last c.args.a c.args.b c.args.c

pub returns-then-lt-2-clause-rising : goal.returns-then-lt-2-clause-rising
returns-then-lt-2-clause-rising c =
    let less : lit_cmp c.in_ok-first.last c.args.c ≡ Less = search rules in
    rising_three c.in_ok-first.first c.in_ok-first.last c.args.c c.in_ok-first.ensures.rising less

pub returns-then-lt-2-clause-same : goal.returns-then-lt-2-clause-same
returns-then-lt-2-clause-same c =
    sym (and_last c.in_ok-first.first c.in_ok-first.last c.args.c)
    ∙ ap (λ s. with_literal s c.args.c) c.in_ok-first.ensures.same ∙ and_last c.args.a c.args.b c.args.c

pub returns-then-lt-4-clause-rising : goal.returns-then-lt-4-clause-rising
returns-then-lt-4-clause-rising c =
    let above : lit_cmp c.in_ok-first.first c.args.c ≡ Less = search rules in
    let below : lit_cmp c.args.c c.in_ok-first.last ≡ Less = search rules in
    rising_three c.in_ok-first.first c.args.c c.in_ok-first.last above below

pub returns-then-lt-4-clause-same : goal.returns-then-lt-4-clause-same
returns-then-lt-4-clause-same c =
    swap (with_literal no_literals c.in_ok-first.last) c.args.c c.in_ok-first.first
    ∙ ap (λ s. with_literal s c.args.c) c.in_ok-first.ensures.same ∙ and_last c.args.a c.args.b c.args.c
