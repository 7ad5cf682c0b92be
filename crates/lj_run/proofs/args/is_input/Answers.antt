use Rattle.std.proofs.Common.{◌∙◌, ap, sym, nat_eq}
use Rattle.std.specs.List.{list_any}
use Rattle.std.specs.Cmp.Lexicographic.{pointwise}
use Rattle.lj_run.proofs.ArgsLemmas.{among_paths, is_first, is_path, is_second, is_third}
use Rattle.lj_run.proofs.args.is_input.Goals as goal

pub returns-then-eq : goal.returns-then-eq
returns-then-eq c = is_first _ _ (sym c.eq.ensures ∙ c.if-eq.true)

pub returns-then-contains : goal.returns-then-contains
returns-then-contains c =
    let are = c.contains.ensures.value ∙ ap (list_any (λ p. pointwise nat_eq p.now c.args.path.now)) c.deref.ensures.value ∙ among_paths c.args.line.now.proofs.items c.args.path.now in
    c.if-contains.true ∙ is_second _ _ _ (sym are ∙ c.if-contains.true)

pub returns-else-contains : goal.returns-else-contains
returns-else-contains c =
    let are = c.contains.ensures.value ∙ ap (list_any (λ p. pointwise nat_eq p.now c.args.path.now)) c.deref.ensures.value ∙ among_paths c.args.line.now.proofs.items c.args.path.now in
    c.eq-else-contains.ensures ∙ is_path c.args.line.now.closing c.args.path ∙ is_third _ _ _ (sym c.eq.ensures ∙ c.if-eq.false) (sym are ∙ c.if-contains.false)
