use Rattle.std.proofs.Common.{ap, sym, ◌∙◌, subst, List, arith}
use Rattle.std.specs.Prelude.{ℤ}
use Rattle.std.specs.Option.{option_copied}
use Rattle.lj_clause.specs.Literal.{lit_cmp, variable_of}
use Rattle.std.specs.List.Sorted.{IsStrictlySortedBy}
use Rattle.lj_book.proofs.RangeLaws.{literals_rise}
use Rattle.lj_book.proofs.FirstUseLaws.{up_to_all, up_to_last, up_to_more, up_to_none}
use Rattle.lj_book.proofs.first_uses.greatest_variable.Goals as goal

pub returns-in-Some-clause-all : goal.returns-in-Some-clause-all
returns-in-Some-clause-all c =
    let ls : List ℤ = c.lits.result.now in
    let rise : IsStrictlySortedBy lit_cmp ls = subst (IsStrictlySortedBy lit_cmp) (sym c.lits.ensures) (literals_rise c.args.clause.now) in
    let l : ℤ = c.in-Some.lit.now in
    let last = up_to_last ls l rise (sym c.last.ensures.value ∙ ap option_copied c.in-Some.is) in
    up_to_all c.max.result c.args.clause.now ls c.lits.ensures (up_to_more (variable_of l) c.max.result ls (omega (arith, c.max.ensures, c.variable.ensures.variable)) last)

pub returns-in-None-clause-all : goal.returns-in-None-clause-all
returns-in-None-clause-all c =
    let ls : List ℤ = c.lits.result.now in
    up_to_all c.args.top c.args.clause.now ls c.lits.ensures (up_to_none c.args.top ls (sym c.last.ensures.value ∙ ap option_copied c.in-None.is))
