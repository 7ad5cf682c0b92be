use Rattle.std.proofs.Common.{ap, sym, ◌∙◌, arith, Bool}
use Rattle.std.specs.Prelude.{Some, None, not, if◌then◌else◌}
use Rattle.lj_book.proofs.OpenedLaws.{get_listed, get_behind, get_beyond}
use Rattle.lj_book.proofs.opened.is_kept.Goals as goal

pub returns-then-at-end : goal.returns-then-at-end
returns-then-at-end c = get_beyond c.args.given_up.now c.args.end c.args.number (omega (arith, c.if-at-end.true))

pub returns-in-Some : goal.returns-in-Some
returns-in-Some c =
    get_listed c.args.given_up.now c.args.end c.args.number _ (omega (arith, c.if-at-end.false)) c.in-Some.ensures.lookup.3.0
    ∙ ap (λ (gone : Bool). if not gone then Some c.args.number else None) (sym c.in-Some.ensures.lookup.1)

pub returns-in-None : goal.returns-in-None
returns-in-None c = get_behind c.args.given_up.now c.args.end c.args.number (omega (arith, c.if-at-end.false)) c.in-None.ensures.lookup.3
