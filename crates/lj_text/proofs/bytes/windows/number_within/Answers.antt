use Rattle.std.proofs.Common.{sym, ◌∙◌}
use Rattle.lj_text.proofs.WindowLemmas.{number-at, told-digits, window-at}
use Rattle.lj_text.proofs.bytes.windows.number_within.Goals as goal

pub returns-then-are_digits : goal.returns-then-are_digits
returns-then-are_digits c =
    let window = c.args.window.now in
    let e = c.in_ok-digits.ensures in
    let w = window-at window c.args.start c.args.end e.bytes c.requires.0 e.some e.few in
    let digits = told-digits _ _ w (λ ds eight all is. c.are_digits.ensures c.if-are_digits.true ds eight all (e.token_number ∙ is)) in
    record { number = number-at window c.args.start c.args.end c.value_of.result w e.some c.requires.1 e.space digits (λ counts eight all is. c.value_of.ensures counts eight all (e.token_number ∙ is)) }
