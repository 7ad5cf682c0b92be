use Rattle.std.proofs.Common.{◌∙◌}
use Rattle.lj_text.proofs.WindowLemmas.{number-at, window-at}
use Rattle.lj_text.proofs.bytes.windows.number_of_digits.Goals as goal

pub returns : goal.returns
returns c =
    let window = c.args.window.now in
    let e = c.in_ok-digits.ensures in
    let w = window-at window c.args.start c.args.end e.bytes c.requires.within.0 e.some e.few in
    record { number = number-at window c.args.start c.args.end c.value_of.result w e.some c.requires.within.1 e.space c.requires.digits (λ counts eight all is. c.value_of.ensures counts eight all (e.token_number ∙ is)) }
