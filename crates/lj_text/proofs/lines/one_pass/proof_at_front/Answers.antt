use Rattle.std.proofs.Common.{◌≡◌, ◌-◌, List, ℕ, length, take, drop, true, Ok, sym, subst, rules}
use Rattle.lj_text.specs.Lines.{hints_of}
use Rattle.lj_text.specs.inner.LineReading.{token_numbers}
use Rattle.lj_text.specs.inner.ShortNumbers.{BeginsByLine}
use Rattle.lj_text.proofs.OnePassLemmas.{two-ahead, proof-closed, proof-line}
use Rattle.lj_text.proofs.lines.one_pass.proof_at_front.Goals as goal

pub returns-in-Ok-clause-read : goal.returns-in-Ok-clause-read
returns-in-Ok-clause-read c =
    let r = c.read_short-rest in
    let after : List ℕ = take (length r.result.now - 2) (drop 2 r.result.now) in
    let P : List ℕ → Type 0 = λ hints. BeginsByLine (λ line. hints_of true (token_numbers line) ≡ Ok (hints, c.clear-2.new.self)) c.args.bytes.now after in
    subst P (sym c.in-Ok.ensures.ok)
    (proof-closed c.clear.new.self c.args.bytes.now r.new.self r.result.now after c.clear-2.new.self c.clear.ensures c.clear-2.ensures r.ensures.ahead (two-ahead r.result.now 48 10 c.in-48.len_at_least (search rules) (search rules)))

pub returns-in-Ok-read_rest-clause-read : goal.returns-in-Ok-read_rest-clause-read
returns-in-Ok-read_rest-clause-read c =
    let r = c.read_short-rest in
    let l = c.in_ok-line in
    proof-line c.clear.new.self c.args.bytes.now r.new.self r.result.now l.line.now l.after.now c.read_rest.new.hints c.read_rest.new.groups c.clear.ensures r.ensures.ahead l.ensures.some l.ensures.line c.in-Ok-read_rest.ensures
