use Rattle.std.proofs.Common.{◌≡◌, ◌-◌, ℕ, None, length, drop, sym, ap, ◌∙◌, subst, arith}
use Rattle.std.proofs.lemmas.Result.{err_from_is_err_and}
use Rattle.lj_text.specs.LinesRead.{HasNoLineEnd}
use Rattle.lj_text.proofs.PassLemmas.{looked-behind, fails-behind, none-from_test}
use Rattle.lj_text.proofs.lines.look.look_to_end.Goals as goal

pub last-last-requires-clause-within : goal.last-last-requires-clause-within
last-last-requires-clause-within c =
    let none : c.in_ok-found.found.line ≡ None = none-from_test c.in_ok-found.found.line (sym c.is_some.ensures ∙ c.if-is_some.false) in
    omega (arith, c.in_ok-found.ensures.left, c.in_ok-found.ensures.searched none)

pub last-last-requires-clause-none : goal.last-last-requires-clause-none
last-last-requires-clause-none c =
    let none : c.in_ok-found.found.line ≡ None = none-from_test c.in_ok-found.found.line (sym c.is_some.ensures ∙ c.if-is_some.false) in
    let P : ℕ → Type 0 = λ n. HasNoLineEnd (drop (length c.args.ahead.now - n) c.args.ahead.now) in
    subst P (sym (c.in_ok-found.ensures.searched none)) (c.in_ok-found.ensures.open none)

pub returns-in_err-line : goal.returns-in_err-line
returns-in_err-line c k first =
    let p = err_from_is_err_and c.from_residual-in_err-line.result c.from_residual-in_err-line.ensures.1 in
    let none : c.in_ok-found.found.line ≡ None = none-from_test c.in_ok-found.found.line (sym c.is_some.ensures ∙ c.if-is_some.false) in
    let last : c.last-last.result.now ≡ drop (length c.args.ahead.now - c.in_ok-found.found.left) c.args.ahead.now = c.last-last.ensures ∙ ap (λ n. drop (length c.args.ahead.now - n) c.args.ahead.now) (c.in_ok-found.ensures.searched none) in
    rw (p.1, p.2) (fails-behind c.args.max k c.args.ahead.now c.last-last.result.now c.in_ok-found.found _ (c.in_ok-found.ensures.found k first) none last c.in_err-line.ensures.says c.in_err-line.ensures.speaks c.in_err-line.ensures.right)

pub returns : goal.returns
returns c k first =
    let none : c.in_ok-found.found.line ≡ None = none-from_test c.in_ok-found.found.line (sym c.is_some.ensures ∙ c.if-is_some.false) in
    let last : c.last-last.result.now ≡ drop (length c.args.ahead.now - c.in_ok-found.found.left) c.args.ahead.now = c.last-last.ensures ∙ ap (λ n. drop (length c.args.ahead.now - n) c.args.ahead.now) (c.in_ok-found.ensures.searched none) in
    looked-behind c.args.max k c.args.ahead.now c.last-last.result.now c.in_ok-found.found c.in_ok-line.line (c.in_ok-found.ensures.found k first) none last c.in_ok-line.ensures.says
