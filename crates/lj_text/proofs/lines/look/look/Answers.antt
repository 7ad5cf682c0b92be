use Rattle.std.proofs.Common.{arith, ap, ◌∙◌, Ok}
use Rattle.std.proofs.lemmas.Result.{err_from_is_err_and}
use Rattle.lj_text.proofs.PassLemmas.{passed-more, looked-some, fails-here}
use Rattle.lj_text.proofs.lines.look.look.Goals as goal

pub loop-bytes-preserved : goal.loop-bytes-preserved
loop-bytes-preserved c = record {
  passed = rw c.saturating_add-next.ensures (passed-more c.args.max c.args.first c.args.ahead.now c.loop-bytes.rest c.in-Some.bytes.now c.in-Some.after c.loop-bytes.number
      c.loop-bytes.invariant.passed c.in-Some.ensures.some c.in-Some.ensures.line (c.in_ok-parse_at.ensures.says ∙ ap Ok c.in-None.is));
  within = omega arith;
  none = λ k d h. absurd (omega arith);
}

pub returns-in-Some-2-clause-found : goal.returns-in-Some-2-clause-found
returns-in-Some-2-clause-found c k first = rw c.saturating_add-next.ensures (looked-some c.args.max c.args.first k c.args.ahead.now c.loop-bytes.rest c.in-Some.bytes.now c.in-Some.after c.loop-bytes.number _ c.in-Some-2.line
    c.loop-bytes.invariant.passed first c.in-Some.ensures.some c.in-Some.ensures.line (c.in_ok-parse_at.ensures.says ∙ ap Ok c.in-Some-2.is) c.count.ensures)

pub returns-in_err-parse_at-clause-found : goal.returns-in_err-parse_at-clause-found
returns-in_err-parse_at-clause-found c k first =
    let p = err_from_is_err_and c.from_residual.result c.from_residual.ensures.1 in
    rw (p.1, p.2) (fails-here c.args.max c.args.first k c.args.ahead.now c.loop-bytes.rest c.in-Some.bytes.now c.in-Some.after c.loop-bytes.number _
    c.loop-bytes.invariant.passed first c.in-Some.ensures.some c.in-Some.ensures.line c.in_err-parse_at.ensures.says c.in_err-parse_at.ensures.speaks c.in_err-parse_at.ensures.right)
