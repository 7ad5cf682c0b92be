use Rattle.std.proofs.Common.{◌∷◌, [], inr, ap, ◌∙◌}
use Rattle.std.proofs.lemmas.Result.{err_from_is_err_and}
use Rattle.lj_text.specs.Bytes.{tokens_of}
use Rattle.lj_text.specs.CnfReading.{formula_after}
use Rattle.lj_text.specs.inner.CnfReading.{body_tokens_behind}
use Rattle.lj_text.proofs.CnfLemmas.{first-kept, goes-true, goes-false, told-at}
use Rattle.lj_text.proofs.cnf.state.take_tokens.Goals as goal

pub loop-token-preserved : goal.loop-token-preserved
loop-token-preserved c = record {
  reads = λ last line rest.
      let behind = body_tokens_behind line (tokens_of c.in-Some.after.now) rest in
      c.loop-token.invariant.reads last line rest
      ∙ ap (λ ts. formula_after c.loop-token.body last (body_tokens_behind line ts rest)) c.in-Some.ensures.some
      ∙ goes-false c.in_ok-take.field-0 last line (c.in-Some.token.now ∷ []) behind c.loop-token.body c.take.new.self c.if-branch.false (c.in_ok-take.ensures.reads last line behind);
  first = inr (first-kept c.args.body.now c.loop-token.body (tokens_of c.args.bytes.now) (tokens_of c.loop-token.left.now) c.in-Some.token.now (tokens_of c.in-Some.after.now) c.loop-token.invariant.first c.in-Some.ensures.some (c.in_ok-take.ensures.memory c.if-branch.false));
}

pub returns-then-branch-clause-reads : goal.returns-then-branch-clause-reads
returns-then-branch-clause-reads c last line rest =
    let behind = body_tokens_behind line (tokens_of c.in-Some.after.now) rest in
    c.loop-token.invariant.reads last line rest
    ∙ ap (λ ts. formula_after c.loop-token.body last (body_tokens_behind line ts rest)) c.in-Some.ensures.some
    ∙ goes-true c.in_ok-take.field-0 last line (c.in-Some.token.now ∷ []) behind c.loop-token.body c.take.new.self c.if-branch.true (c.in_ok-take.ensures.reads last line behind)

pub returns-in_err-take-clause-reads : goal.returns-in_err-take-clause-reads
returns-in_err-take-clause-reads c last line rest =
    let behind = body_tokens_behind line (tokens_of c.in-Some.after.now) rest in
    let p = err_from_is_err_and c.from_residual.result c.from_residual.ensures.1 in
    rw (p.1, p.2) (told-at c.in_err-take.field-0.0 line _ _
    (c.loop-token.invariant.reads last line rest ∙ ap (λ ts. formula_after c.loop-token.body last (body_tokens_behind line ts rest)) c.in-Some.ensures.some)
    (c.in_err-take.ensures.reads last line behind))

pub returns-in_err-take-clause-memory : goal.returns-in_err-take-clause-memory
returns-in_err-take-clause-memory c =
    let p = err_from_is_err_and c.from_residual.result c.from_residual.ensures.1 in
    rw (p.1, p.2) (λ memory. first-kept c.args.body.now c.loop-token.body (tokens_of c.args.bytes.now) (tokens_of c.loop-token.left.now) c.in-Some.token.now (tokens_of c.in-Some.after.now) c.loop-token.invariant.first c.in-Some.ensures.some (c.in_err-take.ensures.memory memory))
