use Rattle.std.proofs.Common.{◌∙◌, rules}
use Rattle.lj_run.proofs.ArgsLemmas.{parsed_is_limit, signed_is_none}
use Rattle.lj_run.proofs.args.limit_of.Goals as goal

pub returns-then-starts_with : goal.returns-then-starts_with
returns-then-starts_with c = signed_is_none c.args.text.now (search rules)

pub returns : goal.returns
returns c = c.ok.ensures.value ∙ parsed_is_limit c.args.text.now c.parse.result (search rules) c.parse.ensures.value.0
