use Rattle.lj_run.proofs.ArgsLemmas.{rows_are, fails_by}
use Rattle.lj_run.proofs.args.parsed.Goals as goal

pub returns-clause-matches : goal.returns-clause-matches
returns-clause-matches g c = rows_are _ _ _ c.in_ok-command.ensures c.try_get_matches_from.ensures.matches

pub returns-clause-kinds : goal.returns-clause-kinds
returns-clause-kinds g c = fails_by _ _ _ c.in_ok-command.ensures c.try_get_matches_from.ensures.kinds
