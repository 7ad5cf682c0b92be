use Rattle.std.proofs.Common.{sym, ◌∙◌}
use Rattle.lj_hint.proofs.NumberHints.{clause_at-none}
use Rattle.lj_hint.proofs.live.NumberHintsHintList.clause.Goals as goal

pub returns-in-None : goal.returns-in-None
returns-in-None g c = clause_at-none (g.C.Clauses.clauses c.args.self.now.clauses.now) c.args.self.now.numbers c.args.index (sym c.get.ensures ∙ c.in-None.is)
