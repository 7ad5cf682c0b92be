use Rattle.std.proofs.Common.{◌≡◌}
use Rattle.std.specs.List.{list_all}
use Rattle.lj_trim.specs.inner.Trimmed.{keeps}
use Rattle.lj_trim.proofs.trimming.all_kept.Given as goal

-- the candidates so far are kept
abbrev pub invariant-loop-group : goal.invariant-loop-group
invariant-loop-group l = list_all (λ g. keeps l.clauses l.marks g.candidate) l.group-iterator ≡ list_all (λ g. keeps l.clauses l.marks g.candidate) l.groups
