use Rattle.lj_text.specs.Cnf.{read_cnf}
use Rattle.lj_text.proofs.TakeLemmas.{either, not_both, one_formula, one_fault}
use Rattle.lj_text.proofs.cnf.laws.spells_or_has_a_fault.Goals as goal

pub returns-clause-either : goal.returns-clause-either
returns-clause-either c max text = either (read_cnf max text)

pub returns-clause-not_both : goal.returns-clause-not_both
returns-clause-not_both c max text formula fault = not_both (read_cnf max text) formula fault

pub returns-clause-one_formula : goal.returns-clause-one_formula
returns-clause-one_formula c max text formula other = one_formula (read_cnf max text) formula other

pub returns-clause-one_fault : goal.returns-clause-one_fault
returns-clause-one_fault c max text fault other = one_fault (read_cnf max text) fault other
