use Rattle.lj_trim.proofs.RefutationLemmas as refutations
use Rattle.lj_trim.proofs.laws.front_refutes.Goals as goal

pub returns : goal.returns
returns c = refutations.front_refutes
