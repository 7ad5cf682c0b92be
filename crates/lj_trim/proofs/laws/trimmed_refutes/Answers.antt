use Rattle.lj_trim.proofs.RefutationLemmas as refutations
use Rattle.lj_trim.proofs.laws.trimmed_refutes.Goals as goal

pub returns : goal.returns
returns c = refutations.trimmed_refutes
