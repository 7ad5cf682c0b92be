use Rattle.std.proofs.Common.{refl, ◌∙◌}
use Rattle.clap.specs.Matches.{found_of}
use Rattle.lj_run.proofs.ArgsLemmas.{flag_is}
use Rattle.lj_run.proofs.args.is_given.Goals as goal

pub returns : goal.returns
returns c = c.eq.ensures ∙ flag_is (found_of c.args.matches.now) c.args.name.now c.get_str.result _ c.get_str.ensures refl
