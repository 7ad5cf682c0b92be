-- What the parser's rules and lines are.
use Rattle.std.specs.Prelude.{◌≡◌, map, false, option_map}
use Rattle.clap.specs.Walk.{Rule, rule_of}
use Rattle.clap.specs.declared.builder.arg.Arg.{Arg}
use Rattle.lj_run.specs.declared.command_line.CommandLine.{CommandLine}
use Rattle.lj_run.specs.declared.command_line.Request.{Request}
use Rattle.lj_run.specs.declared.command_line.Request.TheVariants.{Run, Help, Version, Usage, Misread}
use Rattle.lj_run.specs.CommandLine.{AskedRun, Asked, a_run, misread, the_help, the_version, the_usage}

-- ---- what words ask for

-- what a command line asks for
abbrev pub line_asked : CommandLine → AskedRun
line_asked line = record {
  formula = line.formula.now;
  proofs = map (λ path. path.now) line.proofs.items;
  closing = option_map (λ path. path.now) line.closing;
  max_steps = line.max_steps;
  way = line.way;
  proof = option_map (λ path. path.now) line.proof;
  trims = line.trim;
  explains = line.explain;
  tells_progress = line.progress;
}

-- what a request asks for; of its texts nothing is said
abbrev pub request_asked : Request → Asked
request_asked (Run line) = a_run (line_asked line)
request_asked (Help text) = the_help
request_asked (Version text) = the_version
request_asked (Usage misuse) = the_usage misuse
request_asked (Misread text) = misread

-- ---- how it is built

-- an argument of the command itself, with this rule
abbrev pub HasRule : Rule → Arg → Type 0
HasRule rule a = (a.global ≡ false) × (rule_of a ≡ rule)
