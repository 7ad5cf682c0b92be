use Rattle.std.proofs.Common.{◌≡◌, ℕ, List, map, take}
use Rattle.lj_text.specs.Streams.{source_state}
use Rattle.lj_run.specs.Program.{HasInputs}
use Rattle.lj_run.proofs.opening.open_all.Given as goal

abbrev pub invariant-loop-path : goal.invariant-loop-path
invariant-loop-path g l = record {
  same : (other : List ℕ) → g.F.Files.content l.files other ≡ g.F.Files.content l.initial.files other;
  tried : g.F.Files.tried l.files ≡ g.F.Files.tried l.initial.files;
  opened : HasInputs (source_state g.F.Input.Source.given g.F.Input.Source.ended g.F.Input.Source.rest g.F.Input.Source.failures)
      (map (λ path. g.F.Files.content l.initial.files path.now) (take l.path-index l.paths)) l.inputs.items;
}
