use Rattle.std.proofs.Common.{ap, ap₂, codes, length, map, refl, sym, ◌∙◌}
use Rattle.std.proofs.lemmas.List.{length-map}
use Rattle.clap.specs.Matches.{found_of}
use Rattle.lj_run.specs.CommandLine.{way_of}
use Rattle.lj_run.proofs.ArgsLemmas.{asks_found, asks_told, values_are}
use Rattle.lj_run.proofs.args.run_of.Goals as goal

pub returns : goal.returns
returns c =
    let found = found_of c.args.matches.now in
    let values = ap (λ r. map (λ v. v.now) r.now) c.unwrap_or-proofs.ensures ∙ values_are found (codes "PROOF") c.get_raw.result _ refl c.get_raw.ensures in
    let count = sym (length-map c.unwrap_or-proofs.result.now (λ v. v.now)) ∙ ap length values in
    let way = c.way_of.ensures ∙ ap₂ way_of c.is_given-in_turn.ensures count in
    let request = c.in_ok-request.ensures ∙ asks_found found _ _ _ _ _ c.get_str.ensures values c.get_str-2.ensures c.get_str-3.ensures way in
    asks_told found _ _ _ _ _ _ _ _ request c.get_str-4.ensures c.is_given-trim.ensures c.is_given-explain.ensures c.with_proof-request.ensures c.with_explain-request.ensures c.is_given-progress.ensures c.with_progress.ensures
