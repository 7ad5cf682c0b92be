use Rattle.std.proofs.Common.{◌∙◌, rules}
use Rattle.lj_text.specs.Streams.{source_state}
use Rattle.lj_run.proofs.FormulaLemmas.{read_further, all_given, failed_reading, formula_told, fault_told}
use Rattle.lj_run.proofs.reading.read_formula.Goals as goal

pub returns-in-Ok-true-clause-formula : goal.returns-in-Ok-true-clause-formula
returns-in-Ok-true-clause-formula g c =
    let seen = source_state g.F.Source.given g.F.Source.ended g.F.Source.rest g.F.Source.failures in
    let start = seen c.args.source.now in
    let after = seen c.pull_formula.new.source in
    let reader = c.pull_formula.new.reader in
    let gave = read_further c.loop.reader reader start (seen c.loop.source) after c.loop.invariant.gave c.in-Ok-true.ensures.onward in
    let all = all_given reader start after gave (c.in-Ok-true.ensures.ended c.in-Ok-true.field-0-test) c.in-Ok-true.ensures.unfailed in
    formula_told c.finish_formula.result reader start after (c.in-Ok-true.ensures.max ∙ c.loop.invariant.max) all c.finish_formula.ensures.formula

pub returns-in-Ok-true-clause-fault : goal.returns-in-Ok-true-clause-fault
returns-in-Ok-true-clause-fault g c =
    let seen = source_state g.F.Source.given g.F.Source.ended g.F.Source.rest g.F.Source.failures in
    let start = seen c.args.source.now in
    let after = seen c.pull_formula.new.source in
    let reader = c.pull_formula.new.reader in
    let gave = read_further c.loop.reader reader start (seen c.loop.source) after c.loop.invariant.gave c.in-Ok-true.ensures.onward in
    let all = all_given reader start after gave (c.in-Ok-true.ensures.ended c.in-Ok-true.field-0-test) c.in-Ok-true.ensures.unfailed in
    fault_told c.finish_formula.result reader start after (c.in-Ok-true.ensures.max ∙ c.loop.invariant.max) all c.finish_formula.ensures.fault

pub returns-in-Err-clause-fault : goal.returns-in-Err-clause-fault
returns-in-Err-clause-fault g c =
    let seen = source_state g.F.Source.given g.F.Source.ended g.F.Source.rest g.F.Source.failures in
    failed_reading (seen c.args.source.now) (seen c.loop.source) (seen c.pull_formula.new.source) c.loop.reader.fed c.loop.invariant.gave c.in-Err.ensures.none_given c.in-Err.ensures.kept
    c.in-Err.ensures.failed

pub loop-preserved : goal.loop-preserved
loop-preserved g c =
    let seen = source_state g.F.Source.given g.F.Source.ended g.F.Source.rest g.F.Source.failures in
    record {
      goes = tt;
      finite = tt;
      unfailed = search rules;
      max = search rules;
      scratch = search rules;
      gave = read_further c.loop.reader c.pull_formula.new.reader (seen c.args.source.now) (seen c.loop.source) (seen c.pull_formula.new.source) c.loop.invariant.gave c.in-Ok-false.ensures.onward;
    }
