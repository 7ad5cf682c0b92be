use Rattle.lj_text.specs.Bytes.{tokens_of}
use Rattle.lj_text.proofs.CnfLemmas.{goes-true, goes-false}
use Rattle.lj_text.proofs.cnf.state.go_on.Goals as goal

pub returns-in-Ok-true-clause-reads : goal.returns-in-Ok-true-clause-reads
returns-in-Ok-true-clause-reads c last rest =
    goes-true c.in-Ok-true.field-0 last c.args.number (tokens_of c.args.bytes.now) rest c.args.body c.take_tokens.new.body c.in-Ok-true.field-0-test (c.in-Ok-true.ensures.reads last c.args.number rest)

pub returns-in-Ok-false-clause-reads : goal.returns-in-Ok-false-clause-reads
returns-in-Ok-false-clause-reads c last rest =
    goes-false c.in-Ok-false.field-0 last c.args.number (tokens_of c.args.bytes.now) rest c.args.body c.take_tokens.new.body c.in-Ok-false.field-0-test (c.in-Ok-false.ensures.reads last c.args.number rest)
