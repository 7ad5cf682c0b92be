use Rattle.lj_clause.proofs.RatLaws.{IsRecordedForm-rat}
use Rattle.lj_clause.proofs.laws.covered_is_recorded.Goals as goal

pub returns : goal.returns
returns c = IsRecordedForm-rat
