use Rattle.lj_hint.proofs.Receipts.{receipt_rup, receipt_implied}
use Rattle.lj_hint.proofs.laws.receipt_implies.Goals as goal

pub returns-clause-rup : goal.returns-clause-rup
returns-clause-rup c = receipt_rup

pub returns-clause-implied : goal.returns-clause-implied
returns-clause-implied c = receipt_implied
