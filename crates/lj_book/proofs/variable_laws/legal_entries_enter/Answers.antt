use Rattle.lj_book.proofs.EnteringLaws.{over_beneath, legal_enters, taken_beneath_is_legal}
use Rattle.lj_book.proofs.variable_laws.legal_entries_enter.Goals as goal

pub returns-clause-over : goal.returns-clause-over
returns-clause-over c = over_beneath

pub returns-clause-leads : goal.returns-clause-leads
returns-clause-leads c = legal_enters

pub returns-clause-legal : goal.returns-clause-legal
returns-clause-legal c = taken_beneath_is_legal
