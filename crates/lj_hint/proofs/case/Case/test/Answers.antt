use Rattle.std.proofs.Common.{ap, sym, ◌∙◌}
use Rattle.lj_clause.specs.LiteralSet.{negations}
use Rattle.lj_clause.specs.Propagation.{propagate_over}
use Rattle.lj_hint.specs.Hints.{named_hints}
use Rattle.lj_hint.specs.Ending.{ending_of}
use Rattle.lj_hint.specs.Case.{propagation_of}
use Rattle.lj_hint.proofs.Used.{closed_by_read}
use Rattle.lj_hint.proofs.case.Case.test.Goals as goal

pub into_receipt-requires : goal.into_receipt-requires
into_receipt-requires c =
    closed_by_read (negations c.args.self.lemma.clause) c.args.self.hints c.in-Ok-ClosedAfter.read
    (sym c.in-Ok-ClosedAfter.field-0-is
    ∙ c.in-Ok-ClosedAfter.ensures.ending
    ∙ (λ i. ending_of (propagate_over (negations (c.clause.ensures.clause i)) (named_hints (c.deref.ensures.value i))))
    ∙ ap (λ v. ending_of (propagation_of v)) c.self.view_is)
