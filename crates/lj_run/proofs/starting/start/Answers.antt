use Rattle.std.proofs.Common.{◌∙◌, ap, drop, map, string_bytes}
use Rattle.lj_run.proofs.StartLemmas.{program_ends, taken_same}
use Rattle.lj_run.proofs.starting.start.Goals as goal

pub returns-in-Ok-clause-ends : goal.returns-in-Ok-clause-ends
returns-in-Ok-clause-ends g c =
    rw c.in-Ok.is (program_ends _ _ _ _ _ _ _ _ _ _ _ _ _ _ c.program.result _ (ap (map string_bytes) (c.args_of-args.ensures ∙ ap (drop 1) c.deref.ensures.value)) c.from.ensures
    c.program.ensures.status c.program.ensures.printed c.program.ensures.same_report c.program.ensures.refuted c.program.ensures.told (λ low silent. ap g.E.Sink.taken (c.program.ensures.quiet low silent)) c.program.ensures.explained
    (λ high none. taken_same g.O.Sink.taken _ _ _ (c.program.ensures.untouched high none)) c.program.ensures.cut c.program.ensures.fault c.program.ensures.same_files
    c.program.ensures.created)
