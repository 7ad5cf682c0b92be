use Rattle.std.proofs.Common.{inr, ◌+◌, ◌++◌, Option, Ok, refl, sym, ap, ◌∙◌, subst, add-zero}
use Rattle.std.specs.Prelude.{slice_get}
use Rattle.lj_text.specs.Lines.{all_said}
use Rattle.lj_text.specs.LinesRead.{LineReaderStandsAt, IsReadingAt, last_number, handed_out}
use Rattle.lj_text.specs.Streams.{source_state}
use Rattle.lj_run.specs.declared.reading.Next.TheVariants as nexts
use Rattle.lj_run.proofs.ReadingLemmas.{answered, none_answered, faulted, fed_none, line_of_text, fault_of_text, right_of_text, right_at_end, whole_answered, whole_said_at, line_read, line_faulty, more_read, piece_missed, passed_on}
use Rattle.lj_run.proofs.reading.next_line.Goals as goal

pub returns-in-Ok-Some-clause-next : goal.returns-in-Ok-Some-clause-next
returns-in-Ok-Some-clause-next g c = λ fed handed was.
    let seen = source_state g.S.Source.given g.S.Source.ended g.S.Source.rest g.S.Source.failures in
    let old = c.args.reader.now in
    let new = c.finish.new.self in
    let line = c.in-Ok-Some.line in
    let is = c.in-Ok-Some.field-0-is in
    let f = fed_none old.max fed handed old (seen c.args.source.now) was in
    let text = fed ++ f.piece in
    let reading : IsReadingAt old text handed = record { stands = f.stands; no_fault = c.requires.may_read.no_fault } in
    let answer = ap (λ (o : Option _). Ok o) (sym is) ∙ c.in-Ok-Some.ensures.answer text handed reading refl in
    let here = answered (slice_get (all_said old.max text) handed) line new.at (last_number text) answer (c.in-Ok-Some.ensures.at text handed reading refl) in
    let stands = subst (λ o. LineReaderStandsAt new text (handed + handed_out (Ok o))) is (c.in-Ok-Some.ensures.stands text handed f.stands) in
    line_read old.max fed handed old new (seen c.args.source.now) (seen c.args.source.now) (nexts.Line line) f here stands (λ e. cc) (inr (c.requires.ended c.if-ended.true))

pub returns-in-Ok-None-clause-next : goal.returns-in-Ok-None-clause-next
returns-in-Ok-None-clause-next g c = λ fed handed was.
    let seen = source_state g.S.Source.given g.S.Source.ended g.S.Source.rest g.S.Source.failures in
    let old = c.args.reader.now in
    let new = c.finish.new.self in
    let is = c.in-Ok-None.field-0-is in
    let f = fed_none old.max fed handed old (seen c.args.source.now) was in
    let text = fed ++ f.piece in
    let reading : IsReadingAt old text handed = record { stands = f.stands; no_fault = c.requires.may_read.no_fault } in
    let answer = ap (λ (o : Option _). Ok o) (sym is) ∙ c.in-Ok-None.ensures.answer text handed reading refl in
    let stands = subst (λ o. LineReaderStandsAt new text (handed + handed_out (Ok o))) is (c.in-Ok-None.ensures.stands text handed f.stands) in
    let ended = c.requires.ended c.if-ended.true in
    line_read old.max fed handed old new (seen c.args.source.now) (seen c.args.source.now) nexts.End f (none_answered (slice_get (all_said old.max text) handed) answer)
    (subst (λ n. LineReaderStandsAt new text n) (add-zero handed) stands) (λ e. ended) (inr ended)

pub returns-in-Err-clause-miss : goal.returns-in-Err-clause-miss
returns-in-Err-clause-miss g c = λ fed handed was.
    let seen = source_state g.S.Source.given g.S.Source.ended g.S.Source.rest g.S.Source.failures in
    let old = c.args.reader.now in
    let fault = c.in-Err.fault in
    let f = fed_none old.max fed handed old (seen c.args.source.now) was in
    let text = fed ++ f.piece in
    let reading : IsReadingAt old text handed = record { stands = f.stands; no_fault = c.requires.may_read.no_fault } in
    line_faulty old.max fed handed c.finish.new.self.at old (seen c.args.source.now) (seen c.args.source.now) fault f
    (λ memory. faulted (slice_get (all_said old.max text) handed) fault (c.in-Err.ensures.answer text handed reading memory))
    (λ memory. right_at_end old.max text handed fault.line (c.in-Err.ensures.line text handed reading) (c.in-Err.ensures.right text handed reading memory))
    (inr (c.requires.ended c.if-ended.true))

pub returns-in_err-pull_piece-in-Ok-None-next-clause-miss : goal.returns-in_err-pull_piece-in-Ok-None-next-clause-miss
returns-in_err-pull_piece-in-Ok-None-next-clause-miss g c = passed_on c.from_residual.result c.in_err-pull_piece-in-Ok-None-next.field-0.0 _ c.from_residual.ensures.1 (λ fed handed was.
    let seen = source_state g.S.Source.given g.S.Source.ended g.S.Source.rest g.S.Source.failures in
    let old = c.args.reader.now in
    let mid = c.next.new.self in
    let is = c.in-Ok-None-next.field-0-is in
    let goes = c.requires.may_read.goes_on c.if-ended.false in
    let none = c.requires.may_read.no_fault in
    let f = fed_none old.max fed handed old (seen c.args.source.now) was in
    let text = fed ++ f.piece in
    let reading : IsReadingAt old text handed = record { stands = f.stands; no_fault = none } in
    let answer = ap (λ (o : Option _). Ok o) (sym is) ∙ c.in-Ok-None-next.ensures.answer text handed reading refl in
    let passed = subst (λ o. LineReaderStandsAt mid text (handed + handed_out (Ok o))) is (c.in-Ok-None-next.ensures.stands text handed f.stands) in
    piece_missed old.max fed handed old mid c.pull_piece.new.reader (seen c.args.source.now) (seen c.args.source.now) (seen c.pull_piece.new.source) c.in_err-pull_piece-in-Ok-None-next.field-0.0 refl goes
    c.in-Ok-None-next.ensures.same.0 (c.in-Ok-None-next.ensures.same.1 ∙ goes) f answer (c.in-Ok-None-next.ensures.at text handed reading refl)
    (c.in-Ok-None-next.ensures.none_left none (ap (λ (o : Option _). Ok o) is)) passed c.in_err-pull_piece-in-Ok-None-next.ensures.miss)

pub returns-in-Ok-Some-next-clause-next : goal.returns-in-Ok-Some-next-clause-next
returns-in-Ok-Some-next-clause-next g c = λ fed handed was.
    let seen = source_state g.S.Source.given g.S.Source.ended g.S.Source.rest g.S.Source.failures in
    let old = c.args.reader.now in
    let new = c.next.new.self in
    let line = c.in-Ok-Some-next.line in
    let is = c.in-Ok-Some-next.field-0-is in
    let f = fed_none old.max fed handed old (seen c.args.source.now) was in
    let text = fed ++ f.piece in
    let reading : IsReadingAt old text handed = record { stands = f.stands; no_fault = c.requires.may_read.no_fault } in
    let answer = ap (λ (o : Option _). Ok o) (sym is) ∙ c.in-Ok-Some-next.ensures.answer text handed reading refl in
    let here = line_of_text old.max text handed new.at (last_number text) line answer (c.in-Ok-Some-next.ensures.at text handed reading refl) in
    let stands = subst (λ o. LineReaderStandsAt new text (handed + handed_out (Ok o))) is (c.in-Ok-Some-next.ensures.stands text handed f.stands) in
    line_read old.max fed handed old new (seen c.args.source.now) (seen c.args.source.now) (nexts.Line line) f here stands (λ e. cc) (whole_answered old.max text handed line (seen c.args.source.now) answer)

pub returns-in_ok-pull_piece-in-Ok-None-next-clause-next : goal.returns-in_ok-pull_piece-in-Ok-None-next-clause-next
returns-in_ok-pull_piece-in-Ok-None-next-clause-next g c = λ fed handed was.
    let seen = source_state g.S.Source.given g.S.Source.ended g.S.Source.rest g.S.Source.failures in
    let mid = c.next.new.self in
    let goes = c.requires.may_read.goes_on c.if-ended.false in
    let passed = subst (λ o. LineReaderStandsAt mid fed (handed + handed_out (Ok o))) c.in-Ok-None-next.field-0-is (c.in-Ok-None-next.ensures.stands fed handed was) in
    more_read c.args.reader.now.max fed handed mid c.pull_piece.new.reader (seen c.args.source.now) (seen c.pull_piece.new.source)
    c.in-Ok-None-next.ensures.same.0 (c.in-Ok-None-next.ensures.same.1 ∙ goes) passed c.in_ok-pull_piece-in-Ok-None-next.ensures.onward

pub returns-in-Err-next-clause-miss : goal.returns-in-Err-next-clause-miss
returns-in-Err-next-clause-miss g c = λ fed handed was.
    let seen = source_state g.S.Source.given g.S.Source.ended g.S.Source.rest g.S.Source.failures in
    let old = c.args.reader.now in
    let fault = c.in-Err-next.fault in
    let f = fed_none old.max fed handed old (seen c.args.source.now) was in
    let text = fed ++ f.piece in
    let reading : IsReadingAt old text handed = record { stands = f.stands; no_fault = c.requires.may_read.no_fault } in
    line_faulty old.max fed handed c.next.new.self.at old (seen c.args.source.now) (seen c.args.source.now) fault f
    (λ memory. fault_of_text old.max text handed fault (c.in-Err-next.ensures.answer text handed reading memory))
    (λ memory. right_of_text old.max text handed fault.line (c.in-Err-next.ensures.line text handed reading) (c.in-Err-next.ensures.right text handed reading memory))
    (whole_said_at old.max text handed fault.line (seen c.args.source.now) (c.in-Err-next.ensures.line text handed reading))
