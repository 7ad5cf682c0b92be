use Rattle.std.proofs.Common.{length, Option, Ok, sym, ap, ◌∙◌, subst}
use Rattle.lj_text.specs.Lines.{Said}
use Rattle.lj_text.specs.LinesRead.{LinesRead, IsSaidAt, IsSaidRight, line_answer, line_number_of, last_number}
use Rattle.lj_text.specs.inner.LinesBuffered.{reader_past}
use Rattle.lj_text.proofs.ReaderLemmas.{at_true, at_false, all-at, all-found, behind-found, answers, stands-passed, stands-behind, target-some, target-behind, ahead-found, ahead-behind, within-of, stands-of, stands-kept, kept-at, kept-max}
use Rattle.lj_text.proofs.lines.reader.LineReader.finish.Goals as goal

pub pass-line-requires : goal.pass-line-requires
pass-line-requires c =
    let counted = c.look_to_end.ensures.counted in
    rw c.look_to_end.ensures.same (ahead-behind c.args.self.now.max counted.0 c.args.self.now.ahead c.in-Ok-default-true.found (at_true c.in-Ok-default-true.field-0-1 _ _ c.in-Ok-default-true.field-0-1-test (c.in-Ok-default-true.ensures.found counted.0 counted.1)))

pub pass-requires : goal.pass-requires
pass-requires c =
    let counted = c.look_to_end.ensures.counted in
    rw c.look_to_end.ensures.same (ahead-found c.args.self.now.max counted.0 c.args.self.now.ahead c.in-Ok-default-false.found (at_false c.in-Ok-default-false.field-0-1 _ _ c.in-Ok-default-false.field-0-1-test (c.in-Ok-default-false.ensures.found counted.0 counted.1)).0)

pub returns-in-Ok-default-true-clause-answer : goal.returns-in-Ok-default-true-clause-answer
returns-in-Ok-default-true-clause-answer c text given reading memory =
    let r = c.args.self.now in
    let s = within-of r text given (sym (ap (λ (v : LinesRead). v.finished) c.self.view_is) ∙ c.if-self.false) reading.stands in
    let found = c.in-Ok-default-true.found in
    let p = at_true c.in-Ok-default-true.field-0-1 _ _ c.in-Ok-default-true.field-0-1-test (c.in-Ok-default-true.ensures.found (length s.lines) s.line_is) in
    ap Ok c.pass-line.ensures.line ∙ sym (ap line_answer (all-at r text given s ∙ behind-found r.max (length s.lines) r.ahead found p) ∙ answers found.at found.line)

pub returns-in-Ok-default-true-clause-stands : goal.returns-in-Ok-default-true-clause-stands
returns-in-Ok-default-true-clause-stands c text given stands =
    let r = c.args.self.now in
    let s = within-of r text given (sym (ap (λ (v : LinesRead). v.finished) c.self.view_is) ∙ c.if-self.false) stands in
    let found = c.in-Ok-default-true.found in
    let p = at_true c.in-Ok-default-true.field-0-1 _ _ c.in-Ok-default-true.field-0-1-test (c.in-Ok-default-true.ensures.found (length s.lines) s.line_is) in
    let now = c.self-in-Ok-default-true.view_is ∙ c.pass-line.ensures.passed in
    rw c.pass-line.ensures.line (stands-behind r _ text given found s p (ap (λ (v : LinesRead). v.max) now ∙ ap (λ (v : LinesRead). v.max) c.look_to_end.ensures.same) (ap (λ (v : LinesRead). v.line) now))

pub returns-in-Ok-default-true-clause-at : goal.returns-in-Ok-default-true-clause-at
returns-in-Ok-default-true-clause-at c text given reading memory =
    let r = c.args.self.now in
    let s = within-of r text given (sym (ap (λ (v : LinesRead). v.finished) c.self.view_is) ∙ c.if-self.false) reading.stands in
    let p = at_true c.in-Ok-default-true.field-0-1 _ _ c.in-Ok-default-true.field-0-1-test (c.in-Ok-default-true.ensures.found (length s.lines) s.line_is) in
    let now = c.self-in-Ok-default-true.view_is ∙ c.pass-line.ensures.passed in
    ap (λ (v : LinesRead). v.at) now ∙ target-behind r text given c.in-Ok-default-true.found s p

pub returns-in-Ok-default-false-clause-answer : goal.returns-in-Ok-default-false-clause-answer
returns-in-Ok-default-false-clause-answer c text given reading memory =
    let r = c.args.self.now in
    let s = within-of r text given (sym (ap (λ (v : LinesRead). v.finished) c.self.view_is) ∙ c.if-self.false) reading.stands in
    let found = c.in-Ok-default-false.found in
    let p = at_false c.in-Ok-default-false.field-0-1 _ _ c.in-Ok-default-false.field-0-1-test (c.in-Ok-default-false.ensures.found (length s.lines) s.line_is) in
    ap Ok c.pass.ensures.line ∙ sym (ap line_answer (all-at r text given s ∙ all-found r.max (length s.lines) r.ahead found p.0 p.1) ∙ answers found.at found.line)

pub returns-in-Ok-default-false-clause-stands : goal.returns-in-Ok-default-false-clause-stands
returns-in-Ok-default-false-clause-stands c text given stands =
    let r = c.args.self.now in
    let going = sym (ap (λ (v : LinesRead). v.finished) c.self.view_is) ∙ c.if-self.false in
    let s = within-of r text given going stands in
    let found = c.in-Ok-default-false.found in
    let p = at_false c.in-Ok-default-false.field-0-1 _ _ c.in-Ok-default-false.field-0-1-test (c.in-Ok-default-false.ensures.found (length s.lines) s.line_is) in
    rw (c.pass.ensures.passed, c.look_to_end.ensures.same, c.pass.ensures.line) (stands-of (reader_past r found) text _ going (stands-passed r text given found s p.0))

pub returns-in-Ok-default-false-clause-at : goal.returns-in-Ok-default-false-clause-at
returns-in-Ok-default-false-clause-at c text given reading memory =
    let r = c.args.self.now in
    let s = within-of r text given (sym (ap (λ (v : LinesRead). v.finished) c.self.view_is) ∙ c.if-self.false) reading.stands in
    let p = at_false c.in-Ok-default-false.field-0-1 _ _ c.in-Ok-default-false.field-0-1-test (c.in-Ok-default-false.ensures.found (length s.lines) s.line_is) in
    ap (λ (v : LinesRead). v.at) c.pass.ensures.passed ∙ target-some r text given c.in-Ok-default-false.found s p.0 p.1

pub returns-in-Err-clause-answer : goal.returns-in-Err-clause-answer
returns-in-Err-clause-answer c text given reading memory =
    let r = c.args.self.now in
    let s = within-of r text given (sym (ap (λ (v : LinesRead). v.finished) c.self.view_is) ∙ c.if-self.false) reading.stands in
    sym (ap line_answer (all-at r text given s ∙ (c.in-Err.ensures.found (length s.lines) s.line_is).told memory))

pub returns-in-Err-clause-stands : goal.returns-in-Err-clause-stands
returns-in-Err-clause-stands c text given stands =
    let r = c.args.self.now in
    let going = sym (ap (λ (v : LinesRead). v.finished) c.self.view_is) ∙ c.if-self.false in
    rw (c.keep.ensures, c.look_to_end.ensures.same) (stands-kept r c.in-Err.fault text given going (within-of r text given going stands))

pub returns-in-Err-clause-at : goal.returns-in-Err-clause-at
returns-in-Err-clause-at c text given reading memory =
    let r = c.args.self.now in
    let s = within-of r text given (sym (ap (λ (v : LinesRead). v.finished) c.self.view_is) ∙ c.if-self.false) reading.stands in
    ap (λ (v : LinesRead). v.at) c.keep.ensures ∙ kept-at c.look_to_end.new.self c.in-Err.fault memory
    ∙ ap (λ o. line_number_of o (last_number text)) (sym (all-at r text given s ∙ (c.in-Err.ensures.found (length s.lines) s.line_is).told memory))

pub returns-in-Err-clause-max : goal.returns-in-Err-clause-max
returns-in-Err-clause-max c = ap (λ (v : LinesRead). v.max) c.keep.ensures ∙ kept-max c.look_to_end.new.self c.in-Err.fault ∙ ap (λ (v : LinesRead). v.max) c.look_to_end.ensures.same

pub returns-in-Err-clause-line : goal.returns-in-Err-clause-line
returns-in-Err-clause-line c text given reading =
    let r = c.args.self.now in
    let s = within-of r text given (sym (ap (λ (v : LinesRead). v.finished) c.self.view_is) ∙ c.if-self.false) reading.stands in
    subst (λ (o : Option Said). IsSaidAt o c.in-Err.fault.line) (sym (all-at r text given s)) (c.in-Err.ensures.found (length s.lines) s.line_is).line_is

pub returns-in-Err-clause-right : goal.returns-in-Err-clause-right
returns-in-Err-clause-right c text given reading memory =
    let r = c.args.self.now in
    let s = within-of r text given (sym (ap (λ (v : LinesRead). v.finished) c.self.view_is) ∙ c.if-self.false) reading.stands in
    subst (λ (o : Option Said). IsSaidRight o) (sym (all-at r text given s)) ((c.in-Err.ensures.found (length s.lines) s.line_is).right memory)
