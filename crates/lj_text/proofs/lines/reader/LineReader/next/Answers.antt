use Rattle.std.proofs.Common.{length, ◌≡◌, ℕ, List, Option, Some, None, Result, Ok, sym, ap, ◌∙◌, subst}
use Rattle.std.specs.Prelude.{MatchOption}
use Rattle.lj_text.specs.declared.line.Line.{Line}
use Rattle.lj_text.specs.declared.lines.fault.LineFault.{LineFault}
use Rattle.lj_text.specs.Bytes.{line_number}
use Rattle.lj_text.specs.Lines.{Said}
use Rattle.lj_text.specs.LinesRead.{HasNoLineEnd, LinesRead, IsSaidAt, IsSaidRight, line_answer, line_number_of, last_number}
use Rattle.lj_text.specs.inner.LinesBuffered.{reader_past}
use Rattle.lj_text.specs.inner.Looking.{Looked, Fails, IsTaken}
use Rattle.lj_text.proofs.ReaderLemmas.{whole-at, taken-answer, taken-stands, taken-at, ahead-found, within-of, kept-at}
use Rattle.lj_text.proofs.lines.reader.LineReader.next.Goals as goal
use Rattle.lj_text.proofs.lines.reader.LineReader.next.Goals.{After-pass, After-keep}

-- where the first line was not taken, the reader is as it was
taken : (c : After-pass) → IsTaken c.args.self.now c.pass.new.self c.pass.result
taken c =
    let same = c.in_default-take_first.ensures.none in
    let P : LinesRead → Type 0 = λ r. (k : ℕ) → r.line ≡ line_number k → Looked r.max k r.ahead c.in-Ok.found in
    record {
      found = c.in-Ok.found;
      line_is = sym c.pass.ensures.line;
      passed = c.pass.ensures.passed ∙ ap (λ r. reader_past r c.in-Ok.found) (c.look_ahead.ensures.same ∙ same);
      looked = subst P same c.in-Ok.ensures.found;
    }

fails : (c : After-keep) → (k : ℕ) → c.args.self.now.line ≡ line_number k → Fails c.args.self.now.max k c.args.self.now.ahead c.in-Err.fault
fails c =
    let P : LinesRead → Type 0 = λ r. (k : ℕ) → r.line ≡ line_number k → Fails r.max k r.ahead c.in-Err.fault in
    subst P c.in_default-take_first.ensures.none c.in-Err.ensures.found

pub pass-requires : goal.pass-requires
pass-requires c =
    let counted = c.look_ahead.ensures.counted in
    let r = c.take_first.new.self in
    rw c.look_ahead.ensures.same (ahead-found r.max counted.0 r.ahead c.in-Ok.found (c.in-Ok.ensures.found counted.0 counted.1))

pub returns-in-Some-take_first-clause-answer : goal.returns-in-Some-take_first-clause-answer
returns-in-Some-take_first-clause-answer c text given reading memory =
    let r = c.args.self.now in
    taken-answer r c.take_first.new.self text given (Some c.in-Some-take_first.line) c.in-Some-take_first.ensures.some (within-of r text given (sym (ap (λ (v : LinesRead). v.finished) c.self.view_is) ∙ c.if-self.false) reading.stands)

pub returns-in-Some-take_first-clause-stands : goal.returns-in-Some-take_first-clause-stands
returns-in-Some-take_first-clause-stands c text given stands =
    let r = c.args.self.now in
    let going = sym (ap (λ (v : LinesRead). v.finished) c.self.view_is) ∙ c.if-self.false in
    taken-stands r c.take_first.new.self text given (Some c.in-Some-take_first.line) going c.in-Some-take_first.ensures.some (within-of r text given going stands)

pub returns-in-Some-take_first-clause-at : goal.returns-in-Some-take_first-clause-at
returns-in-Some-take_first-clause-at c text given reading memory =
    let r = c.args.self.now in
    taken-at r c.take_first.new.self text given (Some c.in-Some-take_first.line) c.in-Some-take_first.ensures.some (within-of r text given (sym (ap (λ (v : LinesRead). v.finished) c.self.view_is) ∙ c.if-self.false) reading.stands)

pub returns-in-Ok-clause-answer : goal.returns-in-Ok-clause-answer
returns-in-Ok-clause-answer c text given reading memory =
    let r = c.args.self.now in
    taken-answer r c.pass.new.self text given c.pass.result (taken c) (within-of r text given (sym (ap (λ (v : LinesRead). v.finished) c.self.view_is) ∙ c.if-self.false) reading.stands)

pub returns-in-Ok-clause-stands : goal.returns-in-Ok-clause-stands
returns-in-Ok-clause-stands c text given stands =
    let r = c.args.self.now in
    let going = sym (ap (λ (v : LinesRead). v.finished) c.self.view_is) ∙ c.if-self.false in
    taken-stands r c.pass.new.self text given c.pass.result going (taken c) (within-of r text given going stands)

pub returns-in-Ok-clause-at : goal.returns-in-Ok-clause-at
returns-in-Ok-clause-at c text given reading memory =
    let r = c.args.self.now in
    taken-at r c.pass.new.self text given c.pass.result (taken c) (within-of r text given (sym (ap (λ (v : LinesRead). v.finished) c.self.view_is) ∙ c.if-self.false) reading.stands)

pub returns-in-Ok-clause-none_left : goal.returns-in-Ok-clause-none_left
returns-in-Ok-clause-none_left c none left =
    let counted = c.look_ahead.ensures.counted in
    let p = c.in-Ok.ensures.found counted.0 counted.1 in
    ap (λ (v : LinesRead). v.line) c.pass.ensures.passed ∙ sym (none-at c.in-Ok.found.line c.in-Ok.found.at c.in-Ok.found.number _ p.none_is (found-none c.pass.result c.in-Ok.found.line c.pass.ensures.line left)) ∙ sym (ap (λ (v : LinesRead). v.at) c.pass.ensures.passed)
  where
    none-at : (line : Option Line) (at number : ℕ) (after : List ℕ) → MatchOption line (HasNoLineEnd after × (at ≡ number)) (λ l. Unit {0}) → line ≡ None → at ≡ number
    none-at None at number after h e = h.1
    none-at (Some l) at number after h e = cc

    found-none : (given line : Option Line) → given ≡ line → ◌≡◌ {A = Result (Option Line) LineFault} (Ok given) (Ok None) → line ≡ None
    found-none None line is e = sym is
    found-none (Some l) line is e = cc

pub returns-in-Err-clause-answer : goal.returns-in-Err-clause-answer
returns-in-Err-clause-answer c text given reading memory =
    let r = c.args.self.now in
    let s = within-of r text given (sym (ap (λ (v : LinesRead). v.finished) c.self.view_is) ∙ c.if-self.false) reading.stands in
    sym (ap line_answer (whole-at r text given s ∙ (fails c (length s.lines) s.line_is).told memory))

pub returns-in-Err-clause-at : goal.returns-in-Err-clause-at
returns-in-Err-clause-at c text given reading memory =
    let r = c.args.self.now in
    let s = within-of r text given (sym (ap (λ (v : LinesRead). v.finished) c.self.view_is) ∙ c.if-self.false) reading.stands in
    ap (λ (v : LinesRead). v.at) c.keep.ensures ∙ kept-at c.look_ahead.new.self c.in-Err.fault memory
    ∙ ap (λ o. line_number_of o (last_number text)) (sym (whole-at r text given s ∙ (fails c (length s.lines) s.line_is).told memory))

pub returns-in-Err-clause-line : goal.returns-in-Err-clause-line
returns-in-Err-clause-line c text given reading =
    let r = c.args.self.now in
    let s = within-of r text given (sym (ap (λ (v : LinesRead). v.finished) c.self.view_is) ∙ c.if-self.false) reading.stands in
    subst (λ (o : Option Said). IsSaidAt o c.in-Err.fault.line) (sym (whole-at r text given s)) (fails c (length s.lines) s.line_is).line_is

pub returns-in-Err-clause-right : goal.returns-in-Err-clause-right
returns-in-Err-clause-right c text given reading memory =
    let r = c.args.self.now in
    let s = within-of r text given (sym (ap (λ (v : LinesRead). v.finished) c.self.view_is) ∙ c.if-self.false) reading.stands in
    subst (λ (o : Option Said). IsSaidRight o) (sym (whole-at r text given s)) ((fails c (length s.lines) s.line_is).right memory)
