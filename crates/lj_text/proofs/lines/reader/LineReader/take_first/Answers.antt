use Rattle.std.proofs.Common.{◌≡◌, ℕ, ◌+◌, ◌-◌, ◌^◌, List, ◌∷◌, ◌++◌, length, drop, min, Some, ap, ◌∙◌, refl, subst, append_assoc, arith, length-append}
use Rattle.lj_text.specs.LinesRead.{LinesRead}
use Rattle.lj_text.specs.inner.Looking.{IsTaken}
use Rattle.lj_text.proofs.PassLemmas.{passed-none, looked-some}
use Rattle.lj_text.proofs.lines.reader.LineReader.take_first.Goals as goal

pub returns-clause-some : goal.returns-clause-some
returns-clause-some c =
    let i = c.self.inside in
    let line = c.in_ok-line.line in
    let front : List ℕ = c.front-bytes.result.now in
    let behind : List ℕ = c.front-bytes.ensures.0 in
    let read = c.in_ok-line.ensures.read in
    let bytes : List ℕ = read.line in
    let left : List ℕ = c.in_ok-line.after.now in
    let after : List ℕ = left ++ behind in
    let past : ℕ → List ℕ → LinesRead = λ number ahead. record { max = i.max; ahead = ahead; line = number; at = i.line; finished = i.finished; fault = i.fault } in
    let cut : i.buffer ≡ bytes ++ 10 ∷ after = c.front-bytes.ensures.1 ∙ ap (λ t. t ++ behind) read.bytes_is ∙ append_assoc bytes (10 ∷ left) behind in
    let count : length front - length left ≡ length i.buffer - length after =
    omega (arith, ap length cut, ap length read.bytes_is, length-append bytes (10 ∷ after), length-append bytes (10 ∷ left), length-append left behind) in
    let P : LinesRead → Type 0 = λ old. IsTaken old (past c.saturating_add-self-inside.result c.pass_line.new.self) (Some line) in
    subst P c.self.view_is (record {
      found = record { line = Some line; at = i.line; number = min (i.line + 1) (2 ^ 64 - 1); left = length after; searched = 0 };
      line_is = refl;
      passed = ap (λ n. past n c.pass_line.new.self) c.saturating_add-self-inside.ensures ∙ ap (past (min (i.line + 1) (2 ^ 64 - 1))) (c.pass_line.ensures ∙ ap (λ n. drop n i.buffer) count);
      looked = λ k first. looked-some i.max i.line k i.buffer i.buffer bytes after i.line (length after) line (passed-none i.max i.line i.buffer) first cut read.none_within read.right refl;
    })
