use Rattle.std.proofs.Common.{◌≡◌, ◌<◌, ℕ, List, [], ◌++◌, length, take, subst}
use Rattle.std.specs.Prelude.{Result, Ok, Err, OnErr}
use Rattle.lj_text.specs.inner.Writing.{Broke}
use Rattle.lj_text.proofs.WritingLemmas.{broke_flushed}
use Rattle.lj_text.proofs.writer.buffer.OutputBuffer.flush.Goals as goal

-- a beginning of what was held was taken, and not all of it
broken : {E : Type 0} (r : Result (Unit {0}) E) (before buffer after : List ℕ) → OnErr r ((n : ℕ) × (n < length buffer) × (after ≡ before ++ take n buffer)) → OnErr r (Broke before buffer after [])
broken (Ok x) before buffer after h = tt
broken (Err e) before buffer after h = broke_flushed before buffer after h.0 h.1 h.2

first_three : {E : Type 0} (r : Result (Unit {0}) E) (before buffer after : List ℕ) (Q : ℕ → Type 0) → OnErr r ((n : ℕ) × (n < length buffer) × (after ≡ before ++ take n buffer) × Q n) → OnErr r ((n : ℕ) × (n < length buffer) × (after ≡ before ++ take n buffer))
first_three (Ok x) before buffer after Q h = tt
first_three (Err e) before buffer after Q h = (h.0, h.1, h.2)

pub returns-clause-broke : goal.returns-clause-broke
returns-clause-broke g c =
    let before = g.W.Sink.taken c.args.sink.now in
    let after = g.W.Sink.taken c.write_all-outcome.new.sink in
    let P : List ℕ → Type 0 = λ buffer. OnErr c.write_all-outcome.result ((n : ℕ) × (n < length buffer) × (after ≡ before ++ take n buffer)) in
    broken c.write_all-outcome.result before c.args.self.now after (subst P c.self.view_is (first_three c.write_all-outcome.result before _ after _ c.write_all-outcome.ensures.beginning))
