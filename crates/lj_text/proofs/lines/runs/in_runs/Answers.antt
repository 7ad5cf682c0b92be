use Rattle.std.proofs.Common.{◌≡◌, ◌<◌, List, ℕ, [], ◌∷◌, ◌++◌, length, take, sym, ap, ◌∙◌, subst, arith}
use Rattle.std.proofs.lemmas.List.{take_all, take-append-drop}
use Rattle.std.specs.List.{AllByRecursion, concat}
use Rattle.lj_text.specs.inner.LinesBuffered.{HasNoLateEnd, IsLineRun}
use Rattle.lj_text.proofs.RunLemmas.{all-runs_more, concat-more}
use Rattle.lj_text.proofs.lines.runs.in_runs.Goals as goal

pub loop-count-preserved : goal.loop-count-preserved
loop-count-preserved c =
    let l = c.loop-count in
    let lt : l.count < length l.rest.now = omega (arith, c.loop-count-test.true) in
    let made : c.new.result ≡ c.in_ok-from_slice.field-0.items = c.new.ensures in
    let value : c.new.result ≡ take l.count l.rest.now = made ∙ c.in_ok-from_slice.ensures.items ∙ c.split_at.ensures.front in
    let items : c.push_back.new.self.items ≡ l.runs.items ++ c.new.result ∷ [] = c.in_ok-push_back.ensures.items in
    let parts : c.new.result ++ c.split_at.result.1.now ≡ l.rest.now =
    ap (λ v. v ++ c.split_at.result.1.now) value ∙ ap (λ a. take l.count l.rest.now ++ a) c.split_at.ensures.back ∙ take-append-drop l.count l.rest.now in
    let All : List (List ℕ) → Type 0 = AllByRecursion IsLineRun in
    let One : List ℕ → Type 0 = IsLineRun in
    let small = c.in_ok-from_slice.field-0.small in
    let ok = c.in_ok-from_slice.field-0.ok in
    record {
      bytes = ap (λ rs. concat rs ++ c.split_at.result.1.now) items ∙ concat-more l.runs.items c.new.result c.split_at.result.1.now ∙ ap (λ bs. concat l.runs.items ++ bs) parts ∙ l.invariant.bytes;
      whole = subst All (sym items) (all-runs_more l.runs.items c.new.result l.invariant.whole
          (subst One (sym value) (record { long = l.invariant.long lt; ended = l.invariant.ends lt; late = l.invariant.late; countable = omega (arith, small, ok.0, ok.1, ap length (sym value ∙ made)) })));
      within = c.share-count-in-loop-count.ensures.within;
      ends = c.share-count-in-loop-count.ensures.ends;
      long = c.share-count-in-loop-count.ensures.long;
      late = c.share-count-in-loop-count.ensures.late;
    }

pub returns-clause-late : goal.returns-clause-late
returns-clause-late c =
    let P : List ℕ → Type 0 = HasNoLateEnd in
    let last : c.extend_from_slice.new.self.items ≡ c.loop-count.rest.now = c.in_ok-extend_from_slice.ensures.items ∙ ap (λ bs. bs ++ c.loop-count.rest.now) c.in_ok-last.ensures.items in
    subst P (take_all c.loop-count.count c.loop-count.rest.now (omega (arith, c.loop-count-test.false)) ∙ sym last) c.loop-count.invariant.late
