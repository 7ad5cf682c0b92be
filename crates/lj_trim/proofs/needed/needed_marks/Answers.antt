use Rattle.std.proofs.Common.{arith, ◌≡◌, true, ◌∙◌, sym, subst, map, length}
use Rattle.std.specs.List.{AllByRecursion}
use Rattle.std.proofs.lemmas.Bool.{false≢true}
use Rattle.std.proofs.lemmas.List.{length-map}
use Rattle.lj_text.specs.Needed.{empty_numbers}
use Rattle.lj_trim.specs.inner.Marks.{is_marked, IsCovered, Covers}
use Rattle.lj_trim.specs.inner.Front.{needed_in, lent_addition}
use Rattle.lj_trim.proofs.MarkLemmas.{all-map, covered_unmarked}
use Rattle.lj_trim.proofs.ClosureLemmas.{needed-empty, needed-covers, marked-needed}
use Rattle.lj_trim.proofs.needed.needed_marks.Goals as goal

pub loop-begun-init : goal.loop-begun-init
loop-begun-init c =
    let steps = c.args.steps.now in
    let m = c.in_ok-mark_empty.ensures in
    record {
      first = m.all;
      within = m.only (needed_in steps) (λ n h. absurd (false≢true (sym (c.in_ok-marks.ensures n) ∙ h))) (needed-empty steps);
      covers = subst (AllByRecursion (Covers (needed_in steps))) (sym c.in_ok-begun.ensures) (needed-covers steps);
      closes = λ k g h. subst (AllByRecursion (IsCovered k)) c.in_ok-begun.ensures h;
    }

pub returns-then-len : goal.returns-then-len
returns-then-len c =
    let steps = c.args.steps.now in
    let p = c.in_ok-still.ensures in
    let i = c.loop-begun.invariant in
    let equal : length c.in_ok-still.still.items ≡ length c.loop-begun.begun.items = omega (arith, c.in_ok-still.still.ok, c.loop-begun.begun.ok, c.len.ensures, c.if-len.true, c.len-in-loop-begun.ensures) in
    let same = length-map c.in_ok-still.still.items lent_addition ∙ equal ∙ sym (length-map c.loop-begun.begun.items lent_addition) in
    let after = c.pass.new.marks in
    let first = all-map (λ n. is_marked c.loop-begun.marks n ≡ true) (λ n. is_marked after n ≡ true) p.grows (empty_numbers steps) i.first in
    let within = p.only (needed_in steps) i.within i.covers in
    marked-needed steps after first within (i.closes after p.grows (p.closes after (λ n h. h) (covered_unmarked after (map lent_addition c.in_ok-still.still.items) (p.idle same))))

pub loop-begun-preserved : goal.loop-begun-preserved
loop-begun-preserved c =
    let steps = c.args.steps.now in
    let p = c.in_ok-still.ensures in
    let i = c.loop-begun.invariant in
    record {
      first = all-map (λ n. is_marked c.loop-begun.marks n ≡ true) (λ n. is_marked c.pass.new.marks n ≡ true) p.grows (empty_numbers steps) i.first;
      within = p.only (needed_in steps) i.within i.covers;
      covers = p.stays (needed_in steps) i.covers;
      closes = λ k g h. i.closes k (λ n e. g n (p.grows n e)) (p.closes k g h);
    }
