use Rattle.std.proofs.Common.{length, refl, slice_set, subst, sym, take, ◌∙◌, ◌<◌, arith}
use Rattle.std.specs.Prelude.{slice_index_or}
use Rattle.std.proofs.lemmas.List.{length-set}
use Rattle.std.proofs.lemmas.Option.{slice_get-get_or}
use Rattle.lj_clause.specs.ClauseMap.{ClauseMap}
use Rattle.lj_share.specs.inner.Seats.{clauses_seen, pairs_seen}
use Rattle.lj_share.specs.inner.Ahead.{AreKept, clauses_behind}
use Rattle.lj_share.proofs.AheadLaws.{behind_next, tested_next}
use Rattle.lj_share.proofs.RunLaws.{begun_next, dead_next, kept_after, kept_id}
use Rattle.lj_share.proofs.runs.begin_lines.Goals as goal

pub loop-k-init : goal.loop-k-init
loop-k-init g c = record {
  tested = λ k l read below line_at read_at. absurd (let no : ⊥ = omega (arith, below) in no);
  begun = c.requires.own.1;
  there = c.requires.own.0;
  here = c.requires.here;
  dead = c.requires.none;
  kept = kept_id g.L.BookId.formula c.args.kept.now c.args.dead.now c.args.account.now.view c.requires.none c.requires.own;
  many = refl;
}

pub loop-k-preserved : goal.loop-k-preserved
loop-k-preserved g c =
    let f = g.L.BookId.formula in
    let i = c.loop-k.invariant in
    let ls = c.args.lines.now in
    let reads = c.loop-k.reads in
    let k = c.loop-k.k in
    let view = c.args.account.now.view in
    let m = clauses_seen view in
    let below = c.loop-k-test.true in
    let end = c.min-end.ensures in
    let many = i.many in
    let in_lines : k < length ls = omega (arith, below, end) in
    let in_reads : k < length reads = omega (arith, below, end, many) in
    let l = slice_index_or ls k c.index-lines-k.result in
    let at = slice_get-get_or ls k c.index-lines-k.result in_lines in
    let read = c.in-Ok.read in
    let is = c.in-Ok.ensures.behind in
    let gone = c.in-Ok.ensures.dead in
    let one = c.in-Ok.ensures.begun in
    let after = c.begin_next.new.kept in
    record {
      tested = tested_next m ls reads (slice_set reads k read) k l read i.tested at in_reads c.in-Ok.ensures.tested refl;
      begun = begun_next f (pairs_seen view) ls k l c.loop-k.kept after at is i.begun one;
      there = one.2.0 ∙ i.there;
      here = one.2.0 ∙ i.here;
      dead = dead_next ls k l c.loop-k.dead c.begin_next.new.dead at i.dead gone;
      kept = subst (λ (x : ClauseMap). AreKept f after c.begin_next.new.dead view x) (sym (behind_next m ls k l at)) (kept_after f c.loop-k.kept after c.loop-k.dead c.begin_next.new.dead view (clauses_behind m (take k ls)) (take k ls) l.line i.dead is gone i.kept one);
      many = length-set reads k read ∙ many;
    }
