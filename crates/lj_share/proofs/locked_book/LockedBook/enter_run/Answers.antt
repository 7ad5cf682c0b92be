use Rattle.std.proofs.Common.{◌<◌, ap, length, take, refl, sym, subst, ◌∙◌, arith}
use Rattle.std.specs.Prelude.{slice_index_or}
use Rattle.std.proofs.lemmas.List.{length-set}
use Rattle.std.proofs.lemmas.Option.{slice_get-get_or}
use Rattle.lj_clause.specs.ClauseMap.{ClauseMap}
use Rattle.lj_share.specs.inner.Seats.{clauses_seen, view_behind}
use Rattle.lj_share.specs.Refusals.{HoldsInAState, IsRefusedLine}
use Rattle.lj_share.specs.Seats.{SeatValue}
use Rattle.lj_share.specs.inner.Ahead.{AreSeen, clauses_after_line, clauses_behind}
use Rattle.lj_share.proofs.AheadLaws.{behind_next, tested_as}
use Rattle.lj_share.proofs.EnteredLaws.{entered_next, entered_none}
use Rattle.lj_share.proofs.AloneLaws.{seen_itself}
use Rattle.lj_share.proofs.RunLaws.{seen_after, view_set}
use Rattle.lj_share.proofs.locked_book.LockedBook.enter_run.Goals as goal

pub loop-k-init : goal.loop-k-init
loop-k-init g c = record {
  entered = entered_none c.args.account.now c.args.account.now c.args.lines.now refl;
  seen = seen_itself c.args.account.now.view c.requires.here;
  view = refl;
  many = refl;
}

pub enter-requires : goal.enter-requires
enter-requires g c =
    let ls = c.args.lines.now in
    let reads = c.args.reads.now in
    let k = c.loop-k.k in
    let below : k < c.args.count = c.loop-k-test.true in
    let in_lines : k < length ls = let a = c.requires.lines in omega (arith, a, below) in
    let in_reads : k < length reads = let a = c.requires.reads in omega (arith, a, below) in
    let l = slice_index_or ls k c.index-lines-k.result in
    tested_as (clauses_behind (clauses_seen c.args.account.now.view) (take k ls)) c.loop-k.account.view c.loop-k.account.number l.line (slice_index_or reads k 0) c.loop-k.invariant.seen
    (c.requires.tested k l (slice_index_or reads k 0) below (slice_get-get_or ls k c.index-lines-k.result in_lines) (slice_get-get_or reads k 0 in_reads))

pub returns-in-Err-clause-refused : goal.returns-in-Err-clause-refused
returns-in-Err-clause-refused g c =
    let ls = c.args.lines.now in
    let k = c.loop-k.k in
    let in_lines : k < length ls = let a = c.requires.lines in let below = c.loop-k-test.true in omega (arith, a, below) in
    let l = slice_index_or ls k c.index-lines-k.result in
    (l, slice_get-get_or ls k c.index-lines-k.result in_lines, subst (λ (s : SeatValue). HoldsInAState g.L.BookId.formula g.L.BookId.seats g.L.BookId.max_steps s (IsRefusedLine s.number l.line c.in-Err.refusal)) (sym c.in-Err.ensures.kept) c.in-Err.ensures.refusal)

pub loop-k-preserved : goal.loop-k-preserved
loop-k-preserved g c =
    let i = c.loop-k.invariant in
    let ls = c.args.lines.now in
    let k = c.loop-k.k in
    let joints = c.loop-k.joints in
    let view = c.args.account.now.view in
    let m = clauses_seen view in
    let below : k < c.args.count = c.loop-k-test.true in
    let many = i.many in
    let in_lines : k < length ls = let a = c.requires.lines in omega (arith, a, below) in
    let in_joints : k < length joints = let a = c.requires.joints in omega (arith, a, below, many) in
    let l = slice_index_or ls k c.index-lines-k.result in
    let at = slice_get-get_or ls k c.index-lines-k.result in_lines in
    let joint = c.in-Ok.joint in
    let after = c.enter.new.account in
    let behind = c.in-Ok.ensures.view in
    record {
      entered = entered_next c.args.account.now c.loop-k.account after ls k l at i.entered (record { made = c.in-Ok.ensures.made; free = c.in-Ok.ensures.free });
      seen = subst (λ (x : ClauseMap). AreSeen x after.view) (sym (behind_next m ls k l at)) (subst (AreSeen (clauses_after_line (clauses_behind m (take k ls)) l.line)) (sym behind) (seen_after (clauses_behind m (take k ls)) c.loop-k.account.view l.line joint i.seen));
      view = behind ∙ ap (view_behind l.line joint) i.view ∙ sym (view_set view ls joints k l joint at in_joints);
      many = length-set joints k joint ∙ many;
    }
