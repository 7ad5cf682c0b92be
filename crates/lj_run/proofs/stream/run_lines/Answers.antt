use Rattle.std.proofs.Common.{rules, List, Ok, Option, None, sym, ap, ◌∙◌, subst}
use Rattle.lj_text.specs.Streams.{source_state}
use Rattle.lj_text.specs.LinesRead.{LinesRead}
use Rattle.lj_share.specs.declared.numbered.Numbered.{Numbered}
use Rattle.lj_run.specs.Run.{IsStreamRun}
use Rattle.lj_run.specs.declared.stream.Tally.{Tally}
use Rattle.lj_run.specs.inner.Block.{BlockRead, BlockEntered}
use Rattle.lj_run.specs.inner.Joint.{report_of}
use Rattle.lj_run.specs.declared.reading.Next.TheVariants as nexts
use Rattle.lj_run.specs.inner.Reading.{LineRead, LineMissed}
use Rattle.lj_run.specs.inner.Tally.{with_end}
use Rattle.lj_run.proofs.StreamLemmas.{EnteredBefore, entered_more, lines_entered, block_entered, run_stopped, run_ended, run_missed, run_missed_ahead, run_without_memory, run_ended_within}
use Rattle.lj_run.proofs.stream.run_lines.Goals as goal
use Rattle.lj_clause.specs.declared.lit.TheConstants.{MAX_VARIABLE}

pub returns-then-is_stopped : goal.returns-then-is_stopped
returns-then-is_stopped g c =
    let seen = source_state g.S.Source.given g.S.Source.ended g.S.Source.rest g.S.Source.failures in
    let i = c.loop.invariant in
    let run = run_stopped seen (λ lines. g.E.Entering.entered c.args.seat.now lines c.loop.seat) (g.E.Entering.refused c.loop.seat) (g.E.Entering.stopped c.loop.seat) (g.E.Entering.goes_on c.loop.seat) c.args.source.now c.loop.source c.loop.tally c.loop.reader i.runs.so_far i.unfailed (c.is_stopped.ensures.stopped c.if-is_stopped.true) in
    subst (λ (t : Tally). IsStreamRun (λ lines. g.E.Entering.entered c.args.seat.now lines c.loop.seat) (g.E.Entering.refused c.loop.seat) (g.E.Entering.stopped c.loop.seat) (g.E.Entering.goes_on c.loop.seat) seen c.args.source.now (report_of t c.loop.source)) (sym c.ending.ensures) run

pub returns-in-Some-fault : goal.returns-in-Some-fault
returns-in-Some-fault g c =
    let seen = source_state g.S.Source.given g.S.Source.ended g.S.Source.rest g.S.Source.failures in
    let i = c.loop.invariant in
    let told = subst (λ (o : Option _). EnteredBefore (λ lines. g.E.Entering.entered c.args.seat.now lines c.loop.seat) (seen c.args.source.now) (seen c.loop.source) c.loop.tally c.loop.reader o) c.in-Some-fault.is i.runs in
    let run = run_missed_ahead seen (λ lines. g.E.Entering.entered c.args.seat.now lines c.loop.seat) (g.E.Entering.refused c.loop.seat) (g.E.Entering.stopped c.loop.seat) (g.E.Entering.goes_on c.loop.seat) c.args.source.now c.loop.source c.loop.tally c.loop.reader c.in-Some-fault.behind c.at.result told i.unfailed (c.is_stopped.ensures.goes_on c.if-is_stopped.false) in
    let ended = c.ending-in-Some-fault.ensures ∙ ap (λ e. with_end c.loop.tally e None) c.missed.ensures in
    subst (λ (t : Tally). IsStreamRun (λ lines. g.E.Entering.entered c.args.seat.now lines c.loop.seat) (g.E.Entering.refused c.loop.seat) (g.E.Entering.stopped c.loop.seat) (g.E.Entering.goes_on c.loop.seat) seen c.args.source.now (report_of t c.loop.source)) (sym ended) run

pub returns-in-Ok-End : goal.returns-in-Ok-End
returns-in-Ok-End g c =
    let seen = source_state g.S.Source.given g.S.Source.ended g.S.Source.rest g.S.Source.failures in
    let i = c.loop.invariant in
    let r = i.runs.so_far in
    let before = seen c.loop.source in
    let after = seen c.next_line.new.source in
    let new = c.next_line.new.reader in
    let told = subst (λ o. LineRead c.loop.reader.max r.text r.handed new before after o) c.in-Ok-End.field-0-is (c.in-Ok-End.ensures.next r.text r.handed r.stands) in
    let read = subst (λ m. LineRead m r.text r.handed new before after nexts.End) i.max told in
    let run = run_ended seen (λ lines. g.E.Entering.entered c.args.seat.now lines c.loop.seat) (g.E.Entering.refused c.loop.seat) (g.E.Entering.stopped c.loop.seat) (g.E.Entering.goes_on c.loop.seat) c.args.source.now c.loop.source c.next_line.new.source c.loop.tally c.loop.reader new r read c.in-Ok-End.ensures.unfailed (c.is_stopped.ensures.goes_on c.if-is_stopped.false) in
    subst (λ (t : Tally). IsStreamRun (λ lines. g.E.Entering.entered c.args.seat.now lines c.loop.seat) (g.E.Entering.refused c.loop.seat) (g.E.Entering.stopped c.loop.seat) (g.E.Entering.goes_on c.loop.seat) seen c.args.source.now (report_of t c.next_line.new.source)) (sym c.ending-in-Ok-End.ensures) run

pub loop-preserved-in-Ok-More : goal.loop-preserved-in-Ok-More
loop-preserved-in-Ok-More g c =
    let seen = source_state g.S.Source.given g.S.Source.ended g.S.Source.rest g.S.Source.failures in
    let i = c.loop.invariant in
    let r = i.runs.so_far in
    let before = seen c.loop.source in
    let after = seen c.next_line.new.source in
    let new = c.next_line.new.reader in
    let told = subst (λ o. LineRead c.loop.reader.max r.text r.handed new before after o) c.in-Ok-More.field-0-is (c.in-Ok-More.ensures.next r.text r.handed r.stands) in
    let read = subst (λ m. LineRead m r.text r.handed new before after nexts.More) i.max told in
    let runs = entered_more (λ lines. g.E.Entering.entered c.args.seat.now lines c.loop.seat) (seen c.args.source.now) before after c.loop.tally c.loop.reader new r read in
    record {
      goes = tt;
      finite = tt;
      unfailed = c.in-Ok-More.ensures.unfailed;
      may_read = λ none. c.in-Ok-More.ensures.may_read;
      empty = i.empty;
      ended = c.in-Ok-More.ensures.ended;
      max = c.in-Ok-More.ensures.max ∙ i.max;
      scratch = search rules;
      known = i.known;
      runs = subst (λ (o : Option _). EnteredBefore (λ lines. g.E.Entering.entered c.args.seat.now lines c.loop.seat) (seen c.args.source.now) after c.loop.tally new o) (sym c.in_default.is) runs;
    }

pub returns-in-Err : goal.returns-in-Err
returns-in-Err g c =
    let seen = source_state g.S.Source.given g.S.Source.ended g.S.Source.rest g.S.Source.failures in
    let i = c.loop.invariant in
    let r = i.runs.so_far in
    let before = seen c.loop.source in
    let after = seen c.next_line.new.source in
    let told = subst (λ m. LineMissed m r.text r.handed c.next_line.new.reader.at before after c.in-Err.miss) i.max (c.in-Err.ensures.miss r.text r.handed r.stands) in
    let miss = subst (λ n. LineMissed MAX_VARIABLE r.text r.handed n before after c.in-Err.miss) (sym c.at-in-Err.ensures) told in
    let run = run_missed seen (λ lines. g.E.Entering.entered c.args.seat.now lines c.loop.seat) (g.E.Entering.refused c.loop.seat) (g.E.Entering.stopped c.loop.seat) (g.E.Entering.goes_on c.loop.seat) c.args.source.now c.loop.source c.next_line.new.source c.loop.tally c.loop.reader r c.at-in-Err.result c.in-Err.miss miss c.in-Err.ensures.failures (c.is_stopped.ensures.goes_on c.if-is_stopped.false) in
    let ended = c.ending-in-Err.ensures ∙ ap (λ e. with_end c.loop.tally e None) c.missed-in-Err.ensures in
    subst (λ (t : Tally). IsStreamRun (λ lines. g.E.Entering.entered c.args.seat.now lines c.loop.seat) (g.E.Entering.refused c.loop.seat) (g.E.Entering.stopped c.loop.seat) (g.E.Entering.goes_on c.loop.seat) seen c.args.source.now (report_of t c.next_line.new.source)) (sym ended) run

pub returns-in-Err-fill : goal.returns-in-Err-fill
returns-in-Err-fill g c =
    let seen = source_state g.S.Source.given g.S.Source.ended g.S.Source.rest g.S.Source.failures in
    let i = c.loop.invariant in
    let r = i.runs.so_far in
    let before = seen c.loop.source in
    let after = seen c.next_line.new.source in
    let mid = c.next_line.new.reader in
    let told = subst (λ o. LineRead c.loop.reader.max r.text r.handed mid before after o) c.in-Ok-Line.field-0-is (c.in-Ok-Line.ensures.next r.text r.handed r.stands) in
    let read = subst (λ m. LineRead m r.text r.handed mid before after (nexts.Line c.in-Ok-Line.line)) i.max told in
    let at = c.at-in-Err-fill.ensures ∙ ap (λ (q : LinesRead). q.at) c.in-Err-fill.ensures.kept in
    let run = run_without_memory seen (λ lines. g.E.Entering.entered c.args.seat.now lines c.loop.seat) (g.E.Entering.refused c.loop.seat) (g.E.Entering.stopped c.loop.seat) (g.E.Entering.goes_on c.loop.seat) c.args.source.now c.loop.source c.next_line.new.source c.loop.tally c.loop.reader mid r c.in-Ok-Line.line c.in-Err-fill.e c.at-in-Err-fill.result at read c.in-Ok-Line.ensures.unfailed (c.is_stopped.ensures.goes_on c.if-is_stopped.false) in
    let ended = c.ending-in-Err-fill.ensures ∙ ap (λ e. with_end c.loop.tally e None) c.out_of_memory.ensures in
    subst (λ (t : Tally). IsStreamRun (λ lines. g.E.Entering.entered c.args.seat.now lines c.loop.seat) (g.E.Entering.refused c.loop.seat) (g.E.Entering.stopped c.loop.seat) (g.E.Entering.goes_on c.loop.seat) seen c.args.source.now (report_of t c.next_line.new.source)) (sym ended) run

pub returns-in-Some-enter_block : goal.returns-in-Some-enter_block
returns-in-Some-enter_block g c =
    let seen = source_state g.S.Source.given g.S.Source.ended g.S.Source.rest g.S.Source.failures in
    let i = c.loop.invariant in
    let r = i.runs.so_far in
    let before = seen c.loop.source in
    let after = seen c.next_line.new.source in
    let mid = c.next_line.new.reader in
    let told = subst (λ o. LineRead c.loop.reader.max r.text r.handed mid before after o) c.in-Ok-Line.field-0-is (c.in-Ok-Line.ensures.next r.text r.handed r.stands) in
    let read = subst (λ m. LineRead m r.text r.handed mid before after (nexts.Line c.in-Ok-Line.line)) i.max told in
    let new = c.fill.new.reader in
    let lines = c.fill.new.lines.items in
    let max = c.in-Ok-Line.ensures.max ∙ i.max in
    let block = subst (λ m. BlockRead m r.text r.handed new before after lines c.in-Ok.behind) max
    (c.in-Ok.ensures.read r.text r.handed before after (subst (λ m. LineRead m r.text r.handed mid before after (nexts.Line c.in-Ok-Line.line)) (sym max) read)) in
    let more = c.enter_block.new.tally in
    let seat = c.enter_block.new.seat in
    let now = λ (ls : List Numbered) (o : Option _). BlockEntered (λ lines. g.E.Entering.entered c.loop.seat lines seat) (g.E.Entering.refused seat) (g.E.Entering.stopped seat) (g.E.Entering.goes_on seat) ls c.loop.tally more o in
    let entered = subst (now lines) c.in-Some-enter_block.is c.enter_block.ensures.entered in
    let enters = lines_entered g.E.Entering.entered g.met.E.Entering.further c.args.seat.now c.loop.seat seat (seen c.args.source.now) before c.loop.tally c.loop.reader r after new lines c.in-Ok.behind entered.count block entered.within entered.enters in
    let run = run_ended_within seen (λ lines. g.E.Entering.entered c.args.seat.now lines seat) (g.E.Entering.refused seat) (g.E.Entering.stopped seat) (g.E.Entering.goes_on seat) (λ lines. g.E.Entering.entered c.args.seat.now lines c.loop.seat) c.args.source.now c.loop.source c.next_line.new.source c.loop.tally more c.loop.reader new r lines c.in-Ok.behind block entered.count entered.within enters entered.counted c.in-Ok-Line.ensures.unfailed c.in-Some-enter_block.ending.0 c.in-Some-enter_block.ending.1 entered.ends in
    subst (λ (t : Tally). IsStreamRun (λ lines. g.E.Entering.entered c.args.seat.now lines seat) (g.E.Entering.refused seat) (g.E.Entering.stopped seat) (g.E.Entering.goes_on seat) seen c.args.source.now (report_of t c.next_line.new.source)) (sym c.ending_at.ensures) run

pub loop-preserved : goal.loop-preserved
loop-preserved g c =
    let seen = source_state g.S.Source.given g.S.Source.ended g.S.Source.rest g.S.Source.failures in
    let i = c.loop.invariant in
    let r = i.runs.so_far in
    let before = seen c.loop.source in
    let after = seen c.next_line.new.source in
    let mid = c.next_line.new.reader in
    let told = subst (λ o. LineRead c.loop.reader.max r.text r.handed mid before after o) c.in-Ok-Line.field-0-is (c.in-Ok-Line.ensures.next r.text r.handed r.stands) in
    let read = subst (λ m. LineRead m r.text r.handed mid before after (nexts.Line c.in-Ok-Line.line)) i.max told in
    let new = c.fill.new.reader in
    let lines = c.fill.new.lines.items in
    let max = c.in-Ok-Line.ensures.max ∙ i.max in
    let block = subst (λ m. BlockRead m r.text r.handed new before after lines c.in-Ok.behind) max
    (c.in-Ok.ensures.read r.text r.handed before after (subst (λ m. LineRead m r.text r.handed mid before after (nexts.Line c.in-Ok-Line.line)) (sym max) read)) in
    let more = c.enter_block.new.tally in
    let seat = c.enter_block.new.seat in
    let now = λ (ls : List Numbered) (o : Option _). BlockEntered (λ lines. g.E.Entering.entered c.loop.seat lines seat) (g.E.Entering.refused seat) (g.E.Entering.stopped seat) (g.E.Entering.goes_on seat) ls c.loop.tally more o in
    let entered = subst (now lines) c.in_default-enter_block.is c.enter_block.ensures.entered in
    let runs = block_entered g.E.Entering.entered g.met.E.Entering.further c.args.seat.now c.loop.seat seat (seen c.args.source.now) before after c.loop.tally c.loop.reader new lines c.in-Ok.behind r block entered.count entered.within entered.enters more entered.counted entered.ends in
    record {
      goes = tt;
      finite = tt;
      unfailed = c.in-Ok-Line.ensures.unfailed;
      may_read = λ none.
          let ok = c.in-Ok-Line.ensures.may_read in
          let is = ap (λ (o : Option _). Ok o) none in
          record {
            no_fault = ap (λ (q : LinesRead). q.fault) c.take_back.ensures.reader ∙ c.in-Ok.ensures.no_fault is;
            goes_on = λ goes. ap (λ (q : LinesRead). q.finished) c.take_back.ensures.reader ∙ c.in-Ok.ensures.finished ∙ ok.goes_on goes;
          };
      empty = c.take_back.ensures.empty;
      ended = c.in-Ok-Line.ensures.ended;
      max = ap (λ (q : LinesRead). q.max) c.take_back.ensures.reader ∙ c.in-Ok.ensures.max ∙ max;
      scratch = search rules;
      known = c.enter_block.ensures.known;
      runs = subst (λ (q : LinesRead). EnteredBefore (λ lines. g.E.Entering.entered c.args.seat.now lines seat) (seen c.args.source.now) after more q c.in-Ok.behind) (sym c.take_back.ensures.reader) runs;
    }
