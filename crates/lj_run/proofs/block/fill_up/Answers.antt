use Rattle.std.proofs.Common.{List, None, Option, Some, Ok, ◌+◌, ◌∷◌, [], ◌++◌, length, refl, sym, ap, ◌∙◌, subst}
use Rattle.lj_text.specs.LinesRead.{LineReaderStandsAt, IsReadingAt, handed_out}
use Rattle.lj_share.specs.declared.numbered.Numbered.{Numbered}
use Rattle.lj_run.specs.inner.Block.{BlockRead}
use Rattle.lj_run.proofs.BlockLemmas.{block_more, block_faulty}
use Rattle.lj_run.proofs.block.fill_up.Goals as goal

pub returns-in-Err-clause-read : goal.returns-in-Err-clause-read
returns-in-Err-clause-read c = λ fed handed before after was.
    let old = c.loop.reader in
    let new = c.next.new.self in
    let lines = c.loop.lines.items in
    let fault = c.in-Err.fault in
    let i = c.loop.invariant in
    let b = i.read fed handed before after was in
    let text = fed ++ b.piece in
    let given = handed + length lines in
    let reading : IsReadingAt old text given = record { stands = b.stands; no_fault = i.no_fault } in
    let read = block_faulty c.args.reader.now.max fed handed old new before after lines fault i.max b
    (c.in-Err.ensures.answer text given reading) (c.in-Err.ensures.line text given reading) (c.in-Err.ensures.right text given reading) (c.in-Err.ensures.stands text given b.stands) in
    subst (λ (ls : List Numbered). BlockRead c.args.reader.now.max fed handed new before after ls (Some fault)) (sym c.try_reserve.ensures.items) read

pub returns-then-closes-clause-read : goal.returns-then-closes-clause-read
returns-then-closes-clause-read c = λ fed handed before after was.
    let old = c.loop.reader in
    let new = c.next.new.self in
    let lines = c.loop.lines.items in
    let line = c.in-Ok-Some.line in
    let i = c.loop.invariant in
    let b = i.read fed handed before after was in
    let text = fed ++ b.piece in
    let given = handed + length lines in
    let reading : IsReadingAt old text given = record { stands = b.stands; no_fault = i.no_fault } in
    let is = c.in-Ok-Some.field-0-is in
    let answer = ap (λ (o : Option _). Ok o) (sym is) ∙ c.in-Ok-Some.ensures.answer text given reading refl in
    let stands = subst (λ o. LineReaderStandsAt new text (given + handed_out (Ok o))) is (c.in-Ok-Some.ensures.stands text given b.stands) in
    let read = block_more c.args.reader.now.max fed handed old new before after lines line i.max b answer (c.in-Ok-Some.ensures.at text given reading refl) stands in
    let items = c.push_reserved.ensures.items ∙ ap (λ (ls : List Numbered). ls ++ record { at = c.at.result; line = line } ∷ []) c.try_reserve.ensures.items ∙ ap (λ n. lines ++ record { at = n; line = line } ∷ []) c.at.ensures in
    subst (λ (ls : List Numbered). BlockRead c.args.reader.now.max fed handed new before after ls None) (sym items) read

pub loop-preserved : goal.loop-preserved
loop-preserved c =
    let old = c.loop.reader in
    let new = c.next.new.self in
    let lines = c.loop.lines.items in
    let line = c.in-Ok-Some.line in
    let i = c.loop.invariant in
    record {
      read = λ fed handed before after was.
          let b = i.read fed handed before after was in
          let text = fed ++ b.piece in
          let given = handed + length lines in
          let reading : IsReadingAt old text given = record { stands = b.stands; no_fault = i.no_fault } in
          let is = c.in-Ok-Some.field-0-is in
          let answer = ap (λ (o : Option _). Ok o) (sym is) ∙ c.in-Ok-Some.ensures.answer text given reading refl in
          let stands = subst (λ o. LineReaderStandsAt new text (given + handed_out (Ok o))) is (c.in-Ok-Some.ensures.stands text given b.stands) in
          let read = block_more c.args.reader.now.max fed handed old new before after lines line i.max b answer (c.in-Ok-Some.ensures.at text given reading refl) stands in
          let items = c.push_reserved.ensures.items ∙ ap (λ (ls : List Numbered). ls ++ record { at = c.at.result; line = line } ∷ []) c.try_reserve.ensures.items ∙ ap (λ n. lines ++ record { at = n; line = line } ∷ []) c.at.ensures in
          subst (λ (ls : List Numbered). BlockRead c.args.reader.now.max fed handed new before after ls None) (sym items) read;
      no_fault = c.in-Ok-Some.ensures.fault i.no_fault refl;
      max = c.in-Ok-Some.ensures.same.0 ∙ i.max;
      finished = c.in-Ok-Some.ensures.same.1 ∙ i.finished;
    }
