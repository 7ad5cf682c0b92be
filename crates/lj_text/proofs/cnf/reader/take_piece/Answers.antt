use Rattle.std.proofs.Common.{◌≡◌, ℕ, ◌<◌, ◌++◌, [], List, sym, subst, length, arith, rules}
use Rattle.std.proofs.lemmas.Bool.Decides.{nat_tests}
use Rattle.std.proofs.lemmas.Grind.{common_steps}
use Rattle.lj_text.specs.LinesRead.{HasNoLineEnd}
use Rattle.lj_text.specs.inner.CnfBuffered.{Taken}
use Rattle.lj_text.proofs.TakeLemmas.{going-none, going-more, taken-fault, taken-rest, scratch-line, scratch-refused, sound_state, no_line_end-both}
use Rattle.lj_text.proofs.cnf.reader.take_piece.Goals as goal

pub loop-front-init : goal.loop-front-init
loop-front-init c = record {
  none = c.requires.none;
  sound = λ h. h;
  going = going-none c.args.max c.args.first c.args.before c.args.buffer.now.items c.args.piece.now;
}

pub returns-in-Faulty-clause-taken : goal.returns-in-Faulty-clause-taken
returns-in-Faulty-clause-taken c =
    let left = c.loop-front.buffer.items in
    let front = c.in-Some.front.now in
    taken-fault c.args.max c.args.first c.loop-front.number c.args.before c.loop-front.state c.in-Faulty.fault c.args.buffer.now.items c.args.piece.now left c.loop-front.rest.now front c.in-Some.after.now c.after_buffered_line.new.buffer.items
    c.loop-front.invariant.going c.in-Some.ensures.some (no_line_end-both left front c.loop-front.invariant.none c.in-Some.ensures.line) c.after_buffered_line.ensures.none
    c.in-Faulty.ensures.reads

pub returns-in-Faulty-clause-memory : goal.returns-in-Faulty-clause-memory
returns-in-Faulty-clause-memory c sound memory =
    let told = c.in-Faulty.ensures.told (c.loop-front.invariant.sound sound) in
    scratch-line c.args.max c.args.first c.loop-front.number c.in-Faulty.fault.line c.args.before c.loop-front.state c.args.buffer.now.items c.args.piece.now c.loop-front.buffer.items c.loop-front.rest.now c.in-Some.front.now c.in-Some.after.now
    c.loop-front.invariant.going c.in-Some.ensures.some told.0 (told.1 memory)

pub loop-front-preserved : goal.loop-front-preserved
loop-front-preserved c =
    let left = c.loop-front.buffer.items in
    let front = c.in-Some.front.now in
    let sound = sound_state c.after_buffered_line.result c.in_default-after_buffered_line.not-Faulty in
    let empty : c.after_buffered_line.new.buffer.items ≡ [] = c.after_buffered_line.ensures.done sound in
    record {
      none = c.after_buffered_line.ensures.none;
      sound = λ before. sound;
      going = rw (empty, c.saturating_add-number.ensures) (going-more c.args.max c.args.first c.loop-front.number c.args.before c.loop-front.state c.after_buffered_line.result c.args.buffer.now.items c.args.piece.now left c.loop-front.rest.now front c.in-Some.after.now
          c.loop-front.invariant.going c.in-Some.ensures.some (no_line_end-both left front c.loop-front.invariant.none c.in-Some.ensures.line)
          c.after_buffered_line.ensures.reads c.in_default-after_buffered_line.not-Faulty);
    }

pub returns-in-Ok-clause-taken : goal.returns-in-Ok-clause-taken
returns-in-Ok-clause-taken c =
    let left = c.loop-front.buffer.items in
    let rest = c.loop-front.rest.now in
    let e : c.extend_from_slice.new.self.items ≡ left ++ rest = c.in-Ok.ensures.items in
    let none : HasNoLineEnd rest = search rules in
    let P : List ℕ → Type 0 = λ l. Taken c.args.max c.args.first c.args.before c.args.buffer.now.items c.args.piece.now c.loop-front.state c.loop-front.number l in
    subst P (sym e) (taken-rest c.args.max c.args.first c.loop-front.number c.args.before c.loop-front.state c.args.buffer.now.items c.args.piece.now left rest
    c.loop-front.invariant.going (no_line_end-both left rest c.loop-front.invariant.none none))

pub returns-in-Err-clause-memory : goal.returns-in-Err-clause-memory
returns-in-Err-clause-memory c sound =
    let rest = c.loop-front.rest.now in
    let none : HasNoLineEnd rest = search rules in
    let some : 0 < length rest = grind (arith, nat_tests, common_steps, c.is_empty.ensures, c.if-is_empty.false) in
    scratch-refused c.args.max c.args.first c.loop-front.number c.args.before c.loop-front.state c.args.buffer.now.items c.args.piece.now c.loop-front.buffer.items rest c.refused_at.result
    c.loop-front.invariant.going c.loop-front.invariant.none none some c.refused_at.ensures
