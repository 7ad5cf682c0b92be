use Rattle.std.proofs.Common.{◌≡◌, ◌≤◌, ◌+◌, ap, sym, ◌∙◌, subst, Bool, cond, take, drop, arith}
use Rattle.std.specs.Prelude.{List, [], ◌∷◌, ◌++◌, length, is_ok}
use Rattle.std.specs.Vec.{vec_len}
use Rattle.std.proofs.lemmas.List.{take_more}
use Rattle.lj_clause.specs.ClauseMap.{FormulaValue, IsFormula}
use Rattle.lj_book.specs.declared.event.Event.{Event}
use Rattle.lj_book.specs.declared.event.Reply.{Reply}
use Rattle.lj_book.specs.declared.event.Pending.{Pending}
use Rattle.lj_book.specs.Named.{NamedState, IsNamedReached}
use Rattle.lj_book.specs.NamedWorlds.{NamedWorld, named_nothing_pending, IsNamedAnswered}
use Rattle.lj_book.proofs.PlayLaws.{written_back, take_all}
use Rattle.lj_book.proofs.PrivateReplies.{IsKeptRun, kept_run, kept-push, private_anywhere}
use Rattle.lj_book.proofs.NamedSoloRuns.{named_alone}
use Rattle.lj_book.proofs.book.Book.play.Goals as goal

pub loop-event-preserved : goal.loop-event-preserved
loop-event-preserved c =
    let w : NamedWorld = named_nothing_pending c.args.self.now in
    let es : List Event = c.args.events.now in
    let i = c.loop-event.event-index in
    let rs : List Reply = c.loop-event.replies.items in
    let v : NamedWorld = record { state = c.loop-event.self; pending = c.loop-event.pending.items } in
    let u : NamedWorld = record { state = c.answer-reply.new.self; pending = c.answer-reply.new.pending } in
    let whole : c.loop-event.pending.len ≡ length c.answer-reply.new.pending =
    c.loop-event.pending.ok.0 ∙ ap (λ (ps : List Pending). length ps) (sym c.deref_mut.ensures.value) ∙ sym c.answer-reply.auto.pending in
    let answered : IsNamedAnswered v c.event-item.result c.answer-reply.result u =
    subst (λ (ps : List Pending). IsNamedAnswered (record { state = c.loop-event.self; pending = ps }) c.event-item.result c.answer-reply.result u) c.deref_mut.ensures.value c.answer-reply.ensures.run in
    let more : take (i + 1) es ≡ take i es ++ c.event-item.result ∷ [] =
    take_more es i c.event-item.result c.loop-event-test.true ∙ ap (λ (e : Event). take i es ++ e ∷ []) (sym c.event-item.is) in
    let pushed : c.push.new.self.items ≡ rs ++ c.answer-reply.result ∷ [] =
    c.push.ensures.items ∙ ap (λ (b : Bool). cond b (rs ++ c.answer-reply.result ∷ []) rs) (ap is_ok c.unwrap.ensures) in
    let counted : vec_len c.push.new.self ≡ vec_len c.loop-event.replies + 1 =
    c.push.ensures.len ∙ ap (λ (b : Bool). cond b (vec_len c.loop-event.replies + 1) (vec_len c.loop-event.replies)) (ap is_ok c.unwrap.ensures) in
    let len = c.loop-event.invariant.len in
    let capacity = c.loop-event.invariant.capacity in
    let grown = c.push.ensures.capacity in
    record {
      run =
          subst (λ (ps : List Pending). IsKeptRun w (take (i + 1) es) c.push.new.self.items (record { state = c.answer-reply.new.self; pending = ps })) (sym (written_back c.answer-reply.new.pending (drop (length c.answer-reply.new.pending) c.loop-event.pending.items) c.loop-event.pending.len whole))
          (subst (λ (qs : List Reply). IsKeptRun w (take (i + 1) es) qs u) (sym pushed)
          (subst (λ (ds : List Event). IsKeptRun w ds (rs ++ c.answer-reply.result ∷ []) u) (sym more)
          (kept-push w (take i es) rs v u c.event-item.result c.answer-reply.result c.loop-event.invariant.run answered c.answer-reply.ensures.private)));
      len = omega arith;
      capacity = omega arith;
    }

pub returns-clause-run : goal.returns-clause-run
returns-clause-run c =
    let w : NamedWorld = named_nothing_pending c.args.self.now in
    let es : List Event = c.args.events.now in
    let v : NamedWorld = record { state = c.loop-event.self; pending = c.loop-event.pending.items } in
    let all : length es ≤ c.loop-event.event-index = omega arith in (
      c.loop-event.pending.items,
      kept_run w es c.loop-event.replies.items v
          (subst (λ (ds : List Event). IsKeptRun w ds c.loop-event.replies.items v) (take_all es c.loop-event.event-index all) c.loop-event.invariant.run),
    )

pub returns-clause-private : goal.returns-clause-private
returns-clause-private c =
    let w : NamedWorld = named_nothing_pending c.args.self.now in
    let es : List Event = c.args.events.now in
    let v : NamedWorld = record { state = c.loop-event.self; pending = c.loop-event.pending.items } in
    let all : length es ≤ c.loop-event.event-index = omega arith in
    private_anywhere c.args.self.now es c.loop-event.replies.items v
    (subst (λ (ds : List Event). IsKeptRun w ds c.loop-event.replies.items v) (take_all es c.loop-event.event-index all) c.loop-event.invariant.run)

pub returns-clause-alone : goal.returns-clause-alone
returns-clause-alone c = λ seat tidy.
    let s : NamedState = c.args.self.now in
    let w : NamedWorld = named_nothing_pending s in
    let es : List Event = c.args.events.now in
    let v : NamedWorld = record { state = c.loop-event.self; pending = c.loop-event.pending.items } in
    let all : length es ≤ c.loop-event.event-index = omega arith in
    let formula : IsFormula s.formula = subst (λ (t : NamedState). IsFormula t.formula) c.self.view_is (subst (λ (f : FormulaValue). IsFormula f) c.formula.ensures c.variables.ensures.formula) in
    named_alone s c.loop-event.self es c.loop-event.replies.items c.loop-event.pending.items seat formula
    (subst (λ (t : NamedState). IsNamedReached t) c.self.view_is c.self.invariant.reached)
    c.events_are_proper.ensures
    (kept_run w es c.loop-event.replies.items v
    (subst (λ (ds : List Event). IsKeptRun w ds c.loop-event.replies.items v) (take_all es c.loop-event.event-index all) c.loop-event.invariant.run))
    tidy
