use Rattle.std.proofs.Common.{◌≡◌, ◌<◌, List, ℕ, [], ◌∷◌, ◌++◌, length, take, sym, ap, ◌∙◌, subst, arith}
use Rattle.std.proofs.lemmas.Bool.Decides.{nat_tests}
use Rattle.std.proofs.lemmas.Grind.{common_steps}
use Rattle.std.specs.Prelude.{is_ok}
use Rattle.std.proofs.lemmas.List.{take-append-drop}
use Rattle.lj_text.specs.inner.LinesBuffered.{IsLineRun}
use Rattle.lj_text.proofs.RunLemmas.{all-runs_more, all-appended, joined-piece, ok-appended}
use Rattle.lj_text.proofs.lines.runs.push_piece.Goals as goal

pub returns-clause-ok : goal.returns-clause-ok
returns-clause-ok c =
    let run_is : c.new.result ≡ c.args.rest.now.items ++ c.split_at.result.0.now = c.new.ensures ∙ ap (λ v. v.items) c.replace.ensures.value ∙ c.in_ok-extend_from_slice.ensures.items in
    let parts : c.split_at.result.0.now ++ c.split_at.result.1.now ≡ c.args.piece.now =
    ap (λ a. a ++ c.split_at.result.1.now) c.split_at.ensures.front ∙ ap (λ b. take c.share.result c.args.piece.now ++ b) c.split_at.ensures.back ∙ take-append-drop c.share.result c.args.piece.now in
    let pushed : c.push_back_reserved.new.self.items ≡ c.args.runs.now.items ++ c.new.result ∷ [] =
    c.push_back_reserved.ensures.items ∙ ap (λ rs. rs ++ c.new.result ∷ []) c.in_ok-reserve-2.ensures.items in
    rw c.replace.ensures.after
    (ok-appended c.append.result c.append.new.self.items c.push_back_reserved.new.self.items c.in_ok-more.more.items c.in_ok-more.last.items _ c.append.ensures.items
    (rw pushed (joined-piece c.args.runs.now.items c.in_ok-more.more.items c.new.result c.args.rest.now.items c.split_at.result.0.now c.split_at.result.1.now c.in_ok-more.last.items c.args.piece.now run_is c.in_ok-more.ensures.bytes parts)))

pub returns-clause-whole : goal.returns-clause-whole
returns-clause-whole c =
    let head : List ℕ = take c.share.result c.args.piece.now in
    let run_is : c.new.result ≡ c.deref.result.now ++ head =
    c.new.ensures ∙ ap (λ v. v.items) c.replace.ensures.value ∙ c.in_ok-extend_from_slice.ensures.items
    ∙ ap (λ a. a ++ c.split_at.result.0.now) (sym c.deref.ensures.value) ∙ ap (λ h. c.deref.result.now ++ h) c.split_at.ensures.front in
    let some_left : 0 < length c.split_at.result.1.now = grind (arith, nat_tests, common_steps, c.is_empty.ensures, c.if-is_empty.false) in
    let some : c.share.result < length c.args.piece.now = omega (arith, some_left, c.split_at.ensures.back_len) in
    let pushed : c.push_back_reserved.new.self.items ≡ c.args.runs.now.items ++ c.new.result ∷ [] =
    c.push_back_reserved.ensures.items ∙ ap (λ rs. rs ++ c.new.result ∷ []) c.in_ok-reserve-2.ensures.items in
    let small = c.replace.result.small in
    let ok = c.replace.result.ok in
    let One : List ℕ → Type 0 = IsLineRun in
    let run : IsLineRun (c.deref.result.now ++ head) =
    record { long = c.share.ensures.long some; ended = c.share.ensures.ends some; late = c.share.ensures.late; countable = omega (arith, small, ok.0, ok.1, ap length (sym run_is ∙ c.new.ensures)) } in
    all-appended (is_ok c.append.result) c.append.new.self.items (c.args.runs.now.items ++ c.new.result ∷ []) c.in_ok-more.more.items (rw (← pushed) c.append.ensures.items)
    (all-runs_more c.args.runs.now.items c.new.result c.requires.whole (subst One (sym run_is) run)) c.in_ok-more.ensures.whole
