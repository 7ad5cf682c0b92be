-- The lines of streams, one after another.
use Rattle.std.proofs.Common.{◌≡◌, ℕ, suc, ◌+◌, ◌<◌, List, [], ◌∷◌, ◌++◌, length, take, sym, ap, ap₂, ◌∙◌, append-nil, append_assoc, get_or, arith}
use Rattle.std.proofs.lemmas.List.{take_more, length-take}
use Rattle.lj_run.specs.declared.outcome.Report.{Report}
use Rattle.lj_run.specs.OutcomeText.{stream_line, stream_lines}

-- the line of one more stream stands behind the others
pub stream_lines-push : {S : Type 0} (reports : List (Report S)) (n : ℕ) (report : Report S)
    → stream_lines n (reports ++ report ∷ []) ≡ stream_lines n reports ++ stream_line (n + length reports) report
stream_lines-push [] n report =
    let same : n ≡ n + 0 = omega arith in
    append-nil (stream_line n report) ∙ ap (λ m. stream_line m report) same
stream_lines-push (r ∷ reports) n report =
    let same : n + 1 + length reports ≡ n + suc (length reports) = omega arith in
    ap (λ t. stream_line n r ++ t) (stream_lines-push reports (n + 1) report ∙ ap (λ m. stream_lines (n + 1) reports ++ stream_line m report) same)
    ∙ sym (append_assoc (stream_line n r) (stream_lines (n + 1) reports) (stream_line (n + suc (length reports)) report))

-- one line more
pub lines_more : {S : Type 0} (reports : List (Report S)) (k : ℕ) (report : Report S) (text after : List ℕ) → k < length reports → report ≡ get_or reports k report
    → text ≡ stream_lines 0 (take k reports) → after ≡ text ++ stream_line k report → after ≡ stream_lines 0 (take (k + 1) reports)
lines_more reports k report text after low here so_far is =
    let len : k ≡ 0 + length (take k reports) = omega (arith, length-take k reports) in
    is ∙ ap₂ (λ t s. t ++ s) so_far (ap₂ stream_line len here)
    ∙ sym (ap (stream_lines 0) (take_more reports k report low) ∙ stream_lines-push (take k reports) 0 (get_or reports k report))
