-- How the program ends on the arguments that the system gave.
use Rattle.std.proofs.Common.{◌≡◌, ◌≢◌, ◌<◌, ◌≤◌, ℕ, suc, false, List, [], ◌∷◌, ◌-◌, length, min, take, drop, Option, refl, sym, ap, ◌∙◌, subst, inl, inr, arith}
use Rattle.std.specs.Prelude.{◌⊎◌, IfSome}
use Rattle.std.proofs.lemmas.List.{take_all}
use Rattle.lj_text.specs.Streams.{SourceState}
use Rattle.lj_run.specs.Program.{CreatesAtMost, IfRun, IsFaultTold, IsOther, IsProofLost, IsReportOfAll, IsRunAnswered, IsRunCut, MayEnd, SpellsUnsatisfiable}
use Rattle.lj_run.specs.Proof.{SinkState}
use Rattle.lj_run.specs.Starting.{ProgramEnds}
use Rattle.lj_run.specs.CommandLine.{asked_by, asks_why}
use Rattle.lj_run.specs.Explanation.{IsExplained}
use Rattle.lj_run.specs.Tried.{Tried}

-- a list without its first, which it may lack
pub without_first : {X : Type 0} (xs : List X) (n : ℕ) → n ≡ min (length xs) 1 → take (length xs - n) (drop n xs) ≡ drop 1 xs
without_first {X} [] n e = let none : List X = [] in let P : ℕ → Type 0 = λ k. take (0 - k) (drop k none) ≡ drop 1 none in subst P (sym e) refl
without_first {X} (x ∷ xs) n e =
    let one : min (suc (length xs)) 1 ≡ 1 = omega arith in
    let less : suc (length xs) - 1 ≡ length xs = omega arith in
    let P : ℕ → Type 0 = λ k. take (suc (length xs) - k) (drop k (x ∷ xs)) ≡ drop 1 (x ∷ xs) in
    subst P (sym (e ∙ one)) (ap (λ k. take k xs) less ∙ take_all (length xs) xs (omega arith))

-- what the program's clauses say of these words and this status, said of those behind the first argument and of how the process ends
pub program_ends : {I W : Type 0} (seen : I → SourceState) (sink : W → SinkState) (before after : List ℕ → Option (List ℕ)) (tried_old tried_new : Tried) (given words : List (List ℕ)) (out_old out_new : List ℕ) (failures : ℕ)
    (err_old err_new : List ℕ) (errors status code : ℕ) → given ≡ words → code ≡ status
    → MayEnd (asked_by given) status
    → (status < 2 → IfRun (asked_by given) (λ run. IsRunAnswered seen sink before run out_old out_new status))
    → (status < 2 → IfRun (asked_by given) (λ run. IsReportOfAll seen sink before run out_old out_new status))
    → (status ≡ 0 → IfRun (asked_by given) (λ run. IfSome (before run.formula) SpellsUnsatisfiable))
    → (status < 2 → failures ≡ 0) → (status < 2 → asks_why (asked_by given) ≡ false → err_new ≡ err_old)
    → (status < 2 → errors ≡ 0 → IfRun (asked_by given) (λ run. IsExplained I run.explains out_old out_new err_old err_new))
    → (2 ≤ status → failures ≡ 0 → (out_new ≡ out_old) ⊎ IsProofLost seen sink before (asked_by given) out_old out_new)
    → (failures ≢ 0 → IfRun (asked_by given) (λ run. IsRunCut seen before run out_old out_new))
    → (2 ≤ status → errors ≡ 0 → IsFaultTold seen sink (asked_by given) before tried_old tried_new failures err_old err_new status)
    → ((path : List ℕ) → IsOther (asked_by given) path → after path ≡ before path)
    → CreatesAtMost (asked_by given) tried_old tried_new
    → ProgramEnds seen sink before after tried_old tried_new (asked_by words) out_old out_new failures err_old err_new errors code
program_ends seen sink before after tried_old tried_new given words out_old out_new failures err_old err_new errors status code same code_is may_end printed same_report refuted told quiet explained untouched cut fault files created =
    subst (λ ws. ProgramEnds seen sink before after tried_old tried_new (asked_by ws) out_old out_new failures err_old err_new errors code) same
    (subst (λ n. ProgramEnds seen sink before after tried_old tried_new (asked_by given) out_old out_new failures err_old err_new errors n) (sym code_is) (record {
      may_end = may_end;
      printed = printed;
      same_report = same_report;
      refuted = refuted;
      told = told;
      quiet = quiet;
      explained = explained;
      untouched = untouched;
      cut = cut;
      fault = fault;
      same_files = files;
      created = created;
    }))

-- what is untouched is so in what it took
pub taken_same : {O : Type 0} (taken : O → List ℕ) (L : Type 0) (old new : O) → (new ≡ old) ⊎ L → (taken new ≡ taken old) ⊎ L
taken_same taken L old new (inl e) = inl (ap taken e)
taken_same taken L old new (inr lost) = inr lost
