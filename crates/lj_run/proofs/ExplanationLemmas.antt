-- What is said of streams, one after another.
use Rattle.std.proofs.Common.{◌≡◌, ℕ, suc, ◌+◌, ◌<◌, Bool, true, false, List, [], ◌∷◌, ◌++◌, length, take, refl, sym, ap, ◌∙◌, subst, append-nil, append_assoc, add-zero, get_or, arith}
use Rattle.std.specs.Prelude.{Result, Ok, Err, OnOk}
use Rattle.std.proofs.lemmas.List.{take_more, length-take}
use Rattle.lj_run.specs.declared.outcome.Report.{Report}
use Rattle.lj_run.specs.Explanation.{AreSentences, IsExplained, MaySay}

-- what is said of one more stream stands behind the rest
AreSentences-push : {S : Type 0} (reports : List (Report S)) (n : ℕ) (report : Report S) (text one : List ℕ) → AreSentences n reports text → MaySay (n + length reports) report.end one
    → AreSentences n (reports ++ report ∷ []) (text ++ one)
AreSentences-push [] n report text one is last = (one, [], ap (λ t. t ++ one) is ∙ sym (append-nil one), subst (λ k. MaySay k report.end one) (add-zero n) last, refl)
AreSentences-push (r ∷ reports) n report text one is last =
    let same : n + suc (length reports) ≡ n + 1 + length reports = omega arith in
    (is.0, is.1 ++ one, ap (λ t. t ++ one) is.2 ∙ append_assoc is.0 is.1 one, is.3, AreSentences-push reports (n + 1) report is.1 one is.4 (subst (λ k. MaySay k report.end one) same last))

-- one stream more
pub sentences_more : {S : Type 0} (reports : List (Report S)) (k : ℕ) (report : Report S) (text after one : List ℕ) → k < length reports → report ≡ get_or reports k report
    → AreSentences 0 (take k reports) text → after ≡ text ++ one → MaySay k report.end one → AreSentences 0 (take (k + 1) reports) after
sentences_more reports k report text after one low here so_far is says =
    let len : k ≡ 0 + length (take k reports) = omega (arith, length-take k reports) in
    let last : MaySay (0 + length (take k reports)) (get_or reports k report).end one =
    subst (λ n. MaySay n (get_or reports k report).end one) len (subst (λ (r : Report _). MaySay k r.end one) here says) in
    subst (AreSentences 0 (take (k + 1) reports)) (sym is)
    (subst (λ rs. AreSentences 0 rs (text ++ one)) (sym (take_more reports k report low)) (AreSentences-push (take k reports) 0 (get_or reports k report) text one so_far last))

-- what is said was told on standard error
explained_on : {S : Type 0} (explains : Bool) (out_old out_new said err_old err_new : List ℕ) → IsExplained S explains out_old out_new [] said → err_new ≡ err_old ++ said
    → IsExplained S explains out_old out_new err_old err_new
explained_on explains out_old out_new said err_old err_new is took = record {
  outcome = is.outcome;
  printed = is.printed;
  said = is.said;
  explanation = is.explanation;
  told = took ∙ ap (λ t. err_old ++ t) is.told;
}

-- nothing was to be said
unexplained_on : {S : Type 0} (out_old out_new said err_old err_new : List ℕ) → IsExplained S false out_old out_new [] said → err_new ≡ err_old → IsExplained S false out_old out_new err_old err_new
unexplained_on out_old out_new said err_old err_new is same = record {
  outcome = is.outcome;
  printed = is.printed;
  said = is.said;
  explanation = is.explanation;
  told = same ∙ sym (append-nil err_old) ∙ ap (λ t. err_old ++ t) (sym is.explanation);
}

-- what is to be said was told, unless something else was
pub told_on : {S A B : Type 0} (r : Result A B) (explains : Bool) (P : Type 0) (out_old out_new said text err_old err_new : List ℕ) → IsExplained S explains out_old out_new [] said → text ≡ said
    → (explains ≡ false → err_new ≡ err_old) → (explains ≡ true → OnOk r (P → err_new ≡ err_old ++ text)) → OnOk r (P → IsExplained S explains out_old out_new err_old err_new)
told_on (Ok x) true P out_old out_new said text err_old err_new is same quiet told = λ p. explained_on true out_old out_new said err_old err_new is (told refl p ∙ ap (λ t. err_old ++ t) same)
told_on (Ok x) false P out_old out_new said text err_old err_new is same quiet told = λ p. unexplained_on out_old out_new said err_old err_new is (quiet refl)
told_on (Err e) explains P out_old out_new said text err_old err_new is same quiet told = tt
