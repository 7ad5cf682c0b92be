-- What is said of streams that ended at a line.
use Rattle.std.specs.Prelude.{◌≡◌, ◌⊎◌, ℕ, ◌+◌, Bool, true, false, List, [], ◌∷◌, ◌++◌, codes, decimal}
use Rattle.lj_run.specs.declared.outcome.End.{End}
use Rattle.lj_run.specs.declared.outcome.End.TheVariants.{Ended, Stopped, Line as AtLine}
use Rattle.lj_run.specs.declared.outcome.Outcome.{Outcome}
use Rattle.lj_run.specs.declared.outcome.Report.{Report}
use Rattle.lj_run.specs.OutcomeText.{outcome_text}

-- what is said of a line of a stream, by their numbers
abbrev pub sentence : ℕ → ℕ → List ℕ → List ℕ
sentence stream line what = codes "lratjoin: stream "
    ++ (decimal stream ++ (codes ", line " ++ (decimal line ++ (codes ": "
    ++ (what ++ codes "\n")))))

-- the text is a sentence on the stream of this number, which ended so, at a line
abbrev pub IsSentence : ℕ → End → List ℕ → Type 0
IsSentence stream Ended text = ⊥
IsSentence stream Stopped text = ⊥
IsSentence stream (AtLine line why) text = (what : List ℕ) × (text ≡ sentence stream line what)

-- the same, or nothing is said
abbrev pub MaySay : ℕ → End → List ℕ → Type 0
MaySay stream end text = (text ≡ []) ⊎ IsSentence stream end text

-- the text is what is said of these streams in order, the first of which has this number: a sentence at most, where it ended at a line
abbrev pub AreSentences : {S : Type 0} → ℕ → List (Report S) → List ℕ → Type 0
AreSentences stream [] text = text ≡ []
AreSentences stream (report ∷ reports) text = (one : List ℕ) × (rest : List ℕ)
    × (text ≡ one ++ rest) × MaySay stream report.end one
    × AreSentences (stream + 1) reports rest

-- the same where it is asked for, and else nothing
abbrev pub IsExplanation : {S : Type 0} → Bool → List (Report S) → List ℕ → Type 0
IsExplanation true reports text = AreSentences 0 reports text
IsExplanation false reports text = text ≡ []

-- The text of an outcome was taken on standard output, and on standard error what is said of its streams, where that is asked for.
pub record IsExplained (S : Type 0) (explains : Bool)
    (out_old out_new err_old err_new : List ℕ) : Type 0 where
  pub outcome : Outcome S
  pub printed : out_new ≡ out_old ++ outcome_text outcome
  pub said : List ℕ
  pub explanation : IsExplanation explains outcome.reports.items said
  pub told : err_new ≡ err_old ++ said
