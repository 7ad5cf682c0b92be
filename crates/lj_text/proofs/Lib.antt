pub mod Evaluation
pub mod StepLaws
pub mod NeededLaws
mod CnfLemmas
mod CutLemmas
mod DigitLemmas
mod GroupRows
mod TokenNumberLemmas
mod JudgeLemmas
mod LaneLemmas
mod OnePassLemmas
mod PassLemmas
mod ReaderLemmas
pub mod StandLemmas
mod TakeLemmas
mod ShortLemmas
mod WindowLemmas
mod TokenLemmas
pub mod Fronts
pub mod WritingLemmas
mod WordLemmas
pub mod WrittenTokens
mod WrittenNumbers
mod ReadAgainLemmas
mod RunLemmas
