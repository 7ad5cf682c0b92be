mod MarkLemmas
mod ClosureLemmas
pub mod FrontLemmas
mod TrimmedLemmas
mod RestrictLemmas
pub mod RefutationLemmas
