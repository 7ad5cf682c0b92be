-- What invariants, private functions and proofs say. No public contract names any of it.
pub mod Marks
pub mod Front
pub mod Trimmed
