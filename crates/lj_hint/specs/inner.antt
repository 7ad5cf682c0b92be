-- What invariants, private functions and proofs say. No public contract names any of it.
pub mod Hints
pub mod Rest
pub mod Stamps
pub mod Trail
pub mod Groups
pub mod Codes
pub mod Coverings
