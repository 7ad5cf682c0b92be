-- What invariants, private functions and proofs say. No public contract names any of it.
pub mod Literal
pub mod LitCode
pub mod Codes
pub mod LiteralList
pub mod InOrder
