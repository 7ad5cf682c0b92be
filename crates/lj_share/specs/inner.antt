-- What invariants, private functions and proofs say. No public contract names any of it.
pub mod Bindings
pub mod Seats
pub mod Codes
pub mod OwnCode
pub mod Copies
pub mod WithEntry
pub mod Lines
pub mod Dead
pub mod Ahead
pub mod Runs
