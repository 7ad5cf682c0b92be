-- What invariants, private functions and proofs say. No public contract names any of it.
pub mod Block
pub mod BookSeat
pub mod FormulaReading
pub mod Joint
pub mod Program
pub mod Reading
pub mod Tally
pub mod CommandLine
