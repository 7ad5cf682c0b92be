-- What invariants, private functions and proofs say. No public contract names any of it.
pub mod Bytes
pub mod LineReading
pub mod LinesBuffered
pub mod Looking
pub mod TokenNumbers
pub mod ShortNumbers
pub mod Windows
pub mod CnfReading
pub mod CnfResuming
pub mod CnfBuffered
pub mod Numbers
pub mod Groups
pub mod StepText
pub mod Writing
pub mod Codes
