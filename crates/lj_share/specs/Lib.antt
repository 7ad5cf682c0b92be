pub mod Seats
pub mod Entries
pub mod Refusals
pub mod Entered
pub mod inner
