pub mod Trimmed
pub mod Laws
pub mod inner
