pub mod Lines
pub mod Counting
pub mod inner
pub mod Examples
