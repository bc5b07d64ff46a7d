-- The source's own loops come to the same answers.
pub mod Tables
pub mod Merging
pub mod Scans
pub mod Liveness
pub mod AnyOrder
pub mod Discovery
pub mod Steps
pub mod Marks
pub mod Owners
pub mod Intervals
pub mod SourceProof
