-- Merged intervals, and what they cover on every walk.
pub mod Merging
pub mod Scans
pub mod Lifetime
pub mod OpenProof
