-- The theorems on what is claimed of every accepted image.
pub mod order
pub mod liveness
pub mod source
pub mod marks
pub mod flags
pub mod lifetimes
pub mod chart
pub mod Proved
pub mod WriteBackProof
