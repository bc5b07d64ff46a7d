-- What the proofs of the functions of `local_liveness` share.
pub mod Growth
pub mod Sending
pub mod Stepping
pub mod Passes
pub mod LivenessTables
pub mod SetAnswers
