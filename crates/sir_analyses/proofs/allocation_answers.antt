-- What the proofs of the functions of `allocation_answers` share.
pub mod AllocationWords
