-- What the proofs of the functions of `all_allocations` share.
pub mod AllocationPieces
pub mod SweptEnds
