-- What the proofs of the functions of `open_allocations` share.
pub mod LiesAround
pub mod OpenOwners
