-- What the proofs of the functions of `allocation_liveness` share.
pub mod Linking
pub mod Following
pub mod Discovery
pub mod Turns
pub mod PointerTables
