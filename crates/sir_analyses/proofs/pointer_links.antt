-- What the proofs of the functions of `pointer_links` share.
pub mod PointerLinks
