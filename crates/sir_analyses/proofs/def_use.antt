-- What the proofs of the functions of `def_use` share.
pub mod UseWords
