-- What the proofs of the functions of `lent_records` share.
pub mod LentWords
