-- What the proofs of the functions of `owned_tables` share.
pub mod OwnedTables
