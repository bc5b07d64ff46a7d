-- What the proofs of the functions of `all_predecessors` share.
pub mod EdgePieces
