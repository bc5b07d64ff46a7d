-- What the proofs of the functions of `all_uses` share.
pub mod UsePieces
