-- What the proofs of the functions of `all_intervals` share.
pub mod IntervalPieces
pub mod OpenEnds
