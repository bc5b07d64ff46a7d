-- What the proofs of the functions of `merged_intervals` share.
pub mod SweepSteps
pub mod SweepProof
pub mod MergedIntervals
