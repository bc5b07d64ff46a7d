-- What the proofs of the functions of `scatter` share.
pub mod Scattering
pub mod AllAnswers
pub mod PieceLaws
