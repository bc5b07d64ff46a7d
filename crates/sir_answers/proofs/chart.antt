-- What the proofs of the functions of `chart` share.
pub mod BlockLines
pub mod ChartTexts
