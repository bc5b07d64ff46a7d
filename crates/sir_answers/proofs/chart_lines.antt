-- What the proofs of the functions of `chart_lines` share.
pub mod IndexDigits
pub mod LineTexts
