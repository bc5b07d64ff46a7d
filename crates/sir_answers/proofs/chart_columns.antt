-- What the proofs of the functions of `chart_columns` share.
pub mod ColumnLaws
