-- What the proofs of the functions of `reverse_post_order` share.
pub mod Visiting
pub mod Postorder
pub mod VisitTables
