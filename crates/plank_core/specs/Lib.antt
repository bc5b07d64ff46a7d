pub mod Lists
pub mod Text
pub mod inner
pub mod laws
