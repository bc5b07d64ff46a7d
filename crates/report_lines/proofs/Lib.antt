pub mod Numbers
pub mod Intervals
pub mod TooLong
pub mod Fields
pub mod AnswerText
pub mod Decimals
