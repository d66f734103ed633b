pub mod PutBack
pub mod BitFields
pub mod DigitTexts
pub mod Lengths
pub mod Rows
