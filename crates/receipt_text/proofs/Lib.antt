pub mod Bytes
mod DigitSteps
mod MarkRows
pub mod MarkTexts
pub mod ReadBack
mod ReadNumbers
pub mod ReceiptRows
mod ReceiptSteps
