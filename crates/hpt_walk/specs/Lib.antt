pub mod Walk
pub mod PageCalls
pub mod Access
pub mod Translations
pub mod Laws
