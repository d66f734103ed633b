pub mod Layouts
pub mod Image
