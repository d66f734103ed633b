pub mod Replies
pub mod ReplyList
pub mod ShownTable
pub mod Slots
