pub mod Input
pub mod Replies
pub mod Statuses
