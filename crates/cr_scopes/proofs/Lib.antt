pub mod Noted
pub mod Spellings
pub mod Followed
pub mod Built
pub mod Ended
pub mod One
