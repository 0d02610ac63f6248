pub mod Declaring
pub mod Next
pub mod Alone
pub mod Objects
pub mod Statics
