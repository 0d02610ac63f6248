pub mod Told
pub mod Serving
pub mod Remembering
pub mod Channels
