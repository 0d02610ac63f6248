pub mod Agreeing
pub mod Working
pub mod Framing
