pub mod Table
pub mod Founded
