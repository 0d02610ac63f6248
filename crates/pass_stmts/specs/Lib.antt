pub mod Bodies
pub mod Labels
pub mod Statements
pub mod Printed
pub mod Laws
