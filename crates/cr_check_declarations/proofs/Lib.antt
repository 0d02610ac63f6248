pub mod Adjusted
