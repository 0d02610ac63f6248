pub mod Before
pub mod Specifiers
pub mod Declarators
pub mod Named
pub mod Contents
pub mod Faults
