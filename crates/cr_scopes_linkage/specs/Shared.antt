pub mod Sorts
pub mod Origins
pub mod Laws
