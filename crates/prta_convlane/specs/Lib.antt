pub mod Limbs
pub mod Progress
pub mod Laws
pub mod Worked
