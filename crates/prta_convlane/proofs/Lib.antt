pub mod Eight
pub mod Limbs
pub mod Progress
pub mod Worked
