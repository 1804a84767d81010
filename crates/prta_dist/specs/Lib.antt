pub mod Addition
pub mod Curve
pub mod Window
pub mod Dense
pub mod Laws
pub mod Worked
