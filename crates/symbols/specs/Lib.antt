pub mod Operators
pub mod Refusals
pub mod Graph
pub mod Width
pub mod Reaching
pub mod Order
