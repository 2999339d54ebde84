pub mod Splits
pub mod Gives
pub mod Kept
pub mod Free
pub mod Choice
pub mod Unary
