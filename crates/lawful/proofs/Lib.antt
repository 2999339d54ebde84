pub mod Steady
pub mod Steps
pub mod Plays
