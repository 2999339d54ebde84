pub mod Settle
pub mod Start
