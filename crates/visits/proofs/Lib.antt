pub mod Has
pub mod Walk
pub mod Listed
pub mod Stack
