pub mod Out
pub mod Files
pub mod Rules
pub mod Search
pub mod Lists
