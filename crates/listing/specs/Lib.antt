pub mod Listing
pub mod Answer
