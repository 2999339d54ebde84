pub mod Marks
pub mod Walking
pub mod Finishing
pub mod Spreading
