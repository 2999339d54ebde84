pub mod Numbers
pub mod Tests
pub mod Reaching
pub mod Ranks
pub mod Free
pub mod Fitting
