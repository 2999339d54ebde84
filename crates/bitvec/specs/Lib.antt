pub mod Word
pub mod Inverse
pub mod Debug
pub mod SmtLib
