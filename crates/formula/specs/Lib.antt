pub mod File
pub mod Graph
pub mod View
