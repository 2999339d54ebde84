pub mod Solve
