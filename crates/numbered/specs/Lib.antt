pub mod Bitvec
