pub mod Laws
pub mod Redraw
pub mod Draws
pub mod Enough
pub mod Even
