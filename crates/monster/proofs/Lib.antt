pub mod OneMove
