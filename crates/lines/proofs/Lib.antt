-- The runs, computed; then the proofs of what is promised, from one look up to the four lines.
pub mod Computed
pub mod LookLaws
pub mod ContenderLaws
pub mod LevelLaws
pub mod HighestLaws
pub mod Settling
pub mod Unique
pub mod Listed
pub mod NumberedCards
pub mod FourLines
