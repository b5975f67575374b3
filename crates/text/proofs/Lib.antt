-- Laws that the functions' proofs cite, and the promises' proofs.
pub mod AsComputed
pub mod DigitLaws
pub mod FaultLaws
pub mod NewlineLaws
pub mod FrameLaws
pub mod ReadingLaws
pub mod TakingLaws
pub mod LinePromises
pub mod ChunkLaws
pub mod ReadBack
pub mod OutcomeLines
