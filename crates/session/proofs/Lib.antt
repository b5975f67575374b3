-- Laws that the functions' proofs cite, and the promises' proofs.
pub mod AsComputed
pub mod CallLaws
pub mod LineLaws
pub mod SoundLaws
pub mod LoopLaws
pub mod FeedLaws
pub mod RunPromises
pub mod PictureCount
pub mod ChunkPromises
