-- Laws that the functions' proofs cite, and the promises' proofs.
pub mod AsComputed
pub mod CycleLaws
pub mod EachCycle
pub mod EachStep
pub mod EitherPage
pub mod Refused
pub mod SignalLaws
pub mod Stays
pub mod StepLaws
pub mod TakenLaws
