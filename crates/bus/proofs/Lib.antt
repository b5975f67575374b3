-- Laws that the functions' proofs cite, and the promises' proofs.
pub mod AsComputed
pub mod Granting
pub mod Kept
pub mod LookRuns
pub mod SenseLaws
pub mod SettleLaws
pub mod SettleAnswers
pub mod SetUp
pub mod ToldLaws
