-- Laws that the functions' proofs cite, and the promises' proofs.
pub mod AsComputed
pub mod Passed
pub mod TableLaws
pub mod ToldLaws
