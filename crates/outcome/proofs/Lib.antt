-- The proofs of the promises, and the laws that proofs of functions cite.
pub mod AsComputed
pub mod Decided
pub mod FromTheTop
pub mod Parting
pub mod Refused
pub mod Rivals
pub mod ToldLaws
