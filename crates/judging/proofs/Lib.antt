-- Laws that the functions' proofs cite.
pub mod KindLaws
pub mod TurnLaws
