-- What the inner functions put of a picture.
pub mod Fives
