-- The examples, computed; the laws that the code and the promises rest on, of one byte, of a word and of a word's pair; the promises.
pub mod Computed
pub mod OneByte
pub mod WordLaws
pub mod PairLaws
pub mod Moves
pub mod Keeps
pub mod ReadsBack
