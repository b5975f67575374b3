-- The words: bits of a number, all numbers below a bound, numbers in a list, the first of several that applies, parts laid one behind the other.
pub mod Bits
pub mod Below
pub mod Among
pub mod First
pub mod Parts
pub mod Promises
