-- The examples, computed, and the proofs of the promises.
pub mod AsComputed
pub mod OnTheLines
