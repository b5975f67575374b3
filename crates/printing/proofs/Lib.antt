-- The laws that the proofs of the answer line cite.
pub mod LineLaws
