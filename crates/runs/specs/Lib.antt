-- Read in this order: runs; what is promised of them; single runs, the marked table among them.
pub mod Run
pub mod Promises
pub mod Examples
