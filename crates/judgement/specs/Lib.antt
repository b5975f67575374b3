-- Read in this order: the event table; a definition for each refusal; the judgement, the first that applies, and what the code tells of it.
pub mod Table
pub mod Refusals
pub mod Judge
pub mod Told
pub mod Promises
pub mod Examples
