-- Read in this order: the answers; the state, its sense and setup; the steps, one by one and together; settle; what the code's results tell; what is
-- promised; runs.
pub mod Refusal
pub mod State
pub mod Sense
pub mod Setup
pub mod Steps
pub mod Step
pub mod Settle
pub mod Told
pub mod Promises
pub mod Examples
