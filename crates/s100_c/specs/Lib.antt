-- Read in this order: the places of the fields; the calls; the one on outcomes and the two on pictures; runs of calls; what is promised of them.
pub mod Layout
pub mod Calls
pub mod Outcomes
pub mod Pictures
pub mod Run
pub mod Promises
pub mod Examples
