-- Read in this order: what a line is answered, and where it leads; a call that takes text in; the whole output.
pub mod World
pub mod Feeding
pub mod Output
pub mod Promises
pub mod Examples
