-- Read in this order: one look; an arbitration and the looks in it; what is promised of any number of lines, and of four; runs on four lines.
pub mod Look
pub mod Arbitration
pub mod Promises
pub mod Examples
