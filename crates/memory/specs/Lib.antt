-- Bytes and words in memory: the datum's halves, what answers a cycle, what a cycle moves and leaves, what is promised of it, and five bytes as an example.
pub mod Moved
pub mod Halves
pub mod Slave
pub mod Cycles
pub mod Told
pub mod Promises
pub mod Examples
