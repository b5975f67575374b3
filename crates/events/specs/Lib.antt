-- Read in this order: the bus with its memory and ports; what a cycle moves; what is answered; the step.
pub mod Machine
pub mod Cycles
pub mod Answers
pub mod Step
pub mod Promises
pub mod Examples
