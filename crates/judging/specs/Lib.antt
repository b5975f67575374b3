-- What the inner functions of `judge` promise. What `judge` itself promises is in `judgement`.
pub mod Turns
