-- Read in this order: digits and numbers; what is wrong with a line; the lines of a text; the two frames; the answer line and the outcome line; a
-- text read line by line, and in chunks; what the code's results tell of all that.
pub mod Digits
pub mod Faults
pub mod Newlines
pub mod Frames
pub mod AnswerLine
pub mod OutcomeLine
pub mod Reading
pub mod Chunks
pub mod Told
pub mod Promises
pub mod Examples
