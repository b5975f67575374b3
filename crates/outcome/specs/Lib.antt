-- Read in this order: where a card loses, and to whom; the outcome for a card, its refusals and its numbers, and how the code tells it; what is
-- promised of it; small cases.
pub mod Losing
pub mod Outcomes
pub mod Told
pub mod Promises
pub mod Examples
