-- Sets of cards, with small ones computed. What a look drives is defined in the crate lines.
pub mod Cards
pub mod Examples
