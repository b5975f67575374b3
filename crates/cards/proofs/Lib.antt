-- The small sets, and the laws of sets and of a look's places.
pub mod AsComputed
pub mod CardLaws
pub mod PlaceLaws
