-- The laws that the proofs of pictures cite.
pub mod FiveLaws
pub mod LevelLaws
pub mod FilledLaws
pub mod StillLaws
pub mod KindLaws
