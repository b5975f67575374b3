-- The words at small numbers; their laws, and a few laws of library operations that the library lacks.
pub mod AtSmallNumbers
pub mod TestLaws
pub mod BitLaws
pub mod BelowLaws
pub mod ListLaws
pub mod FirstLaws
pub mod RowLaws
pub mod PartLaws
pub mod PlacedLaws
