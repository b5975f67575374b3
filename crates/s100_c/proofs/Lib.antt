-- Laws that the functions' proofs cite, and the promises' proofs.
pub mod AsComputed
pub mod LayoutLaws
pub mod CallLaws
pub mod ReadBack
pub mod CallPromises
pub mod OwnNumber
pub mod OutcomePromises
pub mod PicturePromises
