-- Laws of pictures that the functions' proofs cite, and the promises' proofs.
pub mod TableLaws
pub mod AsComputed
pub mod DigitLaws
pub mod GatherLaws
pub mod PinLaws
pub mod TopBitFirst
pub mod MomentLaws
pub mod AnswerLaws
pub mod EventPictures
pub mod HandedAnswer
pub mod ReadBack
