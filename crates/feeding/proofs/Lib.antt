-- Laws that proofs of two functions cite.
pub mod ClosingLaws
pub mod SayingLaws
pub mod SettingLaws
