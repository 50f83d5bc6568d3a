pub mod Laws
pub mod AnswerLaws
pub mod HeadlineOutputs
pub mod Headline
pub mod FingerprintLaws
pub mod RecordLaws
