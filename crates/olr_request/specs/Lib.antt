pub mod ConfidenceFile
pub mod Fault
pub mod Request
pub mod Question
