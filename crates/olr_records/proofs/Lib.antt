mod Common
pub mod RecordSteps
pub mod ReaderSteps
pub mod Digits
pub mod Signs
pub mod Cuts
pub mod Items
