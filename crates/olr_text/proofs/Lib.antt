mod SentTexts
pub mod Nesting
pub mod ListTexts
