pub mod Digest
pub mod Fingerprint
