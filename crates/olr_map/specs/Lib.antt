pub mod Rows
pub mod Faults
pub mod Table
pub mod Tables
pub mod Files
pub mod inner
