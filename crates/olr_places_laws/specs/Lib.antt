pub mod Laws
pub mod VerdictLaws
