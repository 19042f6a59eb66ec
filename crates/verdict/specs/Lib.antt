-- The definitions of the verdict.
pub mod Verdict
