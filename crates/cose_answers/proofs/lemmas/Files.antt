pub mod Failures
pub mod FirstBytes
