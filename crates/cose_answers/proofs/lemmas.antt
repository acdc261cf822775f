pub mod Files
pub mod Keys
pub mod Making
pub mod Messages
pub mod Payloads
pub mod Requests
pub mod Sequences
pub mod Sizes
