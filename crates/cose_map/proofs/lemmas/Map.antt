pub mod First
pub mod Read
pub mod Again
pub mod Search
pub mod Labels
pub mod Ahead
pub mod Lookup
