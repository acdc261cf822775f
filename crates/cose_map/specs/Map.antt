-- Maps of labels and values.
pub mod Form
pub mod Pairs
pub mod Labels
pub mod Read
pub mod Earlier
pub mod Unordered
pub mod Names
pub mod Lookup
pub mod View
pub mod Search
