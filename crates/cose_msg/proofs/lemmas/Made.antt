pub mod MadeHeaders
pub mod MadeMessages
pub mod Makes
pub mod Making
pub mod Puts
pub mod SpelledBuckets
pub mod SpelledItems
pub mod Streaming
