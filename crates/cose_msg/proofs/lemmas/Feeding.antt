pub mod Cuts
pub mod Feeds
pub mod PayloadsKnown
pub mod Statuses
