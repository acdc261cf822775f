pub mod Label
pub mod Map
pub mod Bucket
pub mod KeySet
pub mod KeyTable
pub mod ReadyKeys
pub mod Laws
pub mod Mismatch
