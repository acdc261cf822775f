pub mod AllowedKeys
pub mod KeyFiles
