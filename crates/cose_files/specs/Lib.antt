pub mod HostFile
pub mod NewFile
