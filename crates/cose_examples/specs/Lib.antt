pub mod Context
pub mod Firmware
pub mod Line
pub mod Memory
pub mod Signatures
pub mod Token
