pub mod Hash
pub mod Hmac
pub mod Hasher
pub mod Prepared
pub mod Running
pub mod Structure
pub mod Laws
