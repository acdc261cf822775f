pub mod AskedKeys
pub mod Listings
pub mod VouchedSignatures
