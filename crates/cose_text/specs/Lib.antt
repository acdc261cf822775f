pub mod Date
pub mod Diagnostic
pub mod Printable
pub mod Quoted
pub mod Shown
pub mod TextForm
pub mod TextInput
