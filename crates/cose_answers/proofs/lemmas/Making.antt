pub mod MakeStops
pub mod Makings
