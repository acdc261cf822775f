pub mod Arguments
pub mod BareHeads
pub mod HalfHead
pub mod HeadCases
pub mod Heads
