pub mod Asked
pub mod AskedSequences
pub mod KeptRequests
