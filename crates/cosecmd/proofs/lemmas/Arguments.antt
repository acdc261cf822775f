pub mod AskedMaking
pub mod AskedSequences
pub mod ChecksAsked
pub mod CommandLines
pub mod KeptRequests
pub mod Options
pub mod RequiredOptions
pub mod TextRequests
