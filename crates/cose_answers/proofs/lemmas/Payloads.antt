pub mod KeptPayloads
pub mod PayloadFiles
pub mod ShortPayloads
pub mod WrittenPieces
