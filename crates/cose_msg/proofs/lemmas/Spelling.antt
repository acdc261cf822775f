pub mod ArraysOfFour
pub mod Authentications
pub mod OneSpelling
pub mod Spelled
pub mod SpelledMessages
pub mod Spellings
