pub mod AfterNil
pub mod Attached
pub mod BothAnswered
pub mod BothTaken
pub mod PayloadElsewhere
pub mod PayloadRuns
pub mod PayloadStays
pub mod PayloadTaken
