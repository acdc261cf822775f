mod WorkedMessages
mod WorkedFronts
mod WorkedHeaders
mod WorkedChoices
mod WorkedDetached
mod WorkedPayloads
mod WorkedComparisons
mod WorkedElsewhere
mod WorkedFurther
mod WorkedLimits
mod WorkedShapes
mod WorkedMaking
mod WorkedAdmission
mod WorkedSettled
mod WorkedFeeding
mod WorkedSlices
mod WorkedIntakes
pub mod lemmas
