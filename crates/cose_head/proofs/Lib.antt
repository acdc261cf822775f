mod WorkedHeads
mod WorkedItems
mod WorkedTrees
mod WorkedAlgorithms
mod WorkedFurther
mod WorkedReasons
mod WorkedOpen
mod WorkedPlaced
mod WorkedWhole
pub mod lemmas
