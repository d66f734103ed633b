mod Bits
mod ViewLists
mod Frame
mod TakenSteps
mod MachineMoves
mod PassSteps
mod StepKinds
mod Places
mod SecondLooks
mod SolePass
mod StoredWords
mod HolderOperations
mod AlikeDoings
mod AccessOperations
pub mod AllowedSteps
mod ViewChanges
mod SplitsAndJoins
mod Closings
pub mod StatesAtRest
mod Openings
pub mod LineFronts
mod LineOperations
mod CallStepFacts
mod LineFacts
mod BitsAndFronts
mod OperationLaws
mod WaitingFacts
mod LeftStates
