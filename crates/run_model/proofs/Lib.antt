pub mod HeldLines
pub mod Commits
pub mod LinesByProcessor
pub mod LineReceipts
pub mod StoreLines
pub mod StoreNumbers
pub mod TableNamed
pub mod Undisturbed
pub mod SectionGood
pub mod WindowCalls
pub mod OneReply
pub mod CachesHold
pub mod SerialReplies
pub mod Memories
pub mod SerialGood
pub mod StoreSerial
pub mod WindowLines
pub mod ParallelGood
pub mod SerialParallel
pub mod OneProcessor
pub mod OneGoodRun
pub mod SideBySide
mod FirstStore
pub mod CachesUsed
pub mod Resized
pub mod SectionChain
pub mod Stores
pub mod StoresKept
pub mod LowStamps
pub mod SafeReplies
pub mod PlacedCaches
pub mod PlainTables
mod BusLines
pub mod OpeningEntries
mod RehashedStates
mod StoredReplies
pub mod LowStampRuns
mod EnteredEntries
pub mod TableSizes
mod ReadAgain
mod OpeningAgain
pub mod AllSafe
pub mod CallLines
pub mod WindowStates
pub mod RamBytes
pub mod WindowsSafe
pub mod BusyLines
pub mod ClearedBits
pub mod Refusals
pub mod RefusedLines
pub mod RefusedWindows
pub mod RefusedResizes
pub mod SmallPartition
mod AssuranceRows
mod CachedAccessRows
pub mod HistoryRows
mod SectionRows
mod ParallelRows
mod RefusedRows
mod WindowRows
mod OpeningAgainRows
pub mod ProcessorLists
pub mod MaskedAccesses
pub mod GoodAssured
mod StoreLaws
