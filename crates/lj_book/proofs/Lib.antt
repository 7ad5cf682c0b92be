pub mod Lists
pub mod NumberMaps
mod Mapped
pub mod TableLaws
pub mod VariableLaws
pub mod GivenOrder
pub mod GivenLaws
pub mod NamedLaws
pub mod Parts
pub mod HistoryLaws
pub mod DropLaws
pub mod Copies
pub mod BookLaws
pub mod CommitLaws
pub mod TakeLaws
pub mod SoloTables
pub mod SoloStates
pub mod SoloMoves
pub mod SoloTakes
pub mod SoloWorlds
pub mod ImportRefusals
pub mod SoloSteps
pub mod ViewLaws
pub mod NamedTakes
pub mod NamedCommits
mod ReceiptForms
pub mod PrivateReplies
pub mod NamedPlays
mod OtherViews
pub mod EnteringLaws
pub mod OverLaws
pub mod FormLaws
pub mod EntryLaws
mod PlacedEntries
pub mod OwnHoldings
pub mod DecidedBeneath
pub mod Scans
pub mod BindingLaws
pub mod LeaveLaws
mod HolderBounds
mod RangeLaws
mod PrivateClauses
mod SeenClauses
mod PrivateCandidates
mod PrivateRefusals
pub mod NamedInsideLaws
mod NamedSoloViews
mod NamedAlone
mod NamedSoloEntries
mod NamedSoloLeaves
mod NamedSoloSteps
mod NamedSoloAdditions
pub mod NamedSoloRuns
mod NewLiterals
mod LimitLaws
pub mod LimitReplies
mod InsideOver
mod ClosedOver
mod JointFormLaws
pub mod PlayLaws
mod Slots
mod VariableTables
mod TakenBack
mod GivenBack
mod GivingLaws
mod WithinTop
mod Shifts
mod OpenedLaws
mod Bounds
pub mod OccurrenceLaws
mod PartLists
mod Chains
mod FirstUseLaws
pub mod InsideLaws
pub mod LineLaws
pub mod ClosedLemmas
pub mod WordLaws
pub mod RecordLaws
pub mod StepLineLemmas
mod RisingGroups
pub mod HeldSlots
pub mod CountLaws
