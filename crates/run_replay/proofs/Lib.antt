pub mod FollowedRecords
pub mod ReplayPhases
pub mod ReplayTurns
pub mod ReplayWalks
pub mod ReplayCounts
pub mod ReplayVerdicts
