pub mod LiedRun
pub mod RestartRun
pub mod FetchRun
pub mod BarrierRun
mod LiedRow
mod RestartRow
mod FetchRow
mod BarrierRow
mod CompleteRow
pub mod Stepping
pub mod Leaving
pub mod Growing
