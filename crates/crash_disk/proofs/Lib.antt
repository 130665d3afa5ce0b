pub mod Runs
pub mod TornBytes
mod WrittenOver
mod RecordedCalls
mod CallLaws
mod Images
mod Replays
