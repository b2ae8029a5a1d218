pub mod AgesInTime
pub mod Timed
pub mod Steps
pub mod Runs
pub mod Segments
pub mod RunLaws
pub mod WorkedRuns
pub mod Sinks
