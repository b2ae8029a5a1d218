pub mod Ages
pub mod TimerLaws
pub mod ExpirySteps
pub mod FlushedRests
pub mod Runs
