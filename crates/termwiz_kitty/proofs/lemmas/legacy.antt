pub mod ReadAsOne
pub mod WaitingKeys
pub mod ComputedReports
pub mod LegacyKeys
