pub mod Commands
pub mod DataEnds
pub mod DeviceControls
pub mod Openings
pub mod StringPlaces
