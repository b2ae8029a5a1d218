pub mod ExtendedFlushes
pub mod TextsApart
pub mod Things
pub mod PressRuns
pub mod WorkedPresses
