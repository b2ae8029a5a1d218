pub mod StringItems
pub mod ExtendedItems
pub mod StringRests
pub mod StringFronts
pub mod ExtendedRests
pub mod ExtraHeads
