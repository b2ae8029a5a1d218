pub mod KeyForms
pub mod LegacyTexts
pub mod Telling
pub mod KittyTexts
pub mod KittyLaws
